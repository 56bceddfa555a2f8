use mathlib.Core.Path.{sym}
use Prim.Native.Nat.{◌+◌, ◌≤◌, ◌<◌, ◌-◌, ◌/◌}
use native.Mathlib.Omega.{arith}
use borrow.Author.Tests.{eq-eqb, ne_eqb}
use Rattle.deck.specs.Parts.{list_word}
use Rattle.deck.specs.Rows.{word_is}
use Rattle.deck.proofs.BelowLaws.{any-stops, any-nowhere}
use Rattle.deck.proofs.FormLaws.{row-rising}
use Rattle.deck.proofs.SearchLaws.{narrow_start, narrow-up, narrow-down, narrow-none}
use Rattle.deck.proofs.TrailerLaws.{count-within}
use Rattle.deck.proofs.parts.Parts.find_word.Goals as goal
use Rattle.deck.proofs.parts.Parts.find_word.Goals.{In-loop-lo}

pub loop-lo-init : goal.loop-lo-init
loop-lo-init c =
    narrow_start _ c.args.count c.args.x

-- the middle lies between the two ends
within : (c : In-loop-lo) → let l = c.loop-lo in
    (l.lo ≤ l.lo + (l.hi - l.lo) / 2) × (l.lo + (l.hi - l.lo) / 2 < l.hi) × (l.hi ≤ c.args.count)
within c = (omega arith, omega arith, c.loop-lo.invariant.end)

room : (c : In-loop-lo) → c.args.start + c.args.count ≤ 262144
room c = omega (arith, c.requires.count_bound, count-within _ c.args.self.now.framed 6 (omega arith))

pub overflow_add-mid : goal.overflow_add-mid
overflow_add-mid c =
    omega (arith, within (goal.at.overflow_add-mid c).In-loop-lo, room (goal.at.overflow_add-mid c).In-loop-lo)

pub overflow_add-start : goal.overflow_add-start
overflow_add-start c =
    omega (arith, within (goal.at.overflow_add-start c).In-loop-lo, room (goal.at.overflow_add-start c).In-loop-lo)

pub list_word-at-requires : goal.list_word-at-requires
list_word-at-requires c =
    omega (arith, within (goal.at.list_word-at-requires c).In-loop-lo, c.requires.count_bound)

pub returns-then-at-x : goal.returns-then-at-x
returns-then-at-x c =
    let a = c.args in
    let l = c.loop-lo in
    let mid = l.lo + (l.hi - l.lo) / 2 in
    sym (any-stops (word_is a.self.now.bytes.now a.start a.x) mid a.count (omega (arith, within (goal.at.returns-then-at-x c).In-loop-lo)) (eq-eqb (list_word a.self.now.bytes.now (a.start + mid)) a.x (omega (arith, c.list_word-at.ensures, c.if-at-x.true))))

pub overflow_add-lo : goal.overflow_add-lo
overflow_add-lo c =
    omega (arith, within (goal.at.overflow_add-lo c).In-loop-lo, room (goal.at.overflow_add-lo c).In-loop-lo)

pub loop-lo-smaller-then-at-x-2 : goal.loop-lo-smaller-then-at-x-2
loop-lo-smaller-then-at-x-2 c =
    omega (arith, within (goal.at.loop-lo-smaller-then-at-x-2 c).In-loop-lo)

pub loop-lo-preserved-then-at-x-2 : goal.loop-lo-preserved-then-at-x-2
loop-lo-preserved-then-at-x-2 c =
    narrow-up (λ i. list_word c.args.self.now.bytes.now (c.args.start + i)) c.args.count (row-rising _ _ _ c.requires.count_value) c.loop-lo.invariant _ (within (goal.at.loop-lo-preserved-then-at-x-2 c).In-loop-lo).0 (within (goal.at.loop-lo-preserved-then-at-x-2 c).In-loop-lo).1 (omega (arith, c.list_word-at.ensures, c.if-at-x-2.true))

pub loop-lo-smaller : goal.loop-lo-smaller
loop-lo-smaller c =
    omega (arith, within (goal.at.loop-lo-smaller c).In-loop-lo)

pub loop-lo-preserved : goal.loop-lo-preserved
loop-lo-preserved c =
    narrow-down (λ i. list_word c.args.self.now.bytes.now (c.args.start + i)) c.args.count (row-rising _ _ _ c.requires.count_value) c.loop-lo.invariant _ (within (goal.at.loop-lo-preserved c).In-loop-lo).0 (within (goal.at.loop-lo-preserved c).In-loop-lo).1 (omega (arith, c.list_word-at.ensures, c.if-at-x.false, c.if-at-x-2.false))

pub returns : goal.returns
returns c =
    let a = c.args in
    sym (any-nowhere (word_is a.self.now.bytes.now a.start a.x) a.count
    (λ i l. ne_eqb (list_word a.self.now.bytes.now (a.start + i)) a.x (narrow-none (λ i. list_word a.self.now.bytes.now (a.start + i)) a.count c.loop-lo.invariant c.loop-lo-test.false i l)))
