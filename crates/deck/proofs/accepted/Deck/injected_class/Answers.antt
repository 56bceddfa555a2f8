use mathlib.Core.Path.{sym, ◌∙◌}
use Prim.Native.Nat.{◌+◌, ◌≤◌, ◌<◌, ◌-◌, ◌/◌}
use native.Mathlib.Omega.{arith}
use Rattle.deck.specs.Trailer.{part_count}
use Rattle.deck.specs.Reads.{injected_key}
use Rattle.deck.proofs.AcceptedLaws.{framed}
use Rattle.deck.proofs.DeckLaws.{class-count, role-count}
use Rattle.deck.proofs.InjectedLaws.{keys-rise, injected-found, injected-absent}
use Rattle.deck.proofs.SearchLaws.{narrow_start, narrow-up, narrow-down, narrow-none}
use Rattle.deck.proofs.TrailerLaws.{count-within}
use Rattle.deck.proofs.accepted.Deck.injected_class.Goals as goal
use Rattle.deck.proofs.accepted.Deck.injected_class.Goals.{In-loop-lo, Start}

-- y is below 4,096 and r below 1,024
small : (c : Start) → (c.args.y.0 < 4096) × (c.args.r.0 < 1024)
small c =
    let s = c.args.self.now.bytes.now in
    let f = framed s c.args.self.now.accepted in
    (omega (arith, c.requires.y_bound, class-count s, count-within s f 0 (omega arith)), omega (arith, c.requires.r_bound, role-count s, count-within s f 1 (omega arith)))

pub overflow_mul-x : goal.overflow_mul-x
overflow_mul-x c =
    omega (arith, small (goal.at.overflow_mul-x c).Start)

pub overflow_add-x : goal.overflow_add-x
overflow_add-x c =
    omega (arith, small (goal.at.overflow_add-x c).Start)

pub loop-lo-init : goal.loop-lo-init
loop-lo-init c =
    rw (c.count-hi.ensures, c.parts-parts.ensures) (narrow_start _ _ _)

-- the middle lies between the two ends
within : (c : In-loop-lo) → let l = c.loop-lo in
    (l.lo ≤ l.lo + (l.hi - l.lo) / 2) × (l.lo + (l.hi - l.lo) / 2 < l.hi) × (l.hi ≤ part_count c.args.self.now.bytes.now 2)
within c = (omega arith, omega arith, c.loop-lo.invariant.end)

room : (c : In-loop-lo) → part_count c.args.self.now.bytes.now 2 ≤ 4096
room c = count-within _ (framed _ c.args.self.now.accepted) 2 (omega arith)

pub overflow_add-mid : goal.overflow_add-mid
overflow_add-mid c =
    omega (arith, within (goal.at.overflow_add-mid c).In-loop-lo, room (goal.at.overflow_add-mid c).In-loop-lo)

pub key-at-requires : goal.key-at-requires
key-at-requires c =
    omega (arith, within (goal.at.key-at-requires c).In-loop-lo)

pub part_word-requires-clause-k_bound : goal.part_word-requires-clause-k_bound
part_word-requires-clause-k_bound c =
    rw c.parts-parts.ensures (omega (arith, within (goal.at.part_word-requires-clause-k_bound c).In-loop-lo))

pub returns-then-at-x : goal.returns-then-at-x
returns-then-at-x c =
    let l = c.loop-lo in
    let mid = l.lo + (l.hi - l.lo) / 2 in
    let k = c.key-at in
    rw (c.part_word.ensures, c.parts-parts.ensures) (injected-found c.args.self.now.bytes.now c.args.self.now.accepted c.args.y.0 c.args.r.0 c.requires.r_bound mid (omega (arith, within (goal.at.returns-then-at-x c).In-loop-lo)) (sym k.ensures ∙ c.if-at-x.true))

pub overflow_add-lo : goal.overflow_add-lo
overflow_add-lo c =
    omega (arith, within (goal.at.overflow_add-lo c).In-loop-lo, room (goal.at.overflow_add-lo c).In-loop-lo)

pub loop-lo-smaller-then-at-x-2 : goal.loop-lo-smaller-then-at-x-2
loop-lo-smaller-then-at-x-2 c =
    omega (arith, within (goal.at.loop-lo-smaller-then-at-x-2 c).In-loop-lo)

pub loop-lo-preserved-then-at-x-2 : goal.loop-lo-preserved-then-at-x-2
loop-lo-preserved-then-at-x-2 c =
    let s = c.args.self.now.bytes.now in
    narrow-up (injected_key s) (part_count s 2) (keys-rise s c.args.self.now.accepted) c.loop-lo.invariant _ (within (goal.at.loop-lo-preserved-then-at-x-2 c).In-loop-lo).0 (within (goal.at.loop-lo-preserved-then-at-x-2 c).In-loop-lo).1 (omega (arith, c.key-at.ensures, c.if-at-x-2.true))

pub loop-lo-smaller : goal.loop-lo-smaller
loop-lo-smaller c =
    omega (arith, within (goal.at.loop-lo-smaller c).In-loop-lo)

pub loop-lo-preserved : goal.loop-lo-preserved
loop-lo-preserved c =
    let s = c.args.self.now.bytes.now in
    narrow-down (injected_key s) (part_count s 2) (keys-rise s c.args.self.now.accepted) c.loop-lo.invariant _ (within (goal.at.loop-lo-preserved c).In-loop-lo).0 (within (goal.at.loop-lo-preserved c).In-loop-lo).1 (omega (arith, c.key-at.ensures, c.if-at-x.false, c.if-at-x-2.false))

pub returns : goal.returns
returns c =
    let s = c.args.self.now.bytes.now in
    injected-absent s c.args.self.now.accepted c.args.y.0 c.args.r.0 c.requires.r_bound (narrow-none (injected_key s) (part_count s 2) c.loop-lo.invariant c.loop-lo-test.false)
