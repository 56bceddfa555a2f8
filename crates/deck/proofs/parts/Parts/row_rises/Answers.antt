use mathlib.Core.Path.{◌≡◌, sym}
use Prim.Native.Nat.{◌-◌}
use native.Mathlib.Omega.{arith}
use Rattle.deck.specs.Rows.{word_rises}
use Rattle.deck.proofs.BelowLaws.{all_none, all-next}
use Rattle.deck.proofs.TrailerLaws.{count-within}
use Rattle.deck.proofs.parts.Parts.row_rises.Goals as goal

pub loop-i-init : goal.loop-i-init
loop-i-init c =
    sym (all_none _)

pub overflow_add-start : goal.overflow_add-start
overflow_add-start c =
    omega (arith, count-within _ c.args.self.now.framed 6 (omega arith))

pub overflow_add-start-in-loop-i : goal.overflow_add-start-in-loop-i
overflow_add-start-in-loop-i c =
    omega (arith, count-within _ c.args.self.now.framed 6 (omega arith))

pub overflow_add-start-in-loop-i-2 : goal.overflow_add-start-in-loop-i-2
overflow_add-start-in-loop-i-2 c =
    omega (arith, count-within _ c.args.self.now.framed 6 (omega arith))

pub loop-i-preserved : goal.loop-i-preserved
loop-i-preserved c =
    let a = c.args in
    rw (all-next (word_rises a.self.now.bytes.now a.start) c.loop-i.i, c.loop-i.invariant, c.list_word.ensures, c.list_word-in-loop-i.ensures)

pub returns : goal.returns
returns c =
    let e : c.loop-i.i ≡ c.args.count - 1 = omega arith in
    rw e at c.loop-i.invariant
