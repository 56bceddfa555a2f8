use mathlib.Core.Path.{sym, ◌∙◌}
use native.Mathlib.Omega.{arith}
use Rattle.deck.specs.Reads.{list_of}
use Rattle.deck.proofs.TableLaws.{list_length}
use Rattle.atoms.proofs.ListWalks.{insert-end, insert-step}
use Rattle.atoms.proofs.marks.mark_operands.Goals as goal

pub loop-i-preserved : goal.loop-i-preserved
loop-i-preserved c =
    let r = c.args.list in
    let w = c.loop-i in
    w.invariant ∙ insert-step (list_of c.args.deck.now.bytes.now r) w.i w.marks (omega (arith, list_length c.args.deck.now.bytes.now r.start r.count)) (rw c.operand.ensures.is at c.insert_bit.ensures)

pub returns : goal.returns
returns c =
    let r = c.args.list in
    insert-end (list_of c.args.deck.now.bytes.now r) c.loop-i.i _ (omega (arith, list_length c.args.deck.now.bytes.now r.start r.count)) ∙ sym c.loop-i.invariant
