use mathlib.Core.Path.{sym, ◌∙◌}
use native.Mathlib.Omega.{arith}
use Rattle.deck.specs.Content.{deck_of}
use Rattle.deck.specs.Reads.{list_of}
use Rattle.deck.proofs.TableLaws.{list_length}
use Rattle.atoms.specs.Floor.{atom_rows}
use Rattle.atoms.proofs.ListWalks.{taken-end, taken_step}
use Rattle.atoms.proofs.floor.join_operands.Goals as goal

pub returns-then-is_and : goal.returns-then-is_and
returns-then-is_and c =
    c.join_rest.ensures ∙ sym c.loop-i.invariant

pub loop-i-preserved : goal.loop-i-preserved
loop-i-preserved c =
    let w = c.loop-i in
    w.invariant ∙ taken_step 0 (list_of c.args.deck.now.bytes.now c.args.list) w.i (atom_rows (deck_of c.args.deck.now.bytes.now)) w.label (omega (arith, list_length c.args.deck.now.bytes.now c.args.list.start c.args.list.count)) (rw c.operand-o.ensures.is at c.join_leaf.ensures)

pub returns : goal.returns
returns c =
    taken-end 0 (list_of c.args.deck.now.bytes.now c.args.list) c.loop-i.i (atom_rows (deck_of c.args.deck.now.bytes.now)) _ (omega (arith, list_length c.args.deck.now.bytes.now c.args.list.start c.args.list.count)) ∙ sym c.loop-i.invariant
