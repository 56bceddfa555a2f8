use borrow.Enum.Refused.{opened}
use mathlib.Core.Path.{sym, ◌∙◌}
use native.Mathlib.Omega.{arith}
use Rattle.deck.specs.Reads.{list_of}
use Rattle.deck.proofs.TableLaws.{list_length}
use Rattle.atoms.proofs.WalkLaws.{walk_end, walk_step}
use Rattle.atoms.proofs.BodyLaws.{joined-atomic, joined-and, joined-other}
use Rattle.atoms.proofs.body.+join_atoms_join_operands_atoms.Goals as goal

pub join_atoms-returns-in-Atomic : goal.join_atoms-returns-in-Atomic
join_atoms-returns-in-Atomic t c =
    c.join_atom.ensures ∙ joined-atomic _ c.args.deck.now.accepted c.args.concept.0 c.concept_at-expr.ensures _ _ _ c.in-Atomic.is

pub join_atoms-returns-in-And : goal.join_atoms-returns-in-And
join_atoms-returns-in-And t c =
    c.join_operands_atoms.ensures ∙ joined-and _ c.args.deck.now.accepted c.args.concept.0 c.concept_at-expr.ensures _ _ _ c.in-And.is

pub join_atoms-returns-in_default : goal.join_atoms-returns-in_default
join_atoms-returns-in_default t c =
    joined-other _ c.args.deck.now.accepted c.args.concept.0 c.concept_at-expr.ensures _ _ (opened c.in_default.in_default-own.keys3)

pub join_operands_atoms-loop-i-preserved : goal.join_operands_atoms-loop-i-preserved
join_operands_atoms-loop-i-preserved t c =
    let l = c.args.list in
    let w = c.loop-i in
    w.invariant ∙ walk_step 0 _ (list_of c.args.deck.now.bytes.now l) w.i _ (omega (arith, list_length c.args.deck.now.bytes.now l.start l.count)) (rw c.operand.ensures.is at c.join_atoms-held.ensures)

pub join_operands_atoms-returns : goal.join_operands_atoms-returns
join_operands_atoms-returns t c =
    let l = c.args.list in
    walk_end 0 _ (list_of c.args.deck.now.bytes.now l) c.loop-i.i _ (omega (arith, list_length c.args.deck.now.bytes.now l.start l.count)) ∙ sym c.loop-i.invariant
