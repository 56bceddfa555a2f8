use borrow.Enum.Refused.{opened}
use mathlib.Core.Path.{sym, subst, ◌∙◌}
use native.Mathlib.Omega.{arith}
use Rattle.deck.specs.Reads.{list_of}
use Rattle.deck.proofs.TableLaws.{list_length}
use Rattle.atoms.specs.Leaves.{Decides}
use Rattle.atoms.proofs.ListWalks.{every-end, every-step}
use Rattle.atoms.proofs.LeafLaws.{every-leaf-and, every-leaf-other}
use Rattle.atoms.proofs.ShortLaws.{decides-stop}
use Rattle.atoms.proofs.short.+walk_concept_walk_operands.Goals as goal

pub walk_concept-returns-in-And : goal.walk_concept-returns-in-And
walk_concept-returns-in-And t c =
    subst (Decides c.walk_operands.result) (every-leaf-and _ c.args.deck.now.accepted c.args.concept.0 c.concept_at-expr.ensures _ _ c.in-And.is) c.walk_operands.ensures

pub walk_concept-returns-then-leaf_answer : goal.walk_concept-returns-then-leaf_answer
walk_concept-returns-then-leaf_answer t c =
    sym (c.leaf_answer.ensures ∙ every-leaf-other _ c.args.deck.now.accepted c.args.concept.0 c.concept_at-expr.ensures _ (opened c.in_default.in_default-own.keys2)) ∙ c.if-leaf_answer.true

pub walk_concept-returns-else-leaf_answer : goal.walk_concept-returns-else-leaf_answer
walk_concept-returns-else-leaf_answer t c =
    sym (c.leaf_answer.ensures ∙ every-leaf-other _ c.args.deck.now.accepted c.args.concept.0 c.concept_at-expr.ensures _ (opened c.in_default.in_default-own.keys2)) ∙ c.if-leaf_answer.false

pub walk_operands-returns-in_err-rest : goal.walk_operands-returns-in_err-rest
walk_operands-returns-in_err-rest t c =
    let l = c.args.list in
    let w = c.loop-i in
    decides-stop 0 (list_of c.args.deck.now.bytes.now l) w.i _ (omega (arith, list_length c.args.deck.now.bytes.now l.start l.count)) w.invariant _ (rw c.operand.ensures.is at c.in_err-rest.ensures) c.from_residual.result c.from_residual.ensures.1

pub walk_operands-loop-i-preserved : goal.walk_operands-loop-i-preserved
walk_operands-loop-i-preserved t c =
    let l = c.args.list in
    let w = c.loop-i in
    w.invariant ∙ every-step 0 (list_of c.args.deck.now.bytes.now l) w.i _ (omega (arith, list_length c.args.deck.now.bytes.now l.start l.count)) (rw c.operand.ensures.is at c.in_ok-rest.ensures)

pub walk_operands-returns : goal.walk_operands-returns
walk_operands-returns t c =
    let l = c.args.list in
    c.loop-i.invariant ∙ sym (every-end 0 (list_of c.args.deck.now.bytes.now l) c.loop-i.i _ (omega (arith, c.loop-i.auto, list_length c.args.deck.now.bytes.now l.start l.count)))
