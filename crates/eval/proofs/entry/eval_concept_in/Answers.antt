use mathlib.Core.Path.{refl}
use native.Mathlib.Omega.{arith}
use Rattle.deck.proofs.AnswerLaws.{handed_on}
use Rattle.eval.proofs.EntryLaws.{concept-refused, concept-absent, element-absent, concept-judged}
use Rattle.eval.proofs.entry.eval_concept_in.Goals as goal

pub returns-in_err-lent-clause-is : goal.returns-in_err-lent-clause-is
returns-in_err-lent-clause-is c =
    let p = concept-refused _ _ _ _ _ _ _ (c.in_err-lent.ensures.refused _ refl) in rw (handed_on _ _ c.from_residual.ensures.1) p.0

pub returns-then-concept-concept_count-clause-is : goal.returns-then-concept-concept_count-clause-is
returns-then-concept-concept_count-clause-is c =
    let W = c.in_ok-lent.ensures.read in
    let n = rw W.deck at c.concept_count.ensures.is in
    let p = concept-absent _ _ _ _ _ _ W.answer (omega (arith, n, c.if-concept-concept_count.true)) in p.0

pub returns-then-element-elements-clause-is : goal.returns-then-element-elements-clause-is
returns-then-element-elements-clause-is c =
    let p = element-absent _ _ _ _ _ _ c.in_ok-lent.ensures.read.answer (omega (arith, c.if-element-elements.true)) in p.0

pub returns : goal.returns
returns c =
    let W = c.in_ok-lent.ensures.read in
    let n = rw W.deck at c.concept_count.ensures.is in
    let j = rw (W.deck, W.labels_same, W.edges, W.shape_same) at c.judge_concept.ensures.is in
    let p = concept-judged _ _ _ _ _ _ _ W.answer (omega (arith, c.if-concept-concept_count.false, n)) (omega (arith, c.if-element-elements.false)) j in record { is = p.0; right = p.1.0; exact = p.1.1 }
