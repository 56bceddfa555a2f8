use Rattle.capi.proofs.CallLaws.{concept-short, concept-told, concept-right}
use Rattle.capi.proofs.style_deck_eval_concept.Goals as goal

pub returns-then-answer-lt4-clause-is : goal.returns-then-answer-lt4-clause-is
returns-then-answer-lt4-clause-is c = concept-short _ _ _ _ _ _ _ c.if-answer-lt4.true c.number.ensures

pub returns-clause-is : goal.returns-clause-is
returns-clause-is c = concept-told _ _ _ _ _ _ _ c.if-answer-lt4.false c.eval_concept_in.ensures.is c.tell_judgement.ensures

pub returns-clause-right : goal.returns-clause-right
returns-clause-right c = concept-right _ _ c.tell_judgement.ensures c.eval_concept_in.ensures.right c.eval_concept_in.ensures.exact
