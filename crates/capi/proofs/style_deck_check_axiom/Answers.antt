use Rattle.capi.proofs.CallLaws.{axiom-short, axiom-told, axiom-justified}
use Rattle.capi.proofs.style_deck_check_axiom.Goals as goal

pub returns-then-answer-lt4-clause-is : goal.returns-then-answer-lt4-clause-is
returns-then-answer-lt4-clause-is c = axiom-short _ _ _ _ _ _ c.if-answer-lt4.true c.number.ensures

pub returns-clause-is : goal.returns-clause-is
returns-clause-is c = axiom-told _ _ _ _ _ _ c.if-answer-lt4.false c.check_axiom_in.ensures.is c.tell_verdict.ensures

pub returns-clause-justified : goal.returns-clause-justified
returns-clause-justified c = axiom-justified _ _ c.tell_verdict.ensures c.check_axiom_in.ensures.justified
