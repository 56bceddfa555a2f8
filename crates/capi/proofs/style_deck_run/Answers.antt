use Rattle.capi.proofs.CallLaws.{run_short, run-told, run-relied}
use Rattle.capi.proofs.style_deck_run.Goals as goal

pub returns-then-answer-lt4-clause-is : goal.returns-then-answer-lt4-clause-is
returns-then-answer-lt4-clause-is c = run_short _ _ _ _ _ _ _ _ c.if-answer-lt4.true c.number.ensures

pub returns-clause-is : goal.returns-clause-is
returns-clause-is c = run-told _ _ _ _ _ _ _ _ _ c.tell_summary.ensures c.if-answer-lt4.false c.run.ensures.is

pub returns-clause-trusted : goal.returns-clause-trusted
returns-clause-trusted c = run-relied _ _ c.tell_summary.ensures c.run.ensures.trusted
