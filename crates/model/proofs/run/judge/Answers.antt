use mathlib.Core.Path.{sym, ◌∙◌}
use native.Mathlib.Omega.{arith}
use Rattle.eval.specs.InLent.{deck_in, structure}
use Rattle.model.specs.Run.{verdicts_in}
use Rattle.model.specs.Outcome.{outcome_of}
use Rattle.model.specs.declared.outcome.Outcome.TheVariants.{Open}
use Rattle.model.proofs.JudgingLaws.{worse-max, outcome-reasons}
use Rattle.model.proofs.run.judge.Goals as goal

pub returns-clause-outcome : goal.returns-clause-outcome
returns-clause-outcome c =
    let L = c.args.lent.now in
    let vs = verdicts_in (deck_in L) (structure L) in
    let e = outcome-reasons c.args.reasons vs (omega (arith, c.if-reasons-eq0.false)) in
    (rw c.judge_all-worst.ensures.worst at c.max.ensures) ∙ worse-max (outcome_of 0 vs) Open ∙ sym e
