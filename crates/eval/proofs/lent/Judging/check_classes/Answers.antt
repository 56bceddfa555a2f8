use mathlib.Core.Path.{◌∙◌}
use native.Mathlib.Omega.{arith}
use Rattle.eval.proofs.RelationLaws.{classes-verdict}
use Rattle.eval.proofs.ElementLoops.{passed-all, passed-stop, passed-more}
use Rattle.eval.proofs.lent.Judging.check_classes.Goals as goal

pub returns-then-standing-clause-is : goal.returns-then-standing-clause-is
returns-then-standing-clause-is c =
    passed-stop c.loop-e.invariant.0 (omega arith) (rw c.votes_at-votes.ensures.counted at c.outcome.ensures) c.and-standing.ensures c.if-standing.true ∙ classes-verdict _ _ c.args.relation _

pub loop-e-preserved : goal.loop-e-preserved
loop-e-preserved c =
    (passed-more c.loop-e.invariant.0 (omega arith) (rw c.votes_at-votes.ensures.counted at c.outcome.ensures) c.and-standing.ensures c.if-standing.false, c.votes_at-votes.ensures.kept)

pub returns-clause-is : goal.returns-clause-is
returns-clause-is c =
    passed-all c.loop-e.invariant.0 (omega (arith, c.loop-e.auto)) c.unresolved_or_holds.ensures ∙ classes-verdict _ _ c.args.relation _
