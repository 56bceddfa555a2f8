use native.Mathlib.Omega.{arith}
use Rattle.eval.specs.Verdict.{verdict}
use Rattle.eval.proofs.ElementLoops.{passed-all, passed-stop, passed-more}
use Rattle.eval.proofs.lent.Judging.check_sub_class_of.Goals as goal

pub returns-then-standing-clause-is : goal.returns-then-standing-clause-is
unfolding verdict
returns-then-standing-clause-is c =
    passed-stop c.loop-e.invariant.0 (omega arith) c.implied_at-j.ensures.is c.and-standing.ensures c.if-standing.true

pub loop-e-preserved : goal.loop-e-preserved
loop-e-preserved c =
    (passed-more c.loop-e.invariant.0 (omega arith) c.implied_at-j.ensures.is c.and-standing.ensures c.if-standing.false, c.implied_at-j.ensures.kept)

pub returns-clause-is : goal.returns-clause-is
unfolding verdict
returns-clause-is c =
    passed-all c.loop-e.invariant.0 (omega (arith, c.loop-e.auto)) c.unresolved_or_holds.ensures
