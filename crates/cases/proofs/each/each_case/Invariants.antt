-- what is left of the input
use Rattle.std.proofs.Common.{◌-◌}
use Rattle.cases.proofs.each.each_case.Given as goal

abbrev pub invariant-loop-at : goal.invariant-loop-at
invariant-loop-at g l = goal.F-IsAlwaysCallable g l.one

abbrev pub decreases-loop-at : goal.decreases-loop-at
decreases-loop-at g l = l.end - l.at
