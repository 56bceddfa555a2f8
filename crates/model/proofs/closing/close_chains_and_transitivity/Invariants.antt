use Prim.Native.Nat.{◌-◌}
use Rattle.model.specs.Closing.{Closes}
use Rattle.model.proofs.Passes.{Turning}
use Rattle.model.proofs.closing.close_chains_and_transitivity.Given as goal

abbrev pub invariant-loop : goal.invariant-loop
invariant-loop l = record { turning : Turning l.initial.b l.b; closes : Closes l.b }

abbrev pub decreases-loop : goal.decreases-loop
decreases-loop l = l.b.plan.bounds.max_edges - l.b.tally.edges
