use Rattle.std.proofs.Common.{◌-◌, ◌≤◌, length}
use Rattle.model.specs.Triggers.{step_in, Chain}
use Rattle.model.proofs.triggers.next_axiom.Given as goal

abbrev pub invariant-loop-word : goal.invariant-loop-word
invariant-loop-word l = (l.i ≤ length l.triggers) × Chain (step_in l.label l.triggers) (length l.triggers) l.first l.i

abbrev pub decreases-loop-word : goal.decreases-loop-word
decreases-loop-word l = length l.triggers - l.i
