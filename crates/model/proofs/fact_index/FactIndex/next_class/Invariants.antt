use Prim.Native.Nat.{◌-◌, ◌≤◌}
use Rattle.model.proofs.PassLaws.{None}
use Rattle.model.proofs.fact_index.FactIndex.next_class.Given as goal

abbrev pub invariant-loop-i : goal.invariant-loop-i
invariant-loop-i l = (l.k ≤ l.i) × None l.label l.self.mask.now l.k l.i

abbrev pub decreases-loop-i : goal.decreases-loop-i
decreases-loop-i l = l.count - l.i
