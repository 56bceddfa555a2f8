use Rattle.model.proofs.WordLaws.{NoneOf}
use Rattle.model.specs.Ends.{is_new}
use Prim.Native.Nat.{◌≤◌, ◌-◌}
use Rattle.model.proofs.ends.Marks.next_new.Given as goal

abbrev pub invariant-loop-i : goal.invariant-loop-i
invariant-loop-i l = (l.z ≤ l.i) × NoneOf (is_new l.self.ahead l.self.known) l.z l.i

abbrev pub decreases-loop-i : goal.decreases-loop-i
decreases-loop-i l = l.elements - l.i
