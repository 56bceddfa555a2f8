use Prim.Native.Nat.{◌-◌}
use Rattle.model.specs.Ends.{is_new}
use Rattle.model.proofs.EndsLaws.{Adding}
use Rattle.model.proofs.closing.add_ends.Given as goal

abbrev pub invariant-loop-z : goal.invariant-loop-z
invariant-loop-z l = Adding l.initial.b l.v.0 l.x.0 (is_new l.marks.ahead l.marks.known) l.b l.from

abbrev pub decreases-loop-z : goal.decreases-loop-z
decreases-loop-z l = l.elements - l.from
