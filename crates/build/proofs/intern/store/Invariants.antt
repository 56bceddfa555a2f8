use mathlib.Core.Path.{◌≡◌}
use lib.ListN.{length}
use lib.Seq.{paste}
use Rattle.build.proofs.intern.store.Given as goal

abbrev pub invariant-loop-i : goal.invariant-loop-i
invariant-loop-i l = (l.labels ≡ paste l.initial.labels l.at l.label l.i) × (length l.labels ≡ length l.initial.labels)
