use mathlib.Core.Path.{◌≡◌}
use mathlib.Core.Bool.{false}
use Prim.Native.Nat.{ℕ, ◌*◌, ◌<◌}
use lib.ListN.{length}
use Rattle.atoms.specs.Rows.{row_at}
use Rattle.atoms.specs.Label.{same_label}
use Rattle.build.proofs.intern.find.Given as goal

abbrev pub invariant-loop-e : goal.invariant-loop-e
invariant-loop-e l = (k : ℕ) → k < l.e → same_label (row_at (length l.label) l.labels (k * length l.label)) l.label ≡ false
