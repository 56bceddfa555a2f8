use Prim.Native.Nat.{◌≤◌}
use mathlib.Core.Path.{◌≡◌}
use Rattle.atoms.specs.Leaves.{highest_mark}
use Rattle.atoms.proofs.marks.highest_mark.Given as goal

abbrev pub invariant-loop-k : goal.invariant-loop-k
invariant-loop-k l = (l.k ≤ l.i) × (highest_mark l.marks l.i ≡ highest_mark l.marks l.k)

abbrev pub decreases-loop-k : goal.decreases-loop-k
decreases-loop-k l = l.k
