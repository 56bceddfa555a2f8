use mathlib.Core.Path.{◌≡◌}
use Prim.Native.Nat.{◌<◌}
use Rattle.build.specs.Prints.{print_to}
use Rattle.build.proofs.prints.fingerprint.Given as goal

abbrev pub invariant-loop-i : goal.invariant-loop-i
invariant-loop-i l = (l.h ≡ print_to l.label l.i) × (l.h < 4294967296)
