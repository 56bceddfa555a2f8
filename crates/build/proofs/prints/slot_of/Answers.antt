use mathlib.Core.Path.{ap}
use Prim.Native.Nat.{ℕ, ◌%◌}
use native.Mathlib.Nat.{mod-lt}
use Rattle.build.specs.Prints.{slot_of}
use Rattle.build.proofs.prints.slot_of.Goals as goal

pub returns : goal.returns
unfolding slot_of
returns c =
    (ap (λ (m : ℕ). m % c.args.size) c.fingerprint.ensures, mod-lt _ c.requires)
