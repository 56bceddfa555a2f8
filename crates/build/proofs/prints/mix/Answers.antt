use Rattle.build.specs.Prints.{mixed}
use native.Mathlib.Omega.{arith}
use mathlib.Core.Path.{refl}
use Rattle.build.proofs.prints.mix.Goals as goal

pub returns : goal.returns
unfolding mixed
returns c =
    (refl, omega arith)
