use mathlib.Core.Path.{◌≡◌, refl}
use Prim.Native.Nat.{ℕ}
use Rattle.atoms.specs.declared.reasons.Bound.{Bound}
use Rattle.atoms.specs.declared.reasons.Reason.{Reason}
use Rattle.atoms.specs.Reasons.{bound_number, bound_tripped}
use Rattle.atoms.proofs.reasons.Reason.bound_tripped.Goals as goal

by-number : (b : Bound) (limit : ℕ) → Reason.BoundTripped b limit ≡ bound_tripped (bound_number b) limit
by-number Bound.Elements limit = refl
by-number Bound.Edges limit = refl
by-number Bound.Rounds limit = refl

pub returns : goal.returns
returns c =
    by-number c.args.bound c.args.limit
