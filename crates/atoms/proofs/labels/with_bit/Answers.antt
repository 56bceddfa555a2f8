use mathlib.Core.Path.{ap}
use Prim.Native.Nat.{ℕ}
use lib.Bits.{bit_or}
use Rattle.atoms.proofs.BitLaws.{shifted}
use Rattle.atoms.proofs.labels.with_bit.Goals as goal

pub returns : goal.returns
returns c =
    ap (λ (x : ℕ). bit_or c.args.w x) (shifted c.args.b c.requires)
