use Prim.Native.Nat.{ℕ, ◌+◌, ◌*◌, ◌<◌}
use mathlib.Core.Path.{ap}
use native.Mathlib.Omega.{arith}
use Rattle.deck.specs.Word.{trailer_at}
use Rattle.deck.specs.Parts.{part_place}
use Rattle.deck.proofs.TrailerLaws.{in-part}
use Rattle.deck.proofs.parts.Parts.part_place.Goals as goal
use Rattle.deck.proofs.parts.Parts.part_place.Goals.{After-width}

-- the place lies before the trailer
within : (c : After-width) → c.part_start.result + c.args.k * c.width.result + c.args.f < trailer_at c.args.self.now.bytes.now
unfolding part_place
within c =
    omega (
      arith,
      in-part _ c.args.self.now.framed c.args.p c.args.k c.args.f (omega arith) (omega arith) (omega arith),
      ap (λ (w : ℕ). c.args.k * w) c.width.ensures.0,
      rw c.trailer.ensures at c.part_start.ensures,
    )

pub overflow_mul-result : goal.overflow_mul-result
overflow_mul-result c =
    omega (arith, within (goal.at.overflow_mul-result c).After-width)

pub overflow_add-result : goal.overflow_add-result
overflow_add-result c =
    omega (arith, within (goal.at.overflow_add-result c).After-width)

pub overflow_add-result-2 : goal.overflow_add-result-2
overflow_add-result-2 c =
    omega (arith, within (goal.at.overflow_add-result-2 c).After-width)

pub returns : goal.returns
unfolding part_place
returns c =
    omega (arith, ap (λ (w : ℕ). c.args.k * w) c.width.ensures.0, rw c.trailer.ensures at c.part_start.ensures)
