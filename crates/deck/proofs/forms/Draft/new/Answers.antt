use native.Mathlib.Omega.{arith}
use Rattle.deck.proofs.TrailerLaws.{count-within}
use Rattle.deck.proofs.forms.Draft.new.Goals as goal

pub overflow_mul-bounds : goal.overflow_mul-bounds
overflow_mul-bounds c = omega (arith, c.count-roles.ensures, count-within _ c.args.parts.framed 1 (omega arith))
