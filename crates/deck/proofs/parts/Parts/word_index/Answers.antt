use native.Mathlib.Omega.{arith}
use Rattle.deck.proofs.TrailerLaws.{in-part, body-small}
use Rattle.deck.proofs.parts.Parts.word_index.Goals as goal

pub overflow_cast-result : goal.overflow_cast-result
overflow_cast-result c =
    omega (arith, body-small _ c.args.self.now.framed, in-part _ c.args.self.now.framed c.args.p c.args.k c.args.f (omega arith) (omega arith) (omega arith))
