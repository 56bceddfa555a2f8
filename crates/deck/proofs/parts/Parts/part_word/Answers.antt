use mathlib.Core.Path.{ap, ◌∙◌}
use native.Mathlib.Omega.{arith}
use Rattle.deck.specs.Word.{word_at}
use Rattle.deck.specs.Parts.{part_word}
use Rattle.deck.proofs.TrailerLaws.{in-part}
use Rattle.deck.proofs.parts.Parts.part_word.Goals as goal

-- the place lies before the trailer
pub word-requires : goal.word-requires
word-requires c =
    omega (arith, c.part_place.ensures, in-part _ c.args.self.now.framed c.args.p c.args.k c.args.f (omega arith) (omega arith) (omega arith))

pub returns : goal.returns
unfolding part_word
returns c =
    c.word.ensures ∙ ap (word_at c.args.self.now.bytes.now) c.part_place.ensures
