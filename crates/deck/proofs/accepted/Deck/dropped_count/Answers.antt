use mathlib.Core.Path.{sym}
use Rattle.deck.proofs.DeckLaws.{dropped-is}
use Rattle.deck.proofs.accepted.Deck.dropped_count.Goals as goal

pub returns : goal.returns
returns c = rw (c.word.ensures, c.trailer.ensures, c.parts.ensures) (sym (dropped-is _))
