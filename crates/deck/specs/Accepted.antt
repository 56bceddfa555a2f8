-- What an accepted deck says.
use Rattle.deck.specs.declared.accepted.Deck.{Deck as AcceptedDeck}
use Rattle.deck.specs.Deck.{Deck}
use Rattle.deck.specs.Content.{deck_of}

-- the content of an accepted deck
abbrev pub content : AcceptedDeck → Deck
content d = deck_of d.bytes.now
