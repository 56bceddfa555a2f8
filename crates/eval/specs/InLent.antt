-- What a lent deck and structure say, and a table that has only right judgements of them.
use Rattle.std.specs.Prelude.{ℕ, List}
use Rattle.deck.specs.Deck.{Deck}
use Rattle.deck.specs.Content.{deck_of}
use Rattle.eval.specs.declared.edges.Edge.{Edge}
use Rattle.eval.specs.declared.lent.Lent.{Lent}
use Rattle.eval.specs.Edges.{edges_of}
use Rattle.eval.specs.Lent.{structure_of}
use Rattle.eval.specs.Memo.{Remembers}
use Rattle.eval.specs.Structure.{Structure}

abbrev pub deck_in : Lent → Deck
deck_in l = deck_of l.deck.bytes.now

abbrev pub structure : Lent → Structure
structure l = structure_of (deck_in l) l.labels.now l.edges.now l.shape

-- the edges in use, oldest first
abbrev pub edges_in : Lent → List Edge
edges_in l = edges_of l.edges.now l.shape.edges

abbrev pub Remembered : Lent → List ℕ → Type 0
Remembered l memo = Remembers (deck_in l) (structure l) memo
