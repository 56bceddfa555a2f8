-- The pairs of a role, as a search for the next one looks for them.
use Rattle.std.specs.Prelude.{ℕ, Bool}
use Rattle.deck.specs.Content.{deck_of}
use Rattle.eval.specs.Edges.{edges_of}
use Rattle.model.specs.declared.pairs.Pairs.{Pairs}
use Rattle.model.specs.Pairs.{link_key}

-- is there an edge of the role by the pair k, among those that are seen?
abbrev pub hits : Pairs → ℕ → Bool
hits p = link_key (deck_of p.deck.bytes.now) (edges_of p.all.edges.now p.seen) p.role.0
