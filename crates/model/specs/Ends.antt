-- The ends of a role's edges from an element, as bits: they change how long closing takes and no answer.
use Rattle.std.specs.Prelude.{ℕ, ◌<◌, ◌≡◌, Bool, cond, ◌&&◌, not, List}
use Rattle.deck.specs.Deck.{Deck}
use Rattle.eval.specs.declared.edges.Edge.{Edge}
use Rattle.eval.specs.Edges.{linked}
use Rattle.eval.specs.Lists.{keep, range}
use Rattle.atoms.specs.Label.{label_has}
use Rattle.build.specs.Push.{State, edge, added}
use Rattle.atoms.specs.Walk.{walk}

-- of n elements z has its bit where an edge of r goes from x to z
pub record Ends (D : Deck) (n : ℕ) (es : List Edge) (r x : ℕ) (bits : List ℕ) : Type 0 where
  pub has : (z : ℕ) → z < n → label_has bits z ≡ linked D es r x z

-- is z ahead, and not known?
unfoldable pub is_new : List ℕ → List ℕ → ℕ → Bool
is_new ahead known z = label_has ahead z && not (label_has known z)

-- an edge of v from x to z, if no bound has tripped
unfoldable pub add_end : ℕ → ℕ → ℕ → ℕ → State → State
add_end limit v x z s = cond s.tripped s (added limit (edge v x z) s)

-- one to each element that passes, rising
unfoldable pub add_ends : ℕ → ℕ → ℕ → (ℕ → Bool) → ℕ → State → State
add_ends limit v x p n s = walk (add_end limit v x) (keep p (range 0 n)) s
