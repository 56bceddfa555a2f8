-- Pairs as numbers: "by from then to" is by size.
use Rattle.std.specs.Prelude.{ℕ, ◌+◌, ◌*◌, ◌/◌, ◌%◌, ◌<◌, ◌≤◌, Bool, true, false, cond, ◌&&◌, ◌≡◌, leb, ltb, Option, Some, None, IfSome, IfNone}
use mathlib.Core.List.{List, [], ◌∷◌, Memᴰ as Member}
use Rattle.deck.specs.Deck.{Deck}
use Rattle.eval.specs.declared.edges.Edge.{Edge}
use Rattle.eval.specs.Edges.{linked}
use Rattle.eval.specs.Structure.{Pair, pair}

-- the number of an edge's pair
abbrev pub key_of : Edge → ℕ
key_of e = e.from.0 * 65536 + e.to.0

-- the pair of a number
abbrev pub pair_of : ℕ → Pair
pair_of k = pair (k / 65536) (k % 65536)

-- is there an edge of r by the pair k?
abbrev pub link_key : Deck → List Edge → ℕ → ℕ → Bool
link_key D es r k = linked D es r (k / 65536) (k % 65536)

-- each edge's target is below 65,536, so that different pairs have different numbers
abbrev pub EndsFit : List Edge → Type 0
EndsFit es = (e : Edge) → Member e es → e.to.0 < 65536

-- the first of a list
abbrev pub first : List ℕ → Option ℕ
first [] = None
first (x ∷ xs) = Some x

-- the nearer of `best` and k, where k is at or after `after` and is hit
abbrev pub nearer_of : ℕ → ℕ → Bool → ℕ → ℕ
nearer_of after k hit best = cond (leb after k && (ltb k best && hit)) k best

-- b is the lowest number hit, from `after` on and below `end`, and `end` where there is none
pub record Near (hit : ℕ → Bool) (after end b : ℕ) : Type 0 where
  pub le : b ≤ end
  pub none : (u : ℕ) → after ≤ u → u < b → hit u ≡ false
  pub got : b < end → (after ≤ b) × (hit b ≡ true)

-- the same of what a search hands back: the one with that number, if there is one
pub record Nearest {A : Type 0} (number : A → ℕ) (hit : ℕ → Bool) (after end : ℕ) (r : Option A) : Type 0 where
  pub some : IfSome r (λ b. (number b < end) × Near hit after end (number b))
  pub none : IfNone r (Near hit after end end)
