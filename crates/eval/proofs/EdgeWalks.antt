-- Walking the lent list of edges: how many there are, and which is the i-th; a test of the edges that are left.
use Prim.Native.Nat.{ℕ, zero, suc, ◌+◌, ◌*◌, ◌<◌, ◌≤◌}
use mathlib.Core.Bool.{Bool, true, false}
use mathlib.Core.Path.{◌≡◌, refl, ap, ◌∙◌}
use mathlib.Core.List.{List, [], ◌∷◌, map}
use native.Mathlib.Nat.{mul-le-mul_right, suc-mul, not-suc-le-zero, le_of_suc-le-suc}
use native.Mathlib.Omega.{arith}
use lib.ListN.{length, get_or, take, drop, length-map, drop_of_length-le, get_or-map}
use lib.Seq.{length-take-le}
use Rattle.deck.specs.Deck.{Role}
use Rattle.eval.specs.declared.edges.Edge.{Edge}
use Rattle.eval.specs.Lists.{any}
use Rattle.eval.specs.Edges.{edge_of, edges_of, edges_by, turned}
use Rattle.eval.proofs.Walks.{list-step}

-- a cell of a table of n rows of w words
pub cell : (e n w j : ℕ) → e < n → j < w → e * w + j < n * w
cell e n w j he hj = omega (arith, mul-le-mul_right w he, suc-mul e w)

-- what stands for an edge past the end is never asked for
abbrev pub no_edge : Edge
no_edge = edge_of []

module _ (rows : List (List ℕ)) (n : ℕ) (k : n ≤ length rows) where
  pub edges-length : length (edges_of rows n) ≡ n
  unfolding edges_of
  edges-length = length-map (take n rows) edge_of ∙ length-take-le n rows k

pub edges_at : (rows : List (List ℕ)) (n i : ℕ) → i < n → n ≤ length rows → get_or (edges_of rows n) i no_edge ≡ edge_of (get_or rows i [])
unfolding edges_of
edges_at [] zero i h k = absurd (not-suc-le-zero h)
edges_at [] (suc n) i h k = absurd (not-suc-le-zero k)
edges_at (w ∷ ws) zero i h k = absurd (not-suc-le-zero h)
edges_at (w ∷ ws) (suc n) zero h k = refl
edges_at (w ∷ ws) (suc n) (suc i) h k = edges_at ws n i (le_of_suc-le-suc h) (le_of_suc-le-suc k)

-- the same of the edges as a role word sees them
module _ (r : Role) (rows : List (List ℕ)) (n : ℕ) (k : n ≤ length rows) where
  pub by_length : length (edges_by r (edges_of rows n)) ≡ n
  by_length = length-map (edges_of rows n) (turned r) ∙ edges-length rows n k

  pub by-at : (i : ℕ) → i < n → get_or (edges_by r (edges_of rows n)) i (turned r no_edge) ≡ turned r (edge_of (get_or rows i []))
  by-at i h = get_or-map (turned r) (edges_of rows n) i no_edge ∙ ap (turned r) (edges_at rows n i h k)

-- does one of the members from position i on pass the test?
module _ {A : Type 0} (d : A) (p : A → Bool) (l : List A) (i : ℕ) where
  pub any-end : length l ≤ i → any (map p (drop i l)) ≡ false
  unfolding any
  any-end h = rw (drop_of_length-le l {i = i} h)

  pub any-hit : i < length l → p (get_or l i d) ≡ true → any (map p (drop i l)) ≡ true
  unfolding any
  any-hit h e = rw (list-step d l i h, e)

  pub any_step : i < length l → p (get_or l i d) ≡ false → any (map p (drop i l)) ≡ any (map p (drop (i + 1) l))
  unfolding any
  any_step h e = rw (list-step d l i h, e)
