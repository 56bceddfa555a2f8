-- The edges that leave an element, in the order of the list, and those that an iterator over them has left.
use Rattle.std.specs.Prelude.{ℕ, ◌≤◌, ◌≡◌, List, [], ◌∷◌, Option, None, Some, eqb}
use Rattle.std.specs.List.{filter}
use lib.ListN.{drop}
use Rattle.eval.specs.declared.edges.Edge.{Edge}
use Rattle.eval.specs.declared.leaving.Leaving.{Leaving}
use Rattle.eval.specs.declared.index.EdgeIndex.{EdgeIndex}
use Rattle.eval.specs.declared.index.Walk.{Walk}
use Rattle.eval.specs.Edges.{edges_of}
use Rattle.eval.specs.Index.{Ahead}

abbrev pub leaving : ℕ → List Edge → List Edge
leaving x es = filter (λ e. eqb e.from.0 x) es

abbrev pub left : Leaving → List Edge
left s = leaving s.x.0 (drop s.walk.at (edges_of s.of.edges.now s.of.count))

-- a step from place i of the list: the next edge that leaves x, and the walk after it, from which the others are to come
abbrev pub Steps : EdgeIndex → ℕ → ℕ → Option (Edge × Walk) → Type 0
Steps s x i None = leaving x (drop i (edges_of s.edges.now s.count)) ≡ []
Steps s x i (Some p) = (leaving x (drop i (edges_of s.edges.now s.count)) ≡ p.0 ∷ leaving x (drop p.1.at (edges_of s.edges.now s.count))) × (p.1.at ≤ s.count) × Ahead s.edges.now s.elements s.index.now x p.1.at p.1.run
