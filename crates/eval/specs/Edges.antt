-- The lent list of edges: "In the port edges lie in one lent list of records, oldest first (role, from, to); a bucket is its role's part."
use Rattle.std.specs.Prelude.{ℕ, Bool, cond, ◌&&◌, List, [], ◌∷◌, map, get_or, take, eqb}
use Rattle.deck.specs.Deck.{Deck, Role, role_at, has}
use Rattle.eval.specs.declared.edges.Edge.{Edge}
use Rattle.eval.specs.Lists.{any}
use Rattle.eval.specs.Structure.{inverse}

-- a row of the list, and the row of an edge
abbrev pub edge_of : List ℕ → Edge
edge_of w = record { role = record { 0 = get_or w 0 0 }; from = record { 0 = get_or w 1 0 }; to = record { 0 = get_or w 2 0 } }

abbrev pub row_of : Edge → List ℕ
row_of e = e.role.0 ∷ e.from.0 ∷ e.to.0 ∷ []

-- the first n edges, oldest first
unfoldable pub edges_of : List (List ℕ) → ℕ → List Edge
edges_of rows n = map edge_of (take n rows)

-- is this the edge of role q from x to y? Is it among the edges?
abbrev pub is_edge : ℕ → ℕ → ℕ → Edge → Bool
is_edge q x y e = eqb e.role.0 q && (eqb e.from.0 x && eqb e.to.0 y)

unfoldable pub edge_in : List Edge → ℕ → ℕ → ℕ → Bool
edge_in es q x y = any (map (is_edge q x y) es)

-- an edge as a role word sees it: "turned if inverse"
abbrev pub turned : Role → Edge → Edge
turned r e = record { role = e.role; from = cond (inverse r) e.to e.from; to = cond (inverse r) e.from e.to }

abbrev pub edges_by : Role → List Edge → List Edge
edges_by r es = map (turned r) es

-- is the edge's role a sub-role of r?
abbrev pub under : Deck → ℕ → Edge → Bool
under D r e = has (role_at D r).sub_roles e.role.0

-- does an edge of r leave x?
abbrev pub leaves : Deck → ℕ → ℕ → Edge → Bool
leaves D r x e = eqb e.from.0 x && under D r e

-- does an edge of r go from x to y?
abbrev pub goes : Deck → ℕ → ℕ → ℕ → Edge → Bool
goes D r x y e = eqb e.from.0 x && (eqb e.to.0 y && under D r e)

unfoldable pub linked : Deck → List Edge → ℕ → ℕ → ℕ → Bool
linked D es r x y = any (map (goes D r x y) es)

-- does an edge go from x to y, as a role word sees it?
abbrev pub linked_by : Deck → List Edge → Role → ℕ → ℕ → Bool
linked_by D es (Role.Named r) x y = linked D es r x y
linked_by D es (Role.Inverse r) x y = linked D es r y x
