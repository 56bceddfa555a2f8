-- Adding an edge: document 01, section 3.
use Rattle.std.specs.Prelude.{ℕ, ◌+◌, ◌≤◌, ◌<◌, ◌≡◌, Bool, false, cond, List, [], ◌∷◌, ◌++◌, map, length, drop, eqb, ltb}
use Rattle.std.proofs.lemmas.List.Edits.{sets}
use Rattle.eval.specs.Lists.{any}
use Rattle.eval.specs.declared.edges.Edge.{Edge}
use Rattle.eval.specs.Edges.{edges_of, row_of, edge_in}
use Rattle.build.specs.declared.tally.Tally.{Tally}
use Rattle.atoms.specs.Reasons.{bound_tripped, noted, counted}

-- the edges so far, oldest first, the words of the log, the total of reasons, and whether a bound has tripped
pub record State : Type 0 where
  pub edges : List Edge
  pub log : List ℕ
  pub reasons : ℕ
  pub tripped : Bool

-- the edge of a role from x to y
abbrev pub edge : ℕ → ℕ → ℕ → Edge
edge role x y = record { role = record { 0 = role }; from = record { 0 = x }; to = record { 0 = y } }

-- "the edge bound after adding an edge; what was added stays"
abbrev pub added : ℕ → Edge → State → State
added limit e s =
    let trips = ltb limit (length s.edges + 1) in
    record {
      edges = s.edges ++ (e ∷ []);
      log = cond trips (noted s.log s.reasons (bound_tripped 1 limit)) s.log;
      reasons = cond trips (counted s.reasons) s.reasons;
      tripped = trips;
    }

-- "Known edges … never trip": what stands in the role's own bucket is not added again; after a trip nothing is
unfoldable pub push_edge : ℕ → Edge → State → State
push_edge limit e s = cond s.tripped s (cond (edge_in s.edges e.role.0 e.from.0 e.to.0) s (added limit e s))

-- ---- the buffers
-- the tally after a step, and whether the step tripped a bound
pub record Step : Type 0 where
  pub tally : Tally
  pub tripped : Bool

-- the state that the buffers hold
abbrev pub reached : List (List ℕ) → List ℕ → Step → State
reached rows log r = record { edges = edges_of rows r.tally.edges; log = log; reasons = r.tally.reasons; tripped = r.tripped }

-- a step that tripped no bound, and the state that a step begins with
abbrev pub quiet : Tally → Step
quiet t = record { tally = t; tripped = false }

abbrev pub start : List (List ℕ) → List ℕ → Tally → State
start rows log t = reached rows log (quiet t)

-- "Words past the used end of a buffer stay untouched": the edges from `count` on in their rows, all other rows as they were
unfoldable pub stored : List (List ℕ) → ℕ → List Edge → List (List ℕ)
stored was count es = sets was count (map row_of (drop count es))

-- room for one edge more than the bound: "edges max_edges + 1"; the bound is at most 1,048,575
pub record Room (limit : ℕ) (rows : List (List ℕ)) (count : ℕ) : Type 0 where
  pub bound : count ≤ limit
  pub room : limit < length rows
  pub most : limit ≤ 1048575

-- what a step leaves that began with `was`, `log` and t: the state is s, older edges are as they were, and a step that trips no bound stays within it
pub record Left (limit : ℕ) (was : List (List ℕ)) (log : List ℕ) (t : Tally) (now : List (List ℕ)) (log' : List ℕ) (r : Step) (s : State) : Type 0 where
  pub is : reached now log' r ≡ s
  pub words : now ≡ stored was t.edges (edges_of now r.tally.edges)
  pub old : edges_of now t.edges ≡ edges_of was t.edges
  pub elements : r.tally.elements ≡ t.elements
  pub size : length now ≡ length was
  pub log-size : length log' ≡ length log
  pub grown : t.edges ≤ r.tally.edges
  pub room : r.tally.edges ≤ length now
  pub within : r.tripped ≡ false → r.tally.edges ≤ limit

-- ---- edges of a turn
-- does an edge leave x?
unfoldable pub leaves_any : List Edge → ℕ → Bool
leaves_any es x = any (map (λ (f : Edge). eqb f.from.0 x) es)

-- the edges below `since` are older than the turn of x: none leaves x
pub record Tail (rows : List (List ℕ)) (count since x : ℕ) : Type 0 where
  pub within : since ≤ count
  pub none : leaves_any (edges_of rows since) x ≡ false
