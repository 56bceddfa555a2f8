-- A structure in the making, and the step that both expansions share: document 01, section 3.
use Rattle.std.specs.Prelude.{ℕ, ◌+◌, ◌*◌, ◌≤◌, ◌<◌, ◌≡◌, true, false, cond, List, length, ltb}
use Rattle.deck.specs.Deck.{Deck, class_count}
use Rattle.deck.specs.Content.{IsAccepted, deck_of}
use Rattle.eval.specs.Lent.{label_width}
use Rattle.eval.specs.declared.edges.Edge.{Edge}
use Rattle.build.specs.declared.bounds.Bounds.{Bounds}
use Rattle.build.specs.declared.tally.Tally.{Tally}
use Rattle.build.specs.Push.{Step}
use Rattle.atoms.specs.declared.reasons.Reason.{Reason}
use Rattle.atoms.specs.Rows.{rows_of}
use Rattle.build.specs.Intern.{index_of, interned, Held}
use Rattle.atoms.specs.Reasons.{bound_tripped, noted, counted}
use Rattle.build.specs.Push.{State, edge, push_edge, start, Room, Left}

-- the labels of the elements, and the edges, reasons and trip beside them
pub record Model : Type 0 where
  pub labels : List (List ℕ)
  pub state : State

-- one more reason; after a bound that tripped, nothing is built
abbrev pub note_state : Reason → State → State
note_state x s = record { edges = s.edges; log = noted s.log s.reasons x; reasons = counted s.reasons; tripped = s.tripped }

abbrev pub trip_state : Reason → State → State
trip_state x s = record { edges = s.edges; log = noted s.log s.reasons x; reasons = counted s.reasons; tripped = true }

abbrev pub with_state : Model → State → Model
with_state m s = record { labels = m.labels; state = s }

abbrev pub note_in : Reason → Model → Model
note_in x m = with_state m (note_state x m.state)

abbrev pub trip_in : Reason → Model → Model
trip_in x m = with_state m (trip_state x m.state)

-- the bound on elements, of which there are n, and the edge e where it does not trip
abbrev pub linked : Bounds → ℕ → Edge → State → State
linked B n e s = cond (ltb B.max_elements n) (trip_state (bound_tripped 0 B.max_elements) s) (push_edge B.max_edges e s)

-- "The label is interned, the edge added"; "The element bound is tested after every interning in building, of a known label too"
unfoldable pub reach : Bounds → ℕ → ℕ → List ℕ → Model → Model
reach B r x l m =
    let ls = interned m.labels l in
    record {
      labels = ls;
      state = linked B (length ls) (edge r x (index_of m.labels l)) m.state;
    }

-- ---- the buffers
pub record Buffers : Type 0 where
  pub labels : List ℕ
  pub edges : List (List ℕ)
  pub log : List ℕ

abbrev pub lent : List ℕ → List (List ℕ) → List ℕ → Buffers
lent labels edges log = record { labels = labels; edges = edges; log = log }

-- the model that a phase or step begins with
abbrev pub begun : Deck → Buffers → Tally → Model
begun D b t = record { labels = rows_of (label_width D) t.elements b.labels; state = start b.edges b.log t }

-- "max(N, max_elements)": there are never more elements than this and the one that trips
abbrev pub top : Deck → Bounds → ℕ
top D B = cond (ltb (class_count D) B.max_elements) B.max_elements (class_count D)

-- what a step of building needs: the deck is accepted, there is room for one element and one edge more than the bounds, and the floor and the label in the making have a label's width
pub record Prepared (s : List ℕ) (B : Bounds) (b : Buffers) (t : Tally) (floor label : List ℕ) : Type 0 where
  pub accepted : IsAccepted s
  pub few : t.elements ≤ top (deck_of s) B
  pub most : top (deck_of s) B < 65536
  pub rows : (top (deck_of s) B + 1) * label_width (deck_of s) ≤ length b.labels
  pub space : Room B.max_edges b.edges t.edges
  pub floor-wide : length floor ≡ label_width (deck_of s)
  pub label-wide : length label ≡ label_width (deck_of s)

-- the tally with another number of elements
abbrev pub among : ℕ → Tally → Tally
among n t = record { elements = n; edges = t.edges; reasons = t.reasons }

-- what a step leaves that began with b and t: the buffers hold m, words past it are as they were, the label in the making keeps its width, and there is room for more unless a bound tripped
pub record Built (D : Deck) (B : Bounds) (b : Buffers) (t : Tally) (b' : Buffers) (label : List ℕ) (r : Step) (m : Model) : Type 0 where
  pub held : Held (label_width D) b.labels b'.labels r.tally.elements m.labels
  pub left : Left B.max_edges b.edges b.log (among r.tally.elements t) b'.edges b'.log r m.state
  pub more : t.elements ≤ r.tally.elements
  pub most : r.tally.elements ≤ top D B + 1
  pub few : r.tripped ≡ false → r.tally.elements ≤ top D B
  pub wide : length label ≡ label_width D
