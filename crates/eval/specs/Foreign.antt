-- When a lent structure fits an accepted deck. Document 01, section 1: a foreign structure is "count above its buffer or above 65,536 elements, edge end or role out of range, label bit at or past N set".
use Rattle.std.specs.Prelude.{ℕ, ◌+◌, ◌-◌, ◌*◌, Bool, not, ◌&&◌, List, [], leb, ltb, length, get_or}
use Rattle.deck.specs.Below.{all_below}
use Rattle.deck.specs.Deck.{Deck, class_count, role_count}
use Rattle.eval.specs.declared.edges.Edge.{Edge}
use Rattle.eval.specs.declared.shape.Shape.{Shape}
use Rattle.eval.specs.Edges.{edge_of}
use Rattle.eval.specs.Lent.{label_width, member_in}

-- "count above its buffer or above 65,536 elements": neither
unfoldable pub counts_fit : Deck → List ℕ → List (List ℕ) → Shape → Bool
counts_fit D labels rows shape =
    leb shape.elements 65536 &&
    (leb (shape.elements * label_width D) (length labels) &&
    leb shape.edges (length rows))

-- "edge end or role out of range": neither, among n elements
abbrev pub edge_fits : Deck → ℕ → Edge → Bool
edge_fits D n e = ltb e.role.0 (role_count D) && (ltb e.from.0 n && ltb e.to.0 n)

-- the same of each edge in use
unfoldable pub edges_fit : Deck → List (List ℕ) → Shape → Bool
edges_fit D rows shape = all_below (λ i. edge_fits D shape.elements (edge_of (get_or rows i []))) shape.edges

-- "label bit at or past N set": none in the words of element e
unfoldable pub label_fits : Deck → List ℕ → ℕ → Bool
label_fits D labels e =
    all_below (λ j. not (member_in labels (label_width D) e (class_count D + j))) (64 * label_width D - class_count D)

-- the same of each element below the count
unfoldable pub labels_fit : Deck → List ℕ → Shape → Bool
labels_fit D labels shape = all_below (label_fits D labels) shape.elements

-- nothing of refusal 10
unfoldable pub structure_fits : Deck → List ℕ → List (List ℕ) → Shape → Bool
structure_fits D labels rows shape = counts_fit D labels rows shape && (edges_fit D rows shape && labels_fit D labels shape)
