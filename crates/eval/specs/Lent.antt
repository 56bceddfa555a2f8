-- The structure that lent buffers hold: "class k being bit k mod 64 of word k / 64".
use Rattle.std.specs.Prelude.{ℕ, ◌+◌, ◌*◌, ◌/◌, ◌%◌, ◌^◌, ◌<◌, ◌≤◌, Bool, List, [], eqb, length, get_or}
use Rattle.deck.specs.Deck.{Deck, class_count, role_count}
use Rattle.deck.specs.Content.{IsAccepted, deck_of}
use Rattle.eval.specs.declared.edges.Edge.{Edge}
use Rattle.eval.specs.declared.shape.Shape.{Shape}
use Rattle.eval.specs.Structure.{Structure}
use Rattle.eval.specs.Edges.{edge_of, edges_of, edge_in}

-- "ceil(N / 64) words of 64 bits"
abbrev pub label_width : Deck → ℕ
label_width D = (class_count D + 63) / 64

-- bit b of a word
abbrev pub bit : ℕ → ℕ → Bool
bit w b = eqb (w / 2 ^ b % 2) 1

-- does element e have class k, in labels of so many words?
unfoldable pub member_in : List ℕ → ℕ → ℕ → ℕ → Bool
member_in labels width e k = bit (get_or labels (e * width + k / 64) 0) (k % 64)

-- the elements, labels and edges in use
abbrev pub structure_of : Deck → List ℕ → List (List ℕ) → Shape → Structure
structure_of D labels rows shape = record {
  size = shape.elements;
  member = member_in labels (label_width D);
  edge = edge_in (edges_of rows shape.edges);
}

-- an edge whose role is one of R and whose ends are among n elements
pub record EdgeFits (D : Deck) (n : ℕ) (e : Edge) : Type 0 where
  pub role : e.role.0 < role_count D
  pub from : e.from.0 < n
  pub to : e.to.0 < n

-- the deck is accepted and the structure fits it: the counts are within their buffers and at most 65,536 elements, and so are an edge's role and ends
pub record Fits (s labels : List ℕ) (rows : List (List ℕ)) (shape : Shape) : Type 0 where
  pub accepted : IsAccepted s
  pub few : shape.elements ≤ 65536
  pub room : shape.elements * label_width (deck_of s) ≤ length labels
  pub count : shape.edges ≤ length rows
  pub ends : (i : ℕ) → i < shape.edges → EdgeFits (deck_of s) shape.elements (edge_of (get_or rows i []))
