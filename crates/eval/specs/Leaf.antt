-- What is known of a concept at an element without judging another concept.
use Rattle.std.specs.Prelude.{ℕ, ◌*◌, ◌<◌, false, ◌≡◌, List}
use Rattle.deck.specs.Deck.{Concept, concept_at, role_count, role_of}
use Rattle.deck.specs.Content.{deck_of}
use Rattle.deck.specs.Reads.{list_of, ListFits}
use Rattle.deck.specs.declared.rows.Span.{Span}
use Rattle.eval.specs.declared.concepts.Leaf.{Leaf}
use Rattle.eval.specs.declared.shape.Shape.{Shape}
use Rattle.eval.specs.Judge.{judge}
use Rattle.eval.specs.Lent.{structure_of}
use Rattle.eval.specs.Structure.{inverse}

-- concept c is the And of a list
pub record AndAt (s : List ℕ) (c : ℕ) (l : Span) : Type 0 where
  pub is : concept_at (deck_of s) c ≡ Concept.And (list_of s l)
  pub fits : ListFits s c l

-- concept c is the Some of a role word w, which is named, and of body b
pub record SomeAt (s : List ℕ) (c w b : ℕ) : Type 0 where
  pub is : concept_at (deck_of s) c ≡ Concept.Some (role_of w) b
  pub role : w < 2 * role_count (deck_of s)
  pub body : b < c
  pub named : inverse (role_of w) ≡ false

-- a judgement that no edge bears on, or the And or the Some to judge
abbrev pub LeafRead : List ℕ → List ℕ → Shape → ℕ → ℕ → Leaf → Type 0
LeafRead s labels shape c e (Leaf.Judged j) = (rows : List (List ℕ)) → j ≡ judge (deck_of s) (structure_of (deck_of s) labels rows shape) c e
LeafRead s labels shape c e (Leaf.And l) = AndAt s c l
LeafRead s labels shape c e (Leaf.Some w b) = SomeAt s c w.0 b.0
