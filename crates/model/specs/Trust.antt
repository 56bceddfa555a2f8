-- Demand 3, after every accepted run and under every choice, over the structure that the buffers hold.
use Rattle.std.specs.Prelude.{ℕ, ◌*◌, ◌<◌, true, false, ◌≡◌, List}
use Rattle.deck.specs.Deck.{Deck, class_at, class_count, axiom_at, axiom_count, has}
use Rattle.eval.specs.declared.verdict.Verdict.{Verdict}
use Rattle.eval.specs.declared.shape.Shape.{Shape}
use Rattle.eval.specs.Structure.{Structure}
use Rattle.eval.specs.Lent.{structure_of}
use Rattle.eval.specs.Foreign.{structure_fits}
use Rattle.eval.specs.Verdict.{words_of}
use Rattle.eval.specs.Truth.{Choice, True}
use Rattle.eval.specs.Justified.{Justified}
use Rattle.model.specs.declared.outcome.Outcome.{Outcome}
use Rattle.model.specs.declared.outcome.Outcome.TheVariants.{Confirmed}
use Rattle.atoms.specs.Rows.{row_at}

-- Holds only for a true axiom, Fails only for one false at its witnesses, exact on the plain part: read off the four words of axiom i
pub record Vouched (D : Deck) (S : Structure) (words : List ℕ) (i : ℕ) : Type 0 where
  pub verdict : Verdict
  pub words_are : row_at 4 words (i * 4) ≡ words_of verdict
  pub justified : Justified D S (axiom_at D i) verdict

-- an element whose label is exactly c's row
pub record Stands (D : Deck) (S : Structure) (c : ℕ) : Type 0 where
  pub element : ℕ
  pub below : element < S.size
  pub own : S.member element c ≡ true
  pub exact : (d : ℕ) → d < class_count D → S.member element d ≡ has (class_at D c).row d

pub record Trusted (D : Deck) (S : Structure) (words : List ℕ) (outcome : Outcome) : Type 0 where
  pub vouched : (i : ℕ) → i < axiom_count D → Vouched D S words i
  -- confirmed means that every axiom is true: without a satisfiable real class, too, but then the structure may be empty
  pub confirmed : outcome ≡ Confirmed → (i : ℕ) → i < axiom_count D → (χ : Choice) → True D S χ (axiom_at D i)
  -- each satisfiable real class has an element, confirmed or not
  pub stands : (c : ℕ) → c < D.real → (class_at D c).unsatisfiable ≡ false → Stands D S c

-- what a run leaves may be lent again: nothing of refusal 10 is in it, and "equal labels are one element", so that no two elements have the same classes
pub record Lendable (D : Deck) (labels : List ℕ) (rows : List (List ℕ)) (shape : Shape) : Type 0 where
  pub fits : structure_fits D labels rows shape ≡ true
  pub apart : (e f : ℕ) → e < shape.elements → f < shape.elements → ((k : ℕ) → k < class_count D → (structure_of D labels rows shape).member e k ≡ (structure_of D labels rows shape).member f k) → e ≡ f
