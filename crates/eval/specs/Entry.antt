-- What judging one concept or axiom over a lent structure answers. Document 01, section 1: "1 to 4; then records in part order, each tested for 5, 6, 7; .. 10, 11 for judging one concept or axiom over a lent structure".
use Rattle.std.specs.Prelude.{Result, Ok, Err}
use Rattle.std.specs.Prelude.{ℕ, Bool, ◌&&◌, ◌≡◌, List, ltb}
use Rattle.deck.specs.Refusal.{DeckAnswer}
use Rattle.deck.specs.declared.refusal.Refusal.{Refusal}
use Rattle.deck.specs.declared.refusal.Refusal.TheVariants.{ForeignStructure, AbsentIndex}
use Rattle.deck.specs.Answer.{unless, or_else}
use Rattle.deck.specs.Records.{deck_answer}
use Rattle.deck.specs.Deck.{concept_count, axiom_count, axiom_at}
use Rattle.deck.specs.Content.{deck_of}
use Rattle.eval.specs.declared.lent.Lent.{Lent}
use Rattle.eval.specs.declared.shape.Shape.{Shape}
use Rattle.eval.specs.declared.judgement.Judgement.{Judgement}
use Rattle.eval.specs.declared.verdict.Verdict.{Verdict}
use Rattle.eval.specs.Lent.{structure_of}
use Rattle.eval.specs.Foreign.{structure_fits}
use Rattle.eval.specs.Judge.{judge}
use Rattle.eval.specs.Verdict.{verdict}

-- a refusal, or the judgement of a concept, or the verdict of an axiom
abbrev pub ConceptAnswer : Type 0
ConceptAnswer = Result Judgement Refusal

abbrev pub AxiomAnswer : Type 0
AxiomAnswer = Result Verdict Refusal

-- the counts that are lent with the buffers
abbrev pub shape_of : ℕ → ℕ → Shape
shape_of elements edges = record { elements = elements; edges = edges }

-- "1 to 4; then records in part order, each tested for 5, 6, 7", then 10
unfoldable pub lent_answer : List ℕ → List ℕ → List (List ℕ) → Shape → DeckAnswer
lent_answer s labels rows shape = or_else (deck_answer s) (unless (structure_fits (deck_of s) labels rows shape) ForeignStructure (Ok tt))

-- a lent deck and structure are those of these buffers, which were not refused
pub record LentAs (l : Lent) (s labels : List ℕ) (rows : List (List ℕ)) (shape : Shape) : Type 0 where
  pub deck : l.deck.bytes.now ≡ s
  pub labels_same : l.labels.now ≡ labels
  pub edges : l.edges.now ≡ rows
  pub shape_same : l.shape ≡ shape
  pub answer : lent_answer s labels rows shape ≡ Ok tt

-- then 11: "axiom, concept or element index past its count"
abbrev pub index_answer : Bool → DeckAnswer
index_answer present = unless present AbsentIndex (Ok tt)

-- "A refusal returns only its number", else the judgement
abbrev pub judged_unless : DeckAnswer → Judgement → ConceptAnswer
judged_unless (Ok tt) j = Ok j
judged_unless (Err r) j = Err r

-- the same with the verdict
abbrev pub checked_unless : DeckAnswer → Verdict → AxiomAnswer
checked_unless (Ok tt) v = Ok v
checked_unless (Err r) v = Err r

-- "judging one concept": c at element e
unfoldable pub concept_answer : List ℕ → List ℕ → List (List ℕ) → Shape → ℕ → ℕ → ConceptAnswer
concept_answer s labels rows shape c e =
    judged_unless (or_else (lent_answer s labels rows shape) (index_answer (ltb c (concept_count (deck_of s)) && ltb e shape.elements)))
    (judge (deck_of s) (structure_of (deck_of s) labels rows shape) c e)

-- "judging one .. axiom": a
unfoldable pub axiom_answer : List ℕ → List ℕ → List (List ℕ) → Shape → ℕ → AxiomAnswer
axiom_answer s labels rows shape a =
    checked_unless (or_else (lent_answer s labels rows shape) (index_answer (ltb a (axiom_count (deck_of s)))))
    (verdict (deck_of s) (structure_of (deck_of s) labels rows shape) (axiom_at (deck_of s) a))
