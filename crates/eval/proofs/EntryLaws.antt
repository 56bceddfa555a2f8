-- What the entry points answer, by what they have tested: `lent_fits`, and an answer for each way out.
-- Assumes nothing.
use Rattle.std.specs.Prelude.{Result, Ok, Err}
use Prim.Native.Nat.{ℕ, ◌<◌, ◌≤◌}
use mathlib.Core.Bool.{Bool, true, false, ◌&&◌}
use mathlib.Core.Path.{◌≡◌, refl, ap, ◌∙◌}
use mathlib.Core.List.{List}
use borrow.Author.Tests.{lt-ltb, le-ltb}
use lib.Dec.{ltb}
use Rattle.deck.specs.declared.refusal.Refusal.{Refusal}
use Rattle.deck.specs.declared.refusal.Refusal.TheVariants.{ForeignStructure, AbsentIndex}
use Rattle.deck.specs.Refusal.{DeckAnswer}
use Rattle.deck.specs.Answer.{unless, or_else}
use Rattle.deck.specs.Records.{deck_answer}
use Rattle.deck.specs.Deck.{Deck, concept_count, axiom_count, axiom_at}
use Rattle.deck.specs.Content.{IsAccepted, deck_of}
use Rattle.deck.proofs.SoundLaws.{sound}
use Rattle.eval.specs.declared.shape.Shape.{Shape}
use Rattle.eval.specs.declared.judgement.Judgement.{Judgement}
use Rattle.eval.specs.declared.verdict.Verdict.{Verdict}
use Rattle.eval.specs.Entry.{ConceptAnswer}
use Rattle.eval.specs.Entry.{AxiomAnswer}
use Rattle.eval.specs.Structure.{Structure}
use Rattle.eval.specs.Lent.{Fits, structure_of}
use Rattle.eval.specs.Foreign.{structure_fits}
use Rattle.eval.specs.Entry.{lent_answer, concept_answer, axiom_answer}
use Rattle.eval.specs.Judge.{judge, truth, Right}
use Rattle.eval.specs.Verdict.{verdict}
use Rattle.eval.specs.Truth.{Choice, ext, plain}
use Rattle.eval.specs.Justified.{Justified}
use Rattle.eval.proofs.Clash.{clash}
use Rattle.eval.proofs.Rightness.{right, exact}
use Rattle.eval.proofs.ForeignLaws.{fits}

first-accepted : (a b : DeckAnswer) → or_else a b ≡ Ok tt → a ≡ Ok tt
first-accepted (Ok tt) b h = refl
first-accepted (Err r) b h = clash (cc)

then-accepted : (a b : DeckAnswer) → or_else a b ≡ Ok tt → b ≡ Ok tt
then-accepted (Ok tt) b h = h
then-accepted (Err r) b h = clash (cc)

passed : (t : Bool) (r : Refusal) → unless t r (Ok tt) ≡ Ok tt → t ≡ true
passed true r h = refl
passed false r h = clash (cc)

and-absent : (a b : Bool) → b ≡ false → a && b ≡ false
and-absent true b h = h
and-absent false b h = refl

pub same-refusal : {A : Type 0} {a : Result A Refusal} {x r : Refusal} → a ≡ Err x → a ≡ Err r → {d : DeckAnswer} → d ≡ Err x → d ≡ Err r
same-refusal {A} {a} {x} {r} p q h = let e : x ≡ r = cc in h ∙ ap Err e

module _ (s labels : List ℕ) (rows : List (List ℕ)) (shape : Shape) where
  abbrev D : Deck
  D = deck_of s

  abbrev S : Structure
  S = structure_of D labels rows shape

  -- a deck and a structure that were not refused
  pub lent_fits : lent_answer s labels rows shape ≡ Ok tt → Fits s labels rows shape
  unfolding lent_answer
  lent_fits h =
      fits s labels rows shape (first-accepted (deck_answer s) _ h)
      (passed (structure_fits D labels rows shape) ForeignStructure (then-accepted (deck_answer s) _ h))

  pub deck-refused : {r : Refusal} → deck_answer s ≡ Err r → lent_answer s labels rows shape ≡ Err r
  unfolding lent_answer
  deck-refused h = simp h

  pub lent-foreign : IsAccepted s → structure_fits D labels rows shape ≡ false → lent_answer s labels rows shape ≡ Err ForeignStructure
  unfolding lent_answer
  lent-foreign A h = simp (A, h)

  pub lent-read : IsAccepted s → structure_fits D labels rows shape ≡ true → lent_answer s labels rows shape ≡ Ok tt
  unfolding lent_answer
  lent-read A h = simp (A, h)

  module _ (c e : ℕ) where
    -- what is due of an answer
    abbrev Judges : ConceptAnswer → Type 0
    Judges r =
        (r ≡ concept_answer s labels rows shape c e) ×
        (((j : Judgement) → r ≡ Ok j → (χ : Choice) → Right j (ext D S χ c e)) ×
        ((j : Judgement) → r ≡ Ok j → plain D c ≡ true → (χ : Choice) → j ≡ truth (ext D S χ c e)))

    pub concept-refused : (r : Refusal) → lent_answer s labels rows shape ≡ Err r → Judges (Err r)
    unfolding concept_answer
    concept-refused r h = (simp h, (λ j q χ. clash (cc), λ j q p χ. clash (cc)))

    pub concept-absent : lent_answer s labels rows shape ≡ Ok tt → concept_count D ≤ c → Judges (Err AbsentIndex)
    unfolding concept_answer
    concept-absent h l = (simp (h, le-ltb c (concept_count D) l), (λ j q χ. clash (cc), λ j q p χ. clash (cc)))

    pub element-absent : lent_answer s labels rows shape ≡ Ok tt → shape.elements ≤ e → Judges (Err AbsentIndex)
    unfolding concept_answer
    element-absent h l = (simp (h, and-absent (ltb c (concept_count D)) (ltb e shape.elements) (le-ltb e shape.elements l)), (λ j q χ. clash (cc), λ j q p χ. clash (cc)))

    pub concept-judged : (j : Judgement) → lent_answer s labels rows shape ≡ Ok tt → c < concept_count D → e < shape.elements → j ≡ judge D S c e → Judges (Ok j)
    unfolding concept_answer
    concept-judged j h l m is = (
      simp (h, lt-ltb c (concept_count D) l, lt-ltb e shape.elements m) (ap Ok is),
      (λ k q χ. let same : k ≡ judge D S c e = cc in rw same (right D (sound s (lent_fits h).accepted) S χ c e), λ k q p χ. let same : k ≡ judge D S c e = cc in rw same (exact D (sound s (lent_fits h).accepted) S χ c p e)),
    )

  module _ (a : ℕ) where
    abbrev Checks : AxiomAnswer → Type 0
    Checks r = (r ≡ axiom_answer s labels rows shape a) × ((v : Verdict) → r ≡ Ok v → Justified D S (axiom_at D a) v)

    pub axiom-refused : (r : Refusal) → lent_answer s labels rows shape ≡ Err r → Checks (Err r)
    unfolding axiom_answer
    axiom-refused r h = (simp h, λ v q. clash (cc))

    pub axiom-absent : lent_answer s labels rows shape ≡ Ok tt → axiom_count D ≤ a → Checks (Err AbsentIndex)
    unfolding axiom_answer
    axiom-absent h l = (simp (h, le-ltb a (axiom_count D) l), λ v q. clash (cc))

    pub axiom-checked : (v : Verdict) → lent_answer s labels rows shape ≡ Ok tt → a < axiom_count D → v ≡ verdict D S (axiom_at D a) → Justified D S (axiom_at D a) v → Checks (Ok v)
    unfolding axiom_answer
    axiom-checked v h l is just = (
      simp (h, lt-ltb a (axiom_count D) l) (ap Ok is),
      λ u q. let same : v ≡ u = cc in rw same at just,
    )
