-- What the words of a record, read from an accepted deck, give: the facts that the readers promise.
-- Assumes nothing.
use mathlib.Core.Path.{◌≡◌, refl}
use mathlib.Core.Bool.{true}
use mathlib.Core.List.{List}
use Prim.Native.Nat.{ℕ, ◌+◌, ◌<◌}
use lib.Dec.{eqb, ltb}
use Rattle.deck.specs.Trailer.{part_count}
use Rattle.deck.specs.Parts.{part_word}
use Rattle.deck.specs.Rows.{row_shape, row_rises}
use Rattle.deck.specs.Records.{concept_form, axiom_form}
use Rattle.deck.specs.Deck.{class_count, role_count, concept_count, axiom_count, fact_count, class_at, role_at}
use Rattle.deck.specs.Content.{IsAccepted, deck_of, class_in, role_in, concept_in, axiom_in, fact_in}
use Rattle.deck.specs.Exprs.{expr_at}
use Rattle.deck.specs.Reads.{list_of, span_at, axiom_words, RowRead, ConceptRead, AxiomRead, FactRead, FormFits}
use Rattle.deck.proofs.BelowLaws.{and_left, and_right}
use Rattle.deck.proofs.AcceptedLaws
use Rattle.deck.proofs.DeckLaws
use Rattle.deck.proofs.FormLaws.{list-fits, list-rises, form-fits}
use Rattle.deck.proofs.TagLaws
use Rattle.deck.proofs.SoundLaws

-- ---- rows
module _ (s : List ℕ) (n p k f : ℕ) where
  row_read : row_shape s (part_word s p k f) (part_word s p k (f + 1)) n ≡ true → row_rises s (part_word s p k f) (part_word s p k (f + 1)) ≡ true
      → RowRead s n (list_of s (span_at s p k f)) p k f (span_at s p k f)
  row_read a b = record {
    is = refl;
    fits = list-fits s (part_word s p k f) (part_word s p k (f + 1)) n a;
    rises = list-rises s (part_word s p k f) (part_word s p k (f + 1)) b;
    words = refl;
  }

module _ (s : List ℕ) (h : IsAccepted s) (k : ℕ) where
  pub class-place : k < class_count (deck_of s) → k < part_count s 0
  class-place l = rw (DeckLaws.class-count s) at l

  pub role-place : k < role_count (deck_of s) → k < part_count s 1
  role-place l = rw (DeckLaws.role-count s) at l

  pub concept-place : k < concept_count (deck_of s) → k < part_count s 3
  concept-place l = rw (DeckLaws.concept-count s) at l

  pub axiom-place : k < axiom_count (deck_of s) → k < part_count s 4
  axiom-place l = rw (DeckLaws.axiom-count s) at l

  pub fact-place : k < fact_count (deck_of s) → k < part_count s 5
  fact-place l = rw (DeckLaws.fact-count s) at l

  pub flag-read : k < class_count (deck_of s) → eqb (part_word s 0 k 0) 1 ≡ (class_at (deck_of s) k).unsatisfiable
  unfolding class_in
  flag-read l = rw (DeckLaws.class-at s k (class-place l))

  pub subsumers-read : k < class_count (deck_of s) → RowRead s (class_count (deck_of s)) (class_at (deck_of s) k).row 0 k 1 (span_at s 0 k 1)
  unfolding class_in
  subsumers-read l =
      let m = class-place l in
      rw (DeckLaws.class-at s k m, DeckLaws.class-count s)
      (row_read s (part_count s 0) 0 k 1 (and_right (ltb (part_word s 0 k 0) 2) _ (AcceptedLaws.class-shape s h k m)) (and_left (row_rises s (part_word s 0 k 1) (part_word s 0 k 2)) _ (AcceptedLaws.class-order s h k m)))

  module _ (l : k < role_count (deck_of s)) where
    subs-fit : row_shape s (part_word s 1 k 0) (part_word s 1 k 1) (part_count s 1) ≡ true
    subs-fit = and_left _ (row_shape s (part_word s 1 k 2) (part_word s 1 k 3) (part_count s 0)) (AcceptedLaws.role-shape s h k (role-place l))

    range-fits : row_shape s (part_word s 1 k 2) (part_word s 1 k 3) (part_count s 0) ≡ true
    range-fits = and_right (row_shape s (part_word s 1 k 0) (part_word s 1 k 1) (part_count s 1)) _ (AcceptedLaws.role-shape s h k (role-place l))

    pub sub-roles-read : RowRead s (role_count (deck_of s)) (role_at (deck_of s) k).sub_roles 1 k 0 (span_at s 1 k 0)
    unfolding role_in
    sub-roles-read =
        rw (DeckLaws.role-at s k (role-place l), DeckLaws.role-count s)
        (row_read s (part_count s 1) 1 k 0 subs-fit
        (and_left (row_rises s (part_word s 1 k 0) (part_word s 1 k 1)) _ (AcceptedLaws.role-order s h k (role-place l))))

    pub range-read : RowRead s (class_count (deck_of s)) (role_at (deck_of s) k).range 1 k 2 (span_at s 1 k 2)
    unfolding role_in
    range-read =
        rw (DeckLaws.role-at s k (role-place l), DeckLaws.class-count s)
        (row_read s (part_count s 0) 1 k 2 range-fits
        (and_left (row_rises s (part_word s 1 k 2) (part_word s 1 k 3)) _
        (and_right (row_rises s (part_word s 1 k 0) (part_word s 1 k 1)) _ (AcceptedLaws.role-order s h k (role-place l)))))

  -- ---- concepts, axioms, facts
  concept-form : k < concept_count (deck_of s) → FormFits s k (concept_form (part_word s 3 k 0)) (part_word s 3 k 1) (part_word s 3 k 2) (part_word s 3 k 3)
  concept-form l = form-fits s k (concept_form (part_word s 3 k 0)) _ _ _ (AcceptedLaws.concept-shape s h k (concept-place l))

  pub concept-known : k < concept_count (deck_of s) → part_word s 3 k 0 < 12
  concept-known l = TagLaws.known-concept s k (part_word s 3 k 0) (part_word s 3 k 1) (part_word s 3 k 2) (part_word s 3 k 3) (concept-form l)

  pub concept-read : k < concept_count (deck_of s) → ConceptRead s k (expr_at (part_word s 3 k 0) (part_word s 3 k 1) (part_word s 3 k 2) (part_word s 3 k 3))
  unfolding concept_in
  concept-read l =
      let f = concept-form l in
      record {
        is = rw (DeckLaws.concept-at s k (concept-place l)) (TagLaws.expr-is s k (part_word s 3 k 0) (part_word s 3 k 1) (part_word s 3 k 2) (part_word s 3 k 3) f);
        fits = TagLaws.expr-fits s k (part_word s 3 k 0) (part_word s 3 k 1) (part_word s 3 k 2) (part_word s 3 k 3) f;
        words = refl;
      }

  pub axiom-read : k < axiom_count (deck_of s) → AxiomRead s k (axiom_words s k)
  unfolding axiom_in
  axiom-read l =
      let m = axiom-place l in
      let f = form-fits s (part_count s 3) (axiom_form (part_word s 4 k 0)) _ _ _ (AcceptedLaws.axiom-shape s h k m) in
      record {
        is = rw (DeckLaws.axiom-at s k m);
        known = TagLaws.known-axiom s (part_count s 3) (part_word s 4 k 0) (part_word s 4 k 1) (part_word s 4 k 2) (part_word s 4 k 3) f;
        fits = rw (DeckLaws.concept-count s) f;
        words = refl;
      }

  pub fact-read : k < fact_count (deck_of s) → FactRead s k (record { from = record { 0 = part_word s 5 k 0 }; role = record { 0 = part_word s 5 k 1 }; to = record { 0 = part_word s 5 k 2 } })
  unfolding fact_in
  fact-read l = record { is = rw (DeckLaws.fact-at s k (fact-place l)); fits = SoundLaws.fact-fits s h k (fact-place l) }
