-- Every accepted deck is sound and within the limits: `sound`, `limited`.
-- Assumes nothing.
use mathlib.Core.Path.{◌≡◌, refl, ◌∙◌}
use mathlib.Core.Logic.{◌⊎◌, inl, inr}
use mathlib.Core.Bool.{Bool, true, false, ◌&&◌, ◌||◌}
use mathlib.Core.List.{List}
use Prim.Native.Nat.{ℕ, ◌+◌, ◌-◌, ◌<◌, ◌≤◌}
use native.Mathlib.Omega.{arith}
use borrow.Author.Tests.{ltb-true, eqb-true}
use lib.Dec.{ltb, eqb}
use Rattle.deck.specs.declared.forms.Kind.TheVariants.{Flag, Class, RealClass, Role}
use Rattle.deck.specs.declared.forms.Form.TheVariants.{Fields, FieldList}
use Rattle.deck.specs.Trailer.{part_count, limit_of}
use Rattle.deck.specs.Parts.{part_word}
use Rattle.deck.specs.Rows.{row_shape, row_rises, row_has}
use Rattle.deck.specs.Records.{concept_form, axiom_form}
use Rattle.deck.specs.Content.{IsAccepted, deck_of, class_in, role_in, injected_in, concept_in, axiom_in, fact_in}
use Rattle.deck.specs.Sound.{Sound, Limited, ClassFits, RoleFits, InjectedFits, Before, ConceptFits, AxiomFits, FactFits, counts_in}
use Rattle.deck.proofs.BelowLaws.{and_left, and_right}
use Rattle.deck.proofs.TrailerLaws.{count-within, real-within}
use Rattle.deck.proofs.AcceptedLaws
use Rattle.deck.proofs.TableLaws.{list-has}
use Rattle.deck.proofs.DeckLaws
use Rattle.deck.proofs.FormLaws.{list-fits, list-rises, form-fits}
use Rattle.deck.proofs.TagLaws.{concept-fits, axiom-fits}

or_else : (a b : Bool) → a || b ≡ true → a ≡ false → b ≡ true
or_else true b h e = cc
or_else false b h e = h

module _ (s : List ℕ) (h : IsAccepted s) where
  -- class k as the bytes have it
  pub class-fits : (k : ℕ) → k < part_count s 0 → ClassFits (counts_in (deck_of s)) k (class_in s k)
  unfolding class_in
  class-fits k l =
      let start = part_word s 0 k 1 in
      let count = part_word s 0 k 2 in
      let order = AcceptedLaws.class-order s h k l in
      record {
        below = (form-fits s 0 (FieldList Flag Class) (part_word s 0 k 0) start count (AcceptedLaws.class-shape s h k l)).1.below;
        rises = list-rises s start count (and_left (row_rises s start count) _ order);
        own = λ e. list-has s start count k ∙ or_else (eqb (part_word s 0 k 0) 1) (row_has s start count k) (and_right (row_rises s start count) _ order) e;
      }

  pub role-fits : (k : ℕ) → k < part_count s 1 → RoleFits (counts_in (deck_of s)) k (role_in s k)
  unfolding role_in
  role-fits k l =
      let subs = row_shape s (part_word s 1 k 0) (part_word s 1 k 1) (part_count s 1) in
      let range = row_shape s (part_word s 1 k 2) (part_word s 1 k 3) (part_count s 0) in
      let shape = AcceptedLaws.role-shape s h k l in
      let order = AcceptedLaws.role-order s h k l in
      let rest = and_right (row_rises s (part_word s 1 k 0) (part_word s 1 k 1)) _ order in
      record {
        below = rw (DeckLaws.role-count s) (list-fits s (part_word s 1 k 0) (part_word s 1 k 1) (part_count s 1) (and_left subs range shape)).below;
        rises = list-rises s (part_word s 1 k 0) (part_word s 1 k 1) (and_left (row_rises s (part_word s 1 k 0) (part_word s 1 k 1)) _ order);
        own = list-has s (part_word s 1 k 0) (part_word s 1 k 1) k ∙ and_right (row_rises s (part_word s 1 k 2) (part_word s 1 k 3)) _ rest;
        range-below = rw (DeckLaws.class-count s) (list-fits s (part_word s 1 k 2) (part_word s 1 k 3) (part_count s 0) (and_right subs range shape)).below;
        range-rises = list-rises s (part_word s 1 k 2) (part_word s 1 k 3) (and_left (row_rises s (part_word s 1 k 2) (part_word s 1 k 3)) _ rest);
      }

  pub injected-fits : (k : ℕ) → k < part_count s 2 → InjectedFits (counts_in (deck_of s)) (injected_in s k)
  unfolding injected_in
  injected-fits k l =
      let f = form-fits s 0 (Fields Class Role RealClass) (part_word s 2 k 0) (part_word s 2 k 1) (part_word s 2 k 2) (AcceptedLaws.injected-shape s h k l) in
      record { class = f.0; role = f.1.0; filler = f.1.1 }

  pub injected-rises : (k : ℕ) → k + 1 < part_count s 2 → Before (injected_in s k) (injected_in s (k + 1))
  unfolding injected_in
  injected-rises k l =
      let e : k + 1 - 1 ≡ k = omega arith in
      go (eqb (k + 1) 0) (ltb (part_word s 2 k 0) (part_word s 2 (k + 1) 0)) (eqb (part_word s 2 k 0) (part_word s 2 (k + 1) 0)) refl refl refl
      (rw e at (AcceptedLaws.injected-order s h (k + 1) l))
    where
      go : (a b c : Bool) → eqb (k + 1) 0 ≡ a → ltb (part_word s 2 k 0) (part_word s 2 (k + 1) 0) ≡ b → eqb (part_word s 2 k 0) (part_word s 2 (k + 1) 0) ≡ c
          → a || (b || (c && ltb (part_word s 2 k 1) (part_word s 2 (k + 1) 1))) ≡ true
          → (part_word s 2 k 0 < part_word s 2 (k + 1) 0) ⊎ ((part_word s 2 k 0 ≡ part_word s 2 (k + 1) 0) × (part_word s 2 k 1 < part_word s 2 (k + 1) 1))
      go true b c p q r t = absurd (omega (arith, eqb-true (k + 1) 0 p))
      go false true c p q r t = inl (ltb-true _ _ q)
      go false false true p q r t = inr (eqb-true _ _ r, ltb-true _ _ t)
      go false false false p q r t = let z : ◌≡◌ {A = ℕ} 0 1 = cc in absurd (omega arith)

  pub concept-at-fits : (k : ℕ) → k < part_count s 3 → ConceptFits (counts_in (deck_of s)) k (concept_in s k)
  unfolding concept_in
  concept-at-fits k l =
      concept-fits s k (part_word s 3 k 0) (part_word s 3 k 1) (part_word s 3 k 2) (part_word s 3 k 3)
      (form-fits s k (concept_form (part_word s 3 k 0)) _ _ _ (AcceptedLaws.concept-shape s h k l))

  pub axiom-at-fits : (k : ℕ) → k < part_count s 4 → AxiomFits (counts_in (deck_of s)) (part_count s 3) (axiom_in s k)
  unfolding axiom_in
  axiom-at-fits k l =
      axiom-fits s (part_count s 3) (part_word s 4 k 0) (part_word s 4 k 1) (part_word s 4 k 2) (part_word s 4 k 3)
      (form-fits s (part_count s 3) (axiom_form (part_word s 4 k 0)) _ _ _ (AcceptedLaws.axiom-shape s h k l))

  pub fact-fits : (k : ℕ) → k < part_count s 5 → FactFits (counts_in (deck_of s)) (fact_in s k)
  unfolding fact_in
  fact-fits k l =
      let f = form-fits s 0 (Fields Class Role Class) (part_word s 5 k 0) (part_word s 5 k 1) (part_word s 5 k 2) (AcceptedLaws.fact-shape s h k l) in
      record { from = f.0; role = f.1.0; to = f.1.1 }

  pub sound : Sound (deck_of s)
  sound = record {
    real = rw (DeckLaws.real-is s, DeckLaws.class-count s) (real-within s (AcceptedLaws.framed s h));
    classes = λ k l. let m = rw (DeckLaws.class-count s) at l in rw (DeckLaws.class-at s k m) (class-fits k m);
    roles = λ k l. let m = rw (DeckLaws.role-count s) at l in rw (DeckLaws.role-at s k m) (role-fits k m);
    injected = λ k l. let m = rw (DeckLaws.injected-count s) at l in rw (DeckLaws.injected-at s k m) (injected-fits k m);
    sorted = λ k l. let m = rw (DeckLaws.injected-count s) at l in rw (DeckLaws.injected-at s k (omega arith), DeckLaws.injected-at s (k + 1) m) (injected-rises k m);
    concepts = λ k l. let m = rw (DeckLaws.concept-count s) at l in rw (DeckLaws.concept-at s k m) (concept-at-fits k m);
    axioms = λ k l. let m = rw (DeckLaws.axiom-count s) at l in rw (DeckLaws.axiom-at s k m, DeckLaws.concept-count s) (axiom-at-fits k m);
    facts = λ k l. let m = rw (DeckLaws.fact-count s) at l in rw (DeckLaws.fact-at s k m) (fact-fits k m);
  }

  most : (p : ℕ) → p < 7 → part_count s p ≤ limit_of p
  most = count-within s (AcceptedLaws.framed s h)

  pub limited : Limited (deck_of s)
  limited = record {
    classes = rw (DeckLaws.class-count s) (most 0 (omega arith));
    roles = rw (DeckLaws.role-count s) (most 1 (omega arith));
    injected = rw (DeckLaws.injected-count s) (most 2 (omega arith));
    concepts = rw (DeckLaws.concept-count s) (most 3 (omega arith));
    axioms = rw (DeckLaws.axiom-count s) (most 4 (omega arith));
    facts = rw (DeckLaws.fact-count s) (most 5 (omega arith));
  }
