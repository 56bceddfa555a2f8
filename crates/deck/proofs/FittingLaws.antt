-- The converse of acceptance: a deck whose records fit is accepted. For decks that are made, not read.
-- Assumes nothing.
use mathlib.Core.Path.{◌≡◌, refl, sym, ◌∙◌}
use mathlib.Core.Logic.{⊎_elim}
use mathlib.Core.Bool.{Bool, true, false, ◌&&◌, ◌||◌}
use mathlib.Core.List.{List}
use Prim.Native.Nat.{ℕ, zero, suc, ◌+◌, ◌-◌, ◌<◌}
use native.Mathlib.Numerals.{add-one}
use native.Mathlib.Omega.{arith}
use borrow.Author.Tests.{lt-ltb, eq-eqb}
use lib.Dec.{ltb, eqb}
use Rattle.std.specs.Prelude.{Ok}
use Rattle.deck.specs.declared.forms.Kind.TheVariants.{Flag, Class, RealClass, Role}
use Rattle.deck.specs.declared.forms.Form.TheVariants.{Fields, FieldList}
use Rattle.deck.specs.Answer.{trailer_answer}
use Rattle.deck.specs.Trailer.{part_count}
use Rattle.deck.specs.Parts.{part_word}
use Rattle.deck.specs.Rows.{row_has}
use Rattle.deck.specs.Records.{deck_answer, part_answer, record_answer, class_answer, role_shape, role_answer, injected_answer, injected_order, concept_form, concept_answer, axiom_form, axiom_answer, fact_answer}
use Rattle.deck.specs.Deck.{has}
use Rattle.deck.specs.Content.{IsAccepted, injected_in}
use Rattle.deck.specs.Sound.{Rises, Before}
use Rattle.deck.specs.Reads.{list_of, span_at, ListFits, FormFits}
use Rattle.deck.proofs.AnswerLaws.{first-all}
use Rattle.deck.proofs.CaseLaws.{Cases, case_at}
use Rattle.deck.proofs.FaultLaws.{no-fault}
use Rattle.deck.proofs.TableLaws.{list-has}
use Rattle.deck.proofs.FormLaws.{fits-list, fits-form, form-more, rises-row}

-- a row: its words are below a bound, and it rises
pub record RowFits (s : List ℕ) (bound p k f : ℕ) : Type 0 where
  pub fits : ListFits s bound (span_at s p k f)
  pub rises : Rises (list_of s (span_at s p k f))

-- the records of a deck fit, by their words
pub record Fitting (s : List ℕ) : Type 0 where
  pub trailer : trailer_answer 1 s ≡ Ok tt
  pub class-form : (k : ℕ) → k < part_count s 0 → FormFits s 0 (FieldList Flag Class) (part_word s 0 k 0) (part_word s 0 k 1) (part_word s 0 k 2)
  pub class-rises : (k : ℕ) → k < part_count s 0 → Rises (list_of s (span_at s 0 k 1))
  pub class-own : (k : ℕ) → k < part_count s 0 → eqb (part_word s 0 k 0) 1 ≡ false → has (list_of s (span_at s 0 k 1)) k ≡ true
  pub sub-roles : (k : ℕ) → k < part_count s 1 → RowFits s (part_count s 1) 1 k 0
  pub role-own : (k : ℕ) → k < part_count s 1 → has (list_of s (span_at s 1 k 0)) k ≡ true
  pub range : (k : ℕ) → k < part_count s 1 → RowFits s (part_count s 0) 1 k 2
  pub injected-form : (k : ℕ) → k < part_count s 2 → FormFits s 0 (Fields Class Role RealClass) (part_word s 2 k 0) (part_word s 2 k 1) (part_word s 2 k 2)
  pub injected-sorted : (k : ℕ) → k + 1 < part_count s 2 → Before (injected_in s k) (injected_in s (k + 1))
  pub concept-form : (k : ℕ) → k < part_count s 3 → FormFits s k (concept_form (part_word s 3 k 0)) (part_word s 3 k 1) (part_word s 3 k 2) (part_word s 3 k 3)
  pub axiom-form : (k : ℕ) → k < part_count s 4 → FormFits s (part_count s 3) (axiom_form (part_word s 4 k 0)) (part_word s 4 k 1) (part_word s 4 k 2) (part_word s 4 k 3)
  pub fact-form : (k : ℕ) → k < part_count s 5 → FormFits s 0 (Fields Class Role Class) (part_word s 5 k 0) (part_word s 5 k 1) (part_word s 5 k 2)

or_from : (a b : Bool) → (a ≡ false → b ≡ true) → a || b ≡ true
or_from true b h = refl
or_from false b h = h refl

module _ (s : List ℕ) (F : Fitting s) where
  class-accepted : (k : ℕ) → k < part_count s 0 → class_answer s k ≡ Ok tt
  unfolding class_answer
  class-accepted k l =
      let start = part_word s 0 k 1 in
      let count = part_word s 0 k 2 in
      rw (
        no-fault s k 0 (omega arith) (fits-form s 0 (FieldList Flag Class) (part_word s 0 k 0) start count (F.class-form k l)),
        rises-row s start count (F.class-rises k l),
        or_from (eqb (part_word s 0 k 0) 1) (row_has s start count k) (λ e. sym (list-has s start count k) ∙ F.class-own k l e),
      )

  role-accepted : (k : ℕ) → k < part_count s 1 → role_answer s k ≡ Ok tt
  unfolding role_answer
  role-accepted k l =
      let a = F.sub-roles k l in
      let b = F.range k l in
      let shape : role_shape s k ≡ true
      = rw (fits-list s (part_word s 1 k 0) (part_word s 1 k 1) (part_count s 1) a.fits) (fits-list s (part_word s 1 k 2) (part_word s 1 k 3) (part_count s 0) b.fits) in
      rw (
        no-fault s k 1 (omega arith) shape,
        rises-row s (part_word s 1 k 0) (part_word s 1 k 1) a.rises,
        rises-row s (part_word s 1 k 2) (part_word s 1 k 3) b.rises,
        sym (list-has s (part_word s 1 k 0) (part_word s 1 k 1) k) ∙ F.role-own k l,
      )

  before-test : (k : ℕ) → k + 1 < part_count s 2
      → ltb (part_word s 2 k 0) (part_word s 2 (k + 1) 0) || (eqb (part_word s 2 k 0) (part_word s 2 (k + 1) 0) && ltb (part_word s 2 k 1) (part_word s 2 (k + 1) 1)) ≡ true
  unfolding injected_in
  before-test k l =
      ⊎_elim (λ (c : part_word s 2 k 0 < part_word s 2 (k + 1) 0). rw (lt-ltb (part_word s 2 k 0) (part_word s 2 (k + 1) 0) c))
      (λ (e : (part_word s 2 k 0 ≡ part_word s 2 (k + 1) 0) × (part_word s 2 k 1 < part_word s 2 (k + 1) 1)).
      or_from (ltb (part_word s 2 k 0) (part_word s 2 (k + 1) 0))
      (eqb (part_word s 2 k 0) (part_word s 2 (k + 1) 0) && ltb (part_word s 2 k 1) (part_word s 2 (k + 1) 1))
      (λ n. rw (eq-eqb (part_word s 2 k 0) (part_word s 2 (k + 1) 0) e.0) (lt-ltb _ _ e.1))) (F.injected-sorted k l)

  injected-order : (k : ℕ) → k < part_count s 2 → injected_order s k ≡ true
  injected-order zero l = refl
  injected-order (suc k) l =
      let e : suc k - 1 ≡ k = omega arith in
      or_from (eqb (suc k) 0)
      (ltb (part_word s 2 (suc k - 1) 0) (part_word s 2 (suc k) 0)
      || (eqb (part_word s 2 (suc k - 1) 0) (part_word s 2 (suc k) 0) && ltb (part_word s 2 (suc k - 1) 1) (part_word s 2 (suc k) 1)))
      (λ n. rw e (rw (add-one k) at (before-test k (omega arith))))

  injected-accepted : (k : ℕ) → k < part_count s 2 → injected_answer s k ≡ Ok tt
  unfolding injected_answer
  injected-accepted k l =
      rw (
        no-fault s k 2 (omega arith) (fits-form s 0 (Fields Class Role RealClass) (part_word s 2 k 0) (part_word s 2 k 1) (part_word s 2 k 2) (F.injected-form k l)),
        injected-order k l,
      )

  concept-accepted : (k : ℕ) → k < part_count s 3 → concept_answer s k ≡ Ok tt
  unfolding concept_answer
  concept-accepted k l =
      let form = concept_form (part_word s 3 k 0) in
      let below = fits-form s k form (part_word s 3 k 1) (part_word s 3 k 2) (part_word s 3 k 3) (F.concept-form k l) in
      rw (no-fault s k 3 (omega arith) (form-more s k (part_count s 3) (omega arith) form (part_word s 3 k 1) (part_word s 3 k 2) (part_word s 3 k 3) below), below)

  axiom-accepted : (k : ℕ) → k < part_count s 4 → axiom_answer s k ≡ Ok tt
  unfolding axiom_answer
  axiom-accepted k l =
      no-fault s k 4 (omega arith) (fits-form s (part_count s 3) (axiom_form (part_word s 4 k 0)) (part_word s 4 k 1) (part_word s 4 k 2) (part_word s 4 k 3) (F.axiom-form k l))

  fact-accepted : (k : ℕ) → k < part_count s 5 → fact_answer s k ≡ Ok tt
  unfolding fact_answer
  fact-accepted k l =
      no-fault s k 5 (omega arith) (fits-form s 0 (Fields Class Role Class) (part_word s 5 k 0) (part_word s 5 k 1) (part_word s 5 k 2) (F.fact-form k l))

  PartAt : ℕ → Type 0
  PartAt p = (k : ℕ) → k < part_count s p → record_answer s p k ≡ Ok tt

  parts-accepted : Cases PartAt 6
  unfolding PartAt record_answer
  parts-accepted = ((((((tt, class-accepted), role-accepted), injected-accepted), concept-accepted), axiom-accepted), fact-accepted)

  pub fitting-accepted : IsAccepted s
  unfolding deck_answer part_answer PartAt
  fitting-accepted = rw F.trailer (first-all (part_answer s) 6 (λ p l. first-all (record_answer s p) (part_count s p) (case_at PartAt 6 p parts-accepted l)))
