-- What acceptance says of each record.
-- Assumes nothing.
use mathlib.Core.Path.{◌≡◌}
use mathlib.Core.Bool.{true}
use mathlib.Core.List.{List}
use Prim.Native.Nat.{ℕ, ◌<◌}
use native.Mathlib.Omega.{arith}
use Rattle.std.specs.Prelude.{Ok}
use Rattle.deck.specs.Answer.{Framed, first_refusal, trailer_answer}
use Rattle.deck.specs.Trailer.{part_count}
use Rattle.deck.specs.Parts.{part_word}
use Rattle.deck.specs.Forms.{form_shape}
use Rattle.deck.specs.Records.{deck_answer, part_answer, record_answer, class_shape, class_order, class_answer, role_shape, role_order, role_answer, injected_shape, injected_order, injected_answer, concept_form, concept_shape, concept_answer, axiom_form, axiom_answer, fact_shape, fact_answer, record_shape, record_fault}
use Rattle.deck.specs.Content.{IsAccepted}
use Rattle.deck.proofs.TrailerLaws.{framed_of}
use Rattle.deck.proofs.AnswerLaws.{or_left, or_right, first-at, unless-test}
use Rattle.deck.proofs.FaultLaws.{faultless}

module _ (s : List ℕ) (h : IsAccepted s) where
  pub framed : Framed s
  unfolding deck_answer
  framed = framed_of 1 s (or_left (trailer_answer 1 s) (first_refusal (part_answer s) 6) h)

  record-accepted : (p k : ℕ) → p < 6 → k < part_count s p → record_answer s p k ≡ Ok tt
  unfolding deck_answer part_answer
  record-accepted p k lp lk =
      first-at (record_answer s p) (part_count s p)
      (first-at (part_answer s) 6 (or_right (trailer_answer 1 s) (first_refusal (part_answer s) 6) h) p lp) k lk

  -- a record without a fault has the shape of its part
  shape : (p k : ℕ) → p < 6 → record_fault s p k ≡ Ok tt → record_shape s p k ≡ true
  shape p k l e = faultless s k p l e

  module _ (k : ℕ) where
    pub class-shape : k < part_count s 0 → class_shape s k ≡ true
    unfolding record_answer class_answer
    class-shape l = shape 0 k (omega arith) (or_left (record_fault s 0 k) _ (record-accepted 0 k (omega arith) l))

    pub class-order : k < part_count s 0 → class_order s k ≡ true
    unfolding record_answer class_answer
    class-order l = unless-test (class_order s k) _ _ (or_right (record_fault s 0 k) _ (record-accepted 0 k (omega arith) l))

    pub role-shape : k < part_count s 1 → role_shape s k ≡ true
    unfolding record_answer role_answer
    role-shape l = shape 1 k (omega arith) (or_left (record_fault s 1 k) _ (record-accepted 1 k (omega arith) l))

    pub role-order : k < part_count s 1 → role_order s k ≡ true
    unfolding record_answer role_answer
    role-order l = unless-test (role_order s k) _ _ (or_right (record_fault s 1 k) _ (record-accepted 1 k (omega arith) l))

    pub injected-shape : k < part_count s 2 → injected_shape s k ≡ true
    unfolding record_answer injected_answer
    injected-shape l = shape 2 k (omega arith) (or_left (record_fault s 2 k) _ (record-accepted 2 k (omega arith) l))

    pub injected-order : k < part_count s 2 → injected_order s k ≡ true
    unfolding record_answer injected_answer
    injected-order l = unless-test (injected_order s k) _ _ (or_right (record_fault s 2 k) _ (record-accepted 2 k (omega arith) l))

    -- the operands are below the concept
    pub concept-shape : k < part_count s 3 → form_shape s 3 k 1 k (concept_form (part_word s 3 k 0)) ≡ true
    unfolding record_answer concept_answer
    concept-shape l = unless-test (concept_shape s k k) _ _ (or_right (record_fault s 3 k) _ (record-accepted 3 k (omega arith) l))

    pub axiom-shape : k < part_count s 4 → form_shape s 4 k 1 (part_count s 3) (axiom_form (part_word s 4 k 0)) ≡ true
    unfolding record_answer axiom_answer
    axiom-shape l = shape 4 k (omega arith) (record-accepted 4 k (omega arith) l)

    pub fact-shape : k < part_count s 5 → fact_shape s k ≡ true
    unfolding record_answer fact_answer
    fact-shape l = shape 5 k (omega arith) (record-accepted 5 k (omega arith) l)
