-- What the tests 1 to 4 say of a deck that passes them.
-- Assumes nothing.
use mathlib.Core.Path.{◌≡◌, refl, sym, subst}
use mathlib.Core.Logic.{⊎_elim}
use mathlib.Core.Bool.{true, ◌&&◌}
use mathlib.Core.List.{List}
use Prim.Native.Nat.{ℕ, zero, suc, ◌+◌, ◌*◌, ◌%◌, ◌≤◌, ◌<◌}
use native.Mathlib.Numerals.{add-one}
use native.Mathlib.Nat.{mul-le-mul_left, mul-le-mul_right, eq-or-lt_of_le, le_of_suc-le-suc, not-suc-le-zero, suc-mul}
use native.Mathlib.Omega.{arith}
use borrow.Author.Tests.{eqb-true, leb-true}
use lib.Dec.{lit≤, eqb, leb}
use lib.ListN.{length}
use Rattle.std.specs.Prelude.{Ok}
use Rattle.deck.specs.Answer.{trailer_answer, Framed}
use Rattle.deck.specs.Word.{trailer_at}
use Rattle.deck.specs.Trailer.{limit_of, width_of, words_before, part_count, part_start, starts_fit, start_fits, counts_fit, count_fits, layout_fits, body_count, real_of, edition}
use Rattle.deck.specs.Parts.{part_place}
use Rattle.deck.proofs.AnswerLaws.{unless-test, unless-rest}
use Rattle.deck.proofs.BelowLaws.{and_left, and_right, all-at}

pub width_small : (p : ℕ) → width_of p ≤ 4
width_small zero = lit≤ tt
width_small (suc zero) = lit≤ tt
width_small (suc (suc zero)) = lit≤ tt
width_small (suc (suc (suc zero))) = lit≤ tt
width_small (suc (suc (suc (suc zero)))) = lit≤ tt
width_small (suc (suc (suc (suc (suc zero))))) = lit≤ tt
width_small (suc (suc (suc (suc (suc (suc zero)))))) = lit≤ tt
width_small (suc (suc (suc (suc (suc (suc (suc p))))))) = lit≤ tt

-- a count of records, and at most four words to a record
pub product_small : (n w : ℕ) → n < 4294967296 → w ≤ 4 → n * w ≤ 17179869184
product_small n w h k = omega (arith, mul-le-mul_left n k)

pub before-none : (s : List ℕ) → words_before s 0 ≡ 0
unfolding words_before
before-none s = refl

pub before_more : (s : List ℕ) (p : ℕ) → words_before s (p + 1) ≡ words_before s p + part_count s p * width_of p
unfolding words_before
before_more s p = rw add-one

before-le : (s : List ℕ) (p n : ℕ) → p < n → words_before s p + part_count s p * width_of p ≤ words_before s n
unfolding words_before
before-le s p zero l = absurd (not-suc-le-zero l)
before-le s p (suc n) l =
    ⊎_elim (λ (e : p ≡ n). rw e (omega arith)) (λ (l' : p < n). omega (arith, before-le s p n l'))
    (eq-or-lt_of_le (le_of_suc-le-suc l))

-- a reader that gives a deck none of the refusals 1 to 4 is one of the deck's edition
pub framed_of : (e : ℕ) (s : List ℕ) → trailer_answer e s ≡ Ok tt → Framed s
unfolding trailer_answer
framed_of e s h =
    let t1 = eqb (length s % 4) 0 && leb 72 (length s) in
    let own : edition s ≡ e = eqb-true (edition s) e (unless-test (eqb (edition s) e) _ _ (unless-rest t1 _ _ h)) in
    subst (λ (n : ℕ). trailer_answer n s ≡ Ok tt) (sym own) h

pub record Frame (s : List ℕ) : Type 0 where
  pub long : 72 ≤ length s
  pub counts : counts_fit s ≡ true
  pub layout : layout_fits s ≡ true

pub frame : (s : List ℕ) → Framed s → Frame s
unfolding trailer_answer
frame s h =
    let t1 = eqb (length s % 4) 0 && leb 72 (length s) in
    let h2 = unless-rest t1 _ _ h in
    let h3 = unless-rest (eqb (edition s) (edition s)) _ _ h2 in
    let h4 = unless-rest (counts_fit s) _ _ h3 in
    record {
      long = leb-true 72 (length s) (and_right (eqb (length s % 4) 0) (leb 72 (length s)) (unless-test t1 _ _ h));
      counts = unless-test (counts_fit s) _ _ h3;
      layout = unless-test (layout_fits s) _ _ h4;
    }

module _ (s : List ℕ) (h : Framed s) where
  pub long : 72 ≤ length s
  long = (frame s h).long

  pub count-within : (p : ℕ) → p < 7 → part_count s p ≤ limit_of p
  count-within p l = leb-true (part_count s p) (limit_of p) (all-at (count_fits s) 7 (frame s h).counts p l)

  pub starts-at : (p : ℕ) → p < 7 → part_start s p ≡ words_before s p
  starts-at p l = eqb-true (part_start s p) (words_before s p) (all-at (start_fits s) 7 (and_left (starts_fit s) _ (frame s h).layout) p l)

  rest1 : eqb (body_count s) (words_before s 7) && (eqb (body_count s) (trailer_at s) && leb (real_of s) (part_count s 0)) ≡ true
  rest1 = and_right (starts_fit s) _ (frame s h).layout

  rest2 : eqb (body_count s) (trailer_at s) && leb (real_of s) (part_count s 0) ≡ true
  rest2 = and_right (eqb (body_count s) (words_before s 7)) _ rest1

  ends_at : words_before s 7 ≡ trailer_at s
  ends_at =
      omega (
        arith,
        eqb-true (body_count s) (words_before s 7) (and_left (eqb (body_count s) (words_before s 7)) _ rest1),
        eqb-true (body_count s) (trailer_at s) (and_left (eqb (body_count s) (trailer_at s)) _ rest2),
      )

  -- the limits bound a deck's words
  pub body-small : trailer_at s ≤ 471040
  unfolding words_before
  body-small =
      omega (
        arith,
        ends_at,
        count-within 0 (omega arith),
        count-within 1 (omega arith),
        count-within 2 (omega arith),
        count-within 3 (omega arith),
        count-within 4 (omega arith),
        count-within 5 (omega arith),
        count-within 6 (omega arith),
      )

  pub real-within : real_of s ≤ part_count s 0
  real-within = leb-true (real_of s) (part_count s 0) (and_right (eqb (body_count s) (trailer_at s)) _ rest2)

  -- each record of a part lies before the trailer
  pub in-part : (p k f : ℕ) → p < 7 → k < part_count s p → f < width_of p → part_place s p k f < trailer_at s
  unfolding part_place
  in-part p k f l lk lf =
      omega
      (arith, starts-at p l, before-le s p 7 l, ends_at, mul-le-mul_right (width_of p) lk, suc-mul k (width_of p))
