-- Laws of `unless`, `or_else` and `first_refusal`, for loops that check one record after the other, and for what an accepted deck says.
-- Assumes nothing.
use mathlib.Core.Path.{◌≡◌, refl, ap, ◌∙◌}
use mathlib.Core.Logic.{⊎_elim}
use mathlib.Core.Bool.{Bool, true, false}
use Prim.Native.Nat.{ℕ, zero, suc, ◌+◌, ◌<◌}
use native.Mathlib.Numerals.{add-one}
use native.Mathlib.Omega.{arith}
use native.Mathlib.Nat.{eq-or-lt_of_le, le_of_suc-le-suc, not-suc-le-zero}
use Rattle.deck.specs.declared.refusal.Refusal.{Refusal}
use Rattle.deck.specs.Refusal.{DeckAnswer}
use Rattle.std.specs.Prelude.{Result, Ok, Err, IsErrAnd}
use Rattle.deck.specs.Answer.{unless, or_else, first_refusal}

-- a test that was passed, and the rest
pub unless-test : (b : Bool) (r : Refusal) (a : DeckAnswer) → unless b r a ≡ Ok tt → b ≡ true
unless-test true r a h = refl
unless-test false r a h = cc

pub unless-rest : (b : Bool) (r : Refusal) (a : DeckAnswer) → unless b r a ≡ Ok tt → a ≡ Ok tt
unless-rest true r a h = h
unless-rest false r a h = cc

pub or_left : (a b : DeckAnswer) → or_else a b ≡ Ok tt → a ≡ Ok tt
or_left (Ok tt) b h = refl
or_left (Err r) b h = h

pub or_right : (a b : DeckAnswer) → or_else a b ≡ Ok tt → b ≡ Ok tt
or_right (Ok tt) b h = h
or_right (Err r) b h = cc

module _ (f : ℕ → DeckAnswer) where
  pub first-none : first_refusal f 0 ≡ Ok tt
  unfolding first_refusal
  first-none = refl

  -- one more record is accepted
  pub first_more : (i : ℕ) → first_refusal f i ≡ Ok tt → f i ≡ Ok tt → first_refusal f (i + 1) ≡ Ok tt
  unfolding first_refusal
  first_more i h t = rw (add-one, h) t

  -- the records before i are accepted, and record i is refused
  pub first_stops : (i n : ℕ) (r : Refusal) → i < n → first_refusal f i ≡ Ok tt → f i ≡ Err r → first_refusal f n ≡ Err r
  unfolding first_refusal
  first_stops i zero r l h t = absurd (not-suc-le-zero l)
  first_stops i (suc n) r l h t =
      ⊎_elim (λ (e : i ≡ n). rw (rw e at h) (rw e at t)) (λ (l' : i < n). rw (first_stops i n r l' h t))
      (eq-or-lt_of_le (le_of_suc-le-suc l))

  -- each record of a part that is accepted is accepted
  pub first-at : (n : ℕ) → first_refusal f n ≡ Ok tt → (i : ℕ) → i < n → f i ≡ Ok tt
  unfolding first_refusal
  first-at zero h i l = absurd (not-suc-le-zero l)
  first-at (suc n) h i l =
      ⊎_elim (λ (e : i ≡ n). rw e (or_right (first_refusal f n) (f n) h)) (λ (l' : i < n). first-at n (or_left (first_refusal f n) (f n) h) i l')
      (eq-or-lt_of_le (le_of_suc-le-suc l))

  -- a part is accepted if each of its records is
  pub first-all : (n : ℕ) → ((i : ℕ) → i < n → f i ≡ Ok tt) → first_refusal f n ≡ Ok tt
  unfolding first_refusal
  first-all zero h = refl
  first-all (suc n) h = rw (first-all n (λ i l. h i (omega arith))) (h n (omega arith))

-- records that are answered alike
pub first-same : (f g : ℕ → DeckAnswer) (n : ℕ) → ((i : ℕ) → i < n → f i ≡ g i) → first_refusal f n ≡ first_refusal g n
unfolding first_refusal
first-same f g zero h = refl
first-same f g (suc n) h = rw (first-same f g n (λ i l. h i (omega arith)), h n (omega arith))

-- an error that `?` hands on is the answer
pub handed_on : {T E : Type 0} (a : Result T E) (r : E) → IsErrAnd a (λ q. q ≡ r) → a ≡ Err r
handed_on (Ok x) r h = absurd h
handed_on (Err q) r h = ap Err h

-- and what is due of that answer
pub refused_on : (a b : DeckAnswer) (r : Refusal) → IsErrAnd a (λ q. q ≡ r) → Err r ≡ b → a ≡ b
refused_on a b r h e = handed_on a r h ∙ e
