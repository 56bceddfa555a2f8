-- Laws of `all_below` and `any_below`, for loops that test one number after the other, and for what a passed test says.
-- Assumes nothing.
use mathlib.Core.Path.{◌≡◌, refl}
use mathlib.Core.Logic.{⊎_elim}
use mathlib.Core.Bool.{Bool, true, false, ◌&&◌, ◌||◌}
use Prim.Native.Nat.{ℕ, zero, suc, ◌+◌, ◌<◌}
use native.Mathlib.Nat.{eq-or-lt_of_le, le_of_suc-le-suc, not-suc-le-zero}
use native.Mathlib.Numerals.{add-one}
use native.Mathlib.Omega.{arith}
use Rattle.deck.specs.Below.{all_below, any_below}

pub and_left : (a b : Bool) → a && b ≡ true → a ≡ true
and_left true b h = refl
and_left false b h = h

pub and_right : (a b : Bool) → a && b ≡ true → b ≡ true
and_right true b h = h
and_right false b h = cc

pub and-false : (a b : Bool) → b ≡ false → a && b ≡ false
and-false true b h = h
and-false false b h = refl

pub and-true : (a b : Bool) → b ≡ true → a && b ≡ a
and-true true b h = h
and-true false b h = refl

or-true : (a b : Bool) → b ≡ true → a || b ≡ true
or-true true b h = refl
or-true false b h = h

module _ (p : ℕ → Bool) where
  pub all_none : all_below p 0 ≡ true
  unfolding all_below
  all_none = refl

  -- one more number is tested
  pub all-next : (i : ℕ) → all_below p (i + 1) ≡ all_below p i && p i
  unfolding all_below
  all-next i = rw add-one

  -- one more number passes
  pub all_more : (i : ℕ) → all_below p i ≡ true → p i ≡ true → all_below p (i + 1) ≡ true
  unfolding all_below
  all_more i h t = rw (add-one, h) t

  -- a number below the bound fails
  pub all-stops : (i n : ℕ) → i < n → p i ≡ false → all_below p n ≡ false
  unfolding all_below
  all-stops i zero l t = absurd (not-suc-le-zero l)
  all-stops i (suc n) l t =
      ⊎_elim (λ (e : i ≡ n). and-false (all_below p n) (p n) (rw e at t)) (λ (l' : i < n). rw (all-stops i n l' t))
      (eq-or-lt_of_le (le_of_suc-le-suc l))

  -- what holds of all holds of each
  pub all-at : (n : ℕ) → all_below p n ≡ true → (i : ℕ) → i < n → p i ≡ true
  unfolding all_below
  all-at zero h i l = absurd (not-suc-le-zero l)
  all-at (suc n) h i l =
      ⊎_elim (λ (e : i ≡ n). rw e (and_right (all_below p n) (p n) h)) (λ (l' : i < n). all-at n (and_left (all_below p n) (p n) h) i l')
      (eq-or-lt_of_le (le_of_suc-le-suc l))

  pub any_none : any_below p 0 ≡ false
  unfolding any_below
  any_none = refl

  pub any-more : (i : ℕ) → any_below p i ≡ false → p i ≡ false → any_below p (i + 1) ≡ false
  unfolding any_below
  any-more i h t = rw (add-one, h) t

  pub any-stops : (i n : ℕ) → i < n → p i ≡ true → any_below p n ≡ true
  unfolding any_below
  any-stops i zero l t = absurd (not-suc-le-zero l)
  any-stops i (suc n) l t =
      ⊎_elim (λ (e : i ≡ n). or-true (any_below p n) (p n) (rw e at t)) (λ (l' : i < n). rw (any-stops i n l' t))
      (eq-or-lt_of_le (le_of_suc-le-suc l))

  -- what holds of each holds of all
  pub all_of : (n : ℕ) → ((i : ℕ) → i < n → p i ≡ true) → all_below p n ≡ true
  unfolding all_below
  all_of zero h = refl
  all_of (suc n) h = rw (all_of n (λ i l. h i (omega arith))) (h n (omega arith))

  pub any-nowhere : (n : ℕ) → ((i : ℕ) → i < n → p i ≡ false) → any_below p n ≡ false
  unfolding any_below
  any-nowhere zero h = refl
  any-nowhere (suc n) h = rw (any-nowhere n (λ i l. h i (omega arith))) (h n (omega arith))

-- two tests that agree below the bound
module _ (p q : ℕ → Bool) where
  pub all_same : (n : ℕ) → ((i : ℕ) → i < n → p i ≡ q i) → all_below p n ≡ all_below q n
  unfolding all_below
  all_same zero h = refl
  all_same (suc n) h = rw (all_same n (λ i l. h i (omega arith)), h n (omega arith))

  pub any_same : (n : ℕ) → ((i : ℕ) → i < n → p i ≡ q i) → any_below p n ≡ any_below q n
  unfolding any_below
  any_same zero h = refl
  any_same (suc n) h = rw (any_same n (λ i l. h i (omega arith)), h n (omega arith))
