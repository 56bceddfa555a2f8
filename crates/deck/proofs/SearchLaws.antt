-- Search by halving among n values that rise: what has been passed on the left is below x, and on the right above it.
-- Assumes nothing.
use mathlib.Core.Path.{◌≡◌}
use mathlib.Core.Logic.{⊎_elim}
use Prim.Native.Nat.{ℕ, zero, suc, ◌+◌, ◌<◌, ◌≤◌}
use native.Mathlib.Nat.{eq-or-lt_of_le, le_of_suc-le-suc, not-suc-le-zero}
use native.Mathlib.Numerals.{add-one}
use native.Mathlib.Omega.{arith}
use Rattle.deck.proofs.CaseLaws.{lt-or-le}

module _ (f : ℕ → ℕ) (n : ℕ) where
  -- each value but the last is below the next
  abbrev pub Rising : Type 0
  Rising = (i : ℕ) → i + 1 < n → f i < f (i + 1)

  pub rising : Rising → (i j : ℕ) → i < j → j < n → f i < f j
  rising up i zero h l = absurd (not-suc-le-zero h)
  rising up i (suc j) h l =
      let step : f j < f (suc j) = rw (add-one j) at (up j (omega arith)) in
      ⊎_elim (λ (e : i ≡ j). rw e step) (λ (m : i < j). omega (arith, rising up i j m (omega arith), step)) (eq-or-lt_of_le (le_of_suc-le-suc h))

  -- x can only stand at a place from lo up to hi
  pub record Narrowed (x lo hi : ℕ) : Type 0 where
    pub ordered : lo ≤ hi
    pub end : hi ≤ n
    pub left : (i : ℕ) → i < lo → f i < x
    pub right : (i : ℕ) → hi ≤ i → i < n → x < f i

  pub narrow_start : (x : ℕ) → Narrowed x 0 n
  narrow_start x = record {
    ordered = omega arith;
    end = omega arith;
    left = λ i h. absurd (not-suc-le-zero h);
    right = λ i h l. absurd (omega arith);
  }

  module _ (up : Rising) {x lo hi : ℕ} (w : Narrowed x lo hi) (mid : ℕ) (g : lo ≤ mid) (l : mid < hi) where
    pub narrow-up : f mid < x → Narrowed x (mid + 1) hi
    narrow-up h = record {
      ordered = omega arith;
      end = w.end;
      left = λ i k. ⊎_elim (λ (e : i ≡ mid). rw e h) (λ (m : i < mid). omega (arith, rising up i mid m (omega (arith, w.end)))) (eq-or-lt_of_le (le_of_suc-le-suc (rw (add-one mid) at k)));
      right = w.right;
    }

    pub narrow-down : x < f mid → Narrowed x lo mid
    narrow-down h = record {
      ordered = g;
      end = omega (arith, w.end);
      left = w.left;
      right = λ i k m. ⊎_elim (λ (e : mid ≡ i). rw (← e) h) (λ (q : mid < i). omega (arith, rising up mid i q m)) (eq-or-lt_of_le k);
    }

  -- nothing is left: x stands nowhere
  pub narrow-none : {x lo hi : ℕ} → Narrowed x lo hi → hi ≤ lo → (i : ℕ) → i < n → f i ≡ x → ⊥
  narrow-none {x} {lo} {hi} w h i l e =
      ⊎_elim (λ (m : i < lo). omega (arith, w.left i m)) (λ (g : lo ≤ i). omega (arith, w.right i (omega arith) l)) (lt-or-le i lo)
