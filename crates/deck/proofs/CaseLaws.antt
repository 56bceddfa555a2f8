-- What holds at 0, 1, …, n - 1 holds at each number below n: a table of n proofs, looked up.
-- Assumes nothing.
use mathlib.Core.Path.{◌≡◌, refl, subst, sym}
use mathlib.Core.Bool.{Bool, true, false}
use mathlib.Core.Logic.{◌⊎◌, ⊎_elim, inl, inr}
use Prim.Native.Nat.{ℕ, zero, suc, ◌<◌, ◌≤◌}
use borrow.Author.Tests.{ltb-true, ltb-false}
use lib.Dec.{ltb}
use native.Mathlib.Nat.{eq-or-lt_of_le, le_of_suc-le-suc, not-suc-le-zero}

abbrev pub Cases : (ℕ → Type 0) → ℕ → Type 0
Cases P zero = Unit {0}
Cases P (suc n) = Cases P n × P n

pub case_at : (P : ℕ → Type 0) (n k : ℕ) → Cases P n → k < n → P k
case_at P zero k t h = absurd (not-suc-le-zero h)
case_at P (suc n) k t h = ⊎_elim (λ (e : k ≡ n). subst P (sym e) t.1) (λ (l : k < n). case_at P n k t.0 l) (eq-or-lt_of_le (le_of_suc-le-suc h))

pub lt-or-le : (a b : ℕ) → (a < b) ⊎ (b ≤ a)
lt-or-le a b = go (ltb a b) refl
  where
    go : (t : Bool) → ltb a b ≡ t → (a < b) ⊎ (b ≤ a)
    go true e = inl (ltb-true a b e)
    go false e = inr (ltb-false a b e)
