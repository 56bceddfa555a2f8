-- Recursion on a number whose step may look at every smaller number: `numbered d step n` is `step n` at the values below n, with d for a number that is not below.
use Rattle.std.specs.Prelude.{ℕ, zero, suc, cond, eqb}

module _ {A : Type 0} (d : A) (step : ℕ → (ℕ → A) → A) where
  -- the values below n
  unfoldable pub below : ℕ → ℕ → A
  below zero k = d
  below (suc n) k = cond (eqb k n) (step n (below n)) (below n k)

  unfoldable pub numbered : ℕ → A
  numbered n = step n (below n)
