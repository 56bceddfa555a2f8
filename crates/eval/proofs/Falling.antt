-- Induction on a number from all smaller ones, and the step of `numbered`.
use Prim.Native.Nat.{ℕ, zero, suc, ◌<◌}
use mathlib.Core.Bool.{Bool, true, false, cond}
use mathlib.Core.Path.{◌≡◌, refl, ap}
use native.Mathlib.Omega.{arith}
use lib.Dec.{eqb}
use borrow.Author.Tests.{eqb-true, eqb-false}
use Rattle.eval.specs.Numbered.{numbered, below}

module _ (P : ℕ → Type 0) (step : (c : ℕ) → ((o : ℕ) → o < c → P o) → P c) where
  under : (n c : ℕ) → c < n → P c
  under zero c h = absurd (omega arith)
  under (suc n) c h = step c (λ o l. under n o (omega arith))

  pub falling : (c : ℕ) → P c
  falling c = under (suc c) c (omega arith)

-- below n, what stands at k is the value at k
pub below-is : {A : Type 0} (d : A) (step : ℕ → (ℕ → A) → A) (n k : ℕ) → k < n → below d step n k ≡ numbered d step k
unfolding below numbered
below-is d step zero k h = absurd (omega arith)
below-is d step (suc n) k h = go (eqb k n) refl (below-is d step n k)
  where
    go : (b : Bool) → eqb k n ≡ b → (k < n → below d step n k ≡ numbered d step k) → cond b (step n (below d step n)) (below d step n k) ≡ step k (below d step k)
    go true e ih = ap (λ (m : ℕ). step m (below d step m)) (let q : k ≡ n = eqb-true k n e in omega (arith, q))
    go false e ih = ih (let q : k ≡ n → ⊥ = eqb-false k n e in omega (arith, q))

-- a step that looks at smaller numbers only is taken with the values themselves
pub numbered-at : {A : Type 0} (d : A) (step : ℕ → (ℕ → A) → A) → ((c : ℕ) (f g : ℕ → A) → ((o : ℕ) → o < c → f o ≡ g o) → step c f ≡ step c g)
    → (c : ℕ) → numbered d step c ≡ step c (numbered d step)
unfolding numbered
numbered-at d step same c = same c (below d step c) (numbered d step) (below-is d step c)
