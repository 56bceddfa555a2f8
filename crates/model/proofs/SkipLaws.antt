-- Steps of a walk that change nothing may be passed over.
use Prim.Native.Nat.{ℕ, zero, suc, ◌+◌, ◌-◌, ◌<◌, ◌≤◌}
use mathlib.Core.Path.{◌≡◌, sym, ap, ◌∙◌}
use mathlib.Core.List.{List}
use native.Mathlib.Nat.{add-zero}
use native.Mathlib.Omega.{arith}
use lib.ListN.{length, get_or, drop}
use Rattle.eval.specs.Lists.{range}
use Rattle.eval.proofs.Walks.{list-step, range-step}
use Rattle.atoms.specs.Walk.{walk}

-- places of a list
module _ {A S : Type 0} (d : A) (f : A → S → S) (l : List A) (s : S) where
  skip-list : (n i : ℕ) → i + n ≤ length l → ((k : ℕ) → i ≤ k → k < i + n → f (get_or l k d) s ≡ s) → walk f (drop i l) s ≡ walk f (drop (i + n) l) s
  unfolding walk
  skip-list zero i b h = ap (λ (k : ℕ). walk f (drop k l) s) (sym (add-zero i))
  skip-list (suc n) i b h =
      let one : walk f (drop i l) s ≡ walk f (drop (i + 1) l) s = ap (λ (z : List A). walk f z s) (list-step d l i (omega arith)) ∙ ap (walk f (drop (i + 1) l)) (h i (omega arith) (omega arith)) in
      let e : i + 1 + n ≡ i + suc n = omega arith in
      one ∙ skip-list n (i + 1) (omega arith) (λ k p q. h k (omega arith) (omega arith)) ∙ ap (λ (k : ℕ). walk f (drop k l) s) e

  pub walk-skip : (i j : ℕ) → i ≤ j → j ≤ length l → ((k : ℕ) → i ≤ k → k < j → f (get_or l k d) s ≡ s) → walk f (drop i l) s ≡ walk f (drop j l) s
  walk-skip i j a b h =
      let e : i + (j - i) ≡ j = omega arith in
      skip-list (j - i) i (omega arith) (λ k p q. h k p (omega arith)) ∙ ap (λ (k : ℕ). walk f (drop k l) s) e

-- numbers below n
module _ {S : Type 0} (f : ℕ → S → S) (n : ℕ) (s : S) where
  skip_range : (g i : ℕ) → i + g ≤ n → ((k : ℕ) → i ≤ k → k < i + g → f k s ≡ s) → walk f (range i (n - i)) s ≡ walk f (range (i + g) (n - (i + g))) s
  unfolding walk
  skip_range zero i b h = ap (λ (k : ℕ). walk f (range k (n - k)) s) (sym (add-zero i))
  skip_range (suc g) i b h =
      let one : walk f (range i (n - i)) s ≡ walk f (range (i + 1) (n - (i + 1))) s = ap (λ (z : List ℕ). walk f z s) (range-step i n (omega arith)) ∙ ap (walk f (range (i + 1) (n - (i + 1)))) (h i (omega arith) (omega arith)) in
      let e : i + 1 + g ≡ i + suc g = omega arith in
      one ∙ skip_range g (i + 1) (omega arith) (λ k p q. h k (omega arith) (omega arith)) ∙ ap (λ (k : ℕ). walk f (range k (n - k)) s) e

  pub range-skip : (i j : ℕ) → i ≤ j → j ≤ n → ((k : ℕ) → i ≤ k → k < j → f k s ≡ s) → walk f (range i (n - i)) s ≡ walk f (range j (n - j)) s
  range-skip i j a b h =
      let e : i + (j - i) ≡ j = omega arith in
      skip_range (j - i) i (omega arith) (λ k p q. h k p (omega arith)) ∙ ap (λ (k : ℕ). walk f (range k (n - k)) s) e
