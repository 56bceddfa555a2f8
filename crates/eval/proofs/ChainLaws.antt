-- What an iterator chain over rows, members or numbers tests, against the definitions of specs/.
use Prim.Native.Nat.{ℕ, zero, suc, ◌+◌, ◌≤◌}
use mathlib.Core.Bool.{Bool, ◌&&◌, ◌||◌}
use mathlib.Core.List.{List, [], ◌∷◌, ◌++◌, map}
use mathlib.Core.Path.{◌≡◌, refl, ap, ◌∙◌}
use native.Mathlib.Omega.{arith}
use lib.ListN.{length, get_or, take}
use lib.Seq.{take-suc}
use Rattle.std.specs.List.{list_any, list_all, range_with_len}
use Rattle.std.proofs.lemmas.List.Recursion.{and_push}
use Rattle.deck.specs.Below.{all_below}
use Rattle.eval.specs.Lists.{any}

pub any-map : {A B : Type 0} (p : B → Bool) (f : A → B) (xs : List A) → list_any (λ x. p (f x)) xs ≡ any (map p (map f xs))
unfolding any
any-map p f [] = refl
any-map p f (x ∷ xs) = ap (λ b. p (f x) || b) (any-map p f xs)

all-push : {A : Type 0} (p : A → Bool) (xs : List A) (x : A) → list_all p (xs ++ x ∷ []) ≡ (list_all p xs && p x)
all-push p xs x = and_push (list_all p) p refl (λ _ _. refl) xs x

range_more : (a n k : ℕ) → a + n ≡ k → range_with_len a (suc n) ≡ range_with_len a n ++ k ∷ []
range_more a zero k e = ap (λ (j : ℕ). j ∷ []) (omega arith)
range_more a (suc n) k e = ap (λ (xs : List ℕ). a ∷ xs) (range_more (a + 1) n k (omega arith))

pub all-range : (p : ℕ → Bool) (n : ℕ) → list_all p (range_with_len 0 n) ≡ all_below p n
unfolding all_below
all-range p zero = refl
all-range p (suc n) = ap (list_all p) (range_more 0 n n (omega arith)) ∙ all-push p (range_with_len 0 n) n ∙ ap (λ b. b && p n) (all-range p n)

pub all-rows : {A : Type 0} (p : A → Bool) (d : A) (rows : List A) (n : ℕ) → n ≤ length rows → list_all p (take n rows) ≡ all_below (λ i. p (get_or rows i d)) n
unfolding all_below
all-rows p d rows zero h = refl
all-rows p d rows (suc n) h = rw (take-suc rows n d (omega arith)) (all-push p (take n rows) (get_or rows n d) ∙ ap (λ b. b && p (get_or rows n d)) (all-rows p d rows n (omega arith)))
