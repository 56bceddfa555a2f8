-- Walks over lists, as loops take them: what is still to come is `drop i l`.
-- Assumes nothing.
use Prim.Native.Nat.{ℕ, zero, suc, ◌+◌, ◌<◌, ◌≤◌}
use mathlib.Core.Bool.{Bool, true, false, ◌&&◌, ◌||◌}
use mathlib.Core.Path.{◌≡◌, refl, sym, ap, ◌∙◌}
use mathlib.Core.List.Memᴰ.{head as here}
use mathlib.Core.List.Memᴰ.{tail as there}
use mathlib.Core.List.{List, [], ◌∷◌, ◌++◌, map, flat_map, append_assoc, Memᴰ as Member}
use mathlib.Core.Logic.{⊎_elim}
use native.Mathlib.Nat.{eq-or-lt_of_le, add-zero, zero-add}
use native.Mathlib.Omega.{arith}
use lib.ListN.{length, get_or, drop, drop_of_length-le}
use Rattle.std.specs.List.{list_any, list_all, range_with_len}
use Rattle.deck.specs.Below.{any_below}
use Rattle.eval.specs.Lists.{every, any}
use Rattle.eval.proofs.Walks.{list-step}
use Rattle.atoms.specs.Label.{insert_bit, insert_all}
use Rattle.atoms.proofs.LabelLaws.{insert-all-append}

-- ---- lists
pub map-append : {A B : Type 0} (f : A → B) (xs ys : List A) → map f (xs ++ ys) ≡ map f xs ++ map f ys
map-append f [] ys = refl
map-append f (x ∷ xs) ys = ap (λ l. f x ∷ l) (map-append f xs ys)

pub flat-same : {A B : Type 0} (f g : A → List B) (l : List A) → ((x : A) → Member x l → f x ≡ g x) → flat_map f l ≡ flat_map g l
unfolding flat_map
flat-same f g [] h = refl
flat-same f g (x ∷ xs) h = rw (h x (here refl), flat-same f g xs (λ y m. h y (there m)))

pub flat_append : {A B : Type 0} (f : A → List B) (xs ys : List A) → flat_map f (xs ++ ys) ≡ flat_map f xs ++ flat_map f ys
unfolding flat_map
flat_append f [] ys = refl
flat_append f (x ∷ xs) ys = rw (flat_append f xs ys) (sym (append_assoc (f x) (flat_map f xs) (flat_map f ys)))

pub flat-flat : {A B C : Type 0} (g : B → List C) (f : A → List B) (l : List A) → flat_map g (flat_map f l) ≡ flat_map (λ x. flat_map g (f x)) l
unfolding flat_map
flat-flat g f [] = refl
flat-flat g f (x ∷ xs) = flat_append g (f x) (flat_map f xs) ∙ ap (λ (r : _). flat_map g (f x) ++ r) (flat-flat g f xs)

pub any-mono : (p : ℕ → Bool) (n m : ℕ) → n ≤ m → any_below p n ≡ true → any_below p m ≡ true
unfolding any_below
any-mono p n zero h a = let e : n ≡ 0 = omega arith in rw e at a
any-mono p n (suc m) h a = ⊎_elim (λ (e : n ≡ suc m). rw e at a) (λ (l : n < suc m). rw (any-mono p n m (omega arith) a)) (eq-or-lt_of_le h)

-- ---- a list that a chain reads place by place
module _ (p : ℕ → Bool) where
  all_from : (l : List ℕ) (k : ℕ) (at : ℕ → ℕ) → ((i : ℕ) → i < length l → at (k + i) ≡ get_or l i 0) → list_all (λ i. p (at i)) (range_with_len k (length l)) ≡ every (map p l)
  unfolding every
  all_from [] k at h = refl
  all_from (x ∷ xs) k at h =
      let first : at k ≡ x = ap at (sym (add-zero k)) ∙ h 0 (omega arith) in
      let next : (i : ℕ) → k + 1 + i ≡ k + suc i = λ i. omega arith in
      ap (λ (y : ℕ). p y && list_all (λ i. p (at i)) (range_with_len (k + 1) (length xs))) first
      ∙ ap (λ (b : Bool). p x && b) (all_from xs (k + 1) at (λ i l. ap at (next i) ∙ h (suc i) (omega (arith, l))))

  any_from : (l : List ℕ) (k : ℕ) (at : ℕ → ℕ) → ((i : ℕ) → i < length l → at (k + i) ≡ get_or l i 0) → list_any (λ i. p (at i)) (range_with_len k (length l)) ≡ any (map p l)
  unfolding any
  any_from [] k at h = refl
  any_from (x ∷ xs) k at h =
      let first : at k ≡ x = ap at (sym (add-zero k)) ∙ h 0 (omega arith) in
      let next : (i : ℕ) → k + 1 + i ≡ k + suc i = λ i. omega arith in
      ap (λ (y : ℕ). p y || list_any (λ i. p (at i)) (range_with_len (k + 1) (length xs))) first
      ∙ ap (λ (b : Bool). p x || b) (any_from xs (k + 1) at (λ i l. ap at (next i) ∙ h (suc i) (omega (arith, l))))

  pub all-places : (l : List ℕ) (n : ℕ) → length l ≡ n → list_all (λ i. p (get_or l i 0)) (range_with_len 0 n) ≡ every (map p l)
  all-places l n e = rw (← e) (all_from l 0 (λ i. get_or l i 0) (λ i h. ap (λ (k : ℕ). get_or l k 0) (zero-add i)))

  pub any-places : (l : List ℕ) (n : ℕ) → length l ≡ n → list_any (λ i. p (get_or l i 0)) (range_with_len 0 n) ≡ any (map p l)
  any-places l n e = rw (← e) (any_from l 0 (λ i. get_or l i 0) (λ i h. ap (λ (k : ℕ). get_or l k 0) (zero-add i)))

-- ---- a walk over a list: all, or one, true; the label that takes in what each gives
module _ {A : Type 0} (d : A) (l : List A) (i : ℕ) where
  module _ (p : A → Bool) where
    pub every-end : length l ≤ i → true ≡ every (map p (drop i l))
    unfolding every
    every-end h = rw (drop_of_length-le l h)

    pub every-step : i < length l → p (get_or l i d) ≡ true → every (map p (drop i l)) ≡ every (map p (drop (i + 1) l))
    unfolding every
    every-step h e = rw (list-step d l i h, e)

    pub every-stop : i < length l → p (get_or l i d) ≡ false → false ≡ every (map p (drop i l))
    unfolding every
    every-stop h e = rw (list-step d l i h, e)

    pub any-end : length l ≤ i → false ≡ any (map p (drop i l))
    unfolding any
    any-end h = rw (drop_of_length-le l h)

    pub any_step : i < length l → p (get_or l i d) ≡ false → any (map p (drop i l)) ≡ any (map p (drop (i + 1) l))
    unfolding any
    any_step h e = rw (list-step d l i h, e)

    pub any-stop : i < length l → p (get_or l i d) ≡ true → true ≡ any (map p (drop i l))
    unfolding any
    any-stop h e = rw (list-step d l i h, e)

  module _ (f : A → List ℕ) (now : List ℕ) where
    pub taken-end : length l ≤ i → now ≡ insert_all now (flat_map f (drop i l))
    unfolding insert_all flat_map
    taken-end h = rw (drop_of_length-le l h)

    pub taken_step : i < length l → {next : List ℕ} → next ≡ insert_all now (f (get_or l i d)) → insert_all now (flat_map f (drop i l)) ≡ insert_all next (flat_map f (drop (i + 1) l))
    unfolding flat_map
    taken_step h q = rw (list-step d l i h, q) (insert-all-append now (f (get_or l i d)) (flat_map f (drop (i + 1) l)))

-- ---- the label that takes in the classes of a list
module _ (l : List ℕ) (i : ℕ) (now : List ℕ) where
  pub insert-end : length l ≤ i → now ≡ insert_all now (drop i l)
  unfolding insert_all
  insert-end h = rw (drop_of_length-le l h)

  pub insert-step : i < length l → {next : List ℕ} → next ≡ insert_bit now (get_or l i 0) → insert_all now (drop i l) ≡ insert_all next (drop (i + 1) l)
  unfolding insert_all
  insert-step h q = rw (list-step 0 l i h, q)
