-- What is in a list: laws of `range`, `keep`, `map`, `flat_map`, `every` and `any`, and positions.
use Prim.Native.Nat.{ℕ, zero, suc, ◌+◌, ◌<◌, ◌≤◌}
use mathlib.Core.Bool.{Bool, true, false, cond, ◌&&◌, ◌||◌}
use mathlib.Core.Path.{◌≡◌, refl, sym, ap}
use mathlib.Core.Logic.{◌⊎◌, ⊎_elim}
use mathlib.Core.List.Memᴰ.{append_cases}
use mathlib.Core.List.Memᴰ.{append_left}
use mathlib.Core.List.Memᴰ.{append_right}
use mathlib.Core.List.Memᴰ.{cases_cons}
use mathlib.Core.List.Memᴰ.{head as here}
use mathlib.Core.List.Memᴰ.{not-nil as nothing-in}
use mathlib.Core.List.Memᴰ.{tail as there}
use mathlib.Core.List.{List, [], ◌∷◌, map, flat_map, Memᴰ as Member}
use native.Mathlib.Omega.{arith}
use Rattle.eval.proofs.Clash.{clash}
use native.Mathlib.Nat.{eq-or-lt_of_le}
use lib.ListN.{length, get_or}
use Rattle.eval.specs.Lists.{range, keep, every, any}

-- ---- range
pub range-in : (a n x : ℕ) → a ≤ x → x < a + n → Member x (range a n)
unfolding range
range-in a zero x h l = absurd (omega arith)
range-in a (suc n) x h l = ⊎_elim (λ (q : a ≡ x). here (sym q)) (λ (m : a < x). there (range-in (suc a) n x m (omega arith))) (eq-or-lt_of_le h)

pub in-range : (a n x : ℕ) → Member x (range a n) → (a ≤ x) × (x < a + n)
unfolding range
in-range a zero x m = absurd (nothing-in m)
in-range a (suc n) x m =
    ⊎_elim (λ (q : x ≡ a). (omega arith, omega arith)) (λ (m' : Member x (range (suc a) n)). let r = in-range (suc a) n x m' in (omega arith, omega arith)) (cases_cons m)

-- ---- keep
pub keep-in : (p : ℕ → Bool) (xs : List ℕ) (x : ℕ) → Member x xs → p x ≡ true → Member x (keep p xs)
unfolding keep
keep-in p [] x m e = m
keep-in p (y ∷ ys) x m e = go (p y) refl (cases_cons m) (λ m'. keep-in p ys x m' e)
  where
    go : (b : Bool) → p y ≡ b → (x ≡ y) ⊎ Member x ys → (Member x ys → Member x (keep p ys)) → Member x (cond b (y ∷ keep p ys) (keep p ys))
    go true q (◌⊎◌.inl i) ih = here i
    go true q (◌⊎◌.inr i) ih = there (ih i)
    go false q (◌⊎◌.inl i) ih = clash (cc)
    go false q (◌⊎◌.inr i) ih = ih i

pub in-keep : (p : ℕ → Bool) (xs : List ℕ) (x : ℕ) → Member x (keep p xs) → Member x xs × (p x ≡ true)
unfolding keep
in-keep p [] x m = absurd (nothing-in m)
in-keep p (y ∷ ys) x m = go (p y) refl m (in-keep p ys x)
  where
    first : p y ≡ true → (x ≡ y) ⊎ (Member x ys × (p x ≡ true)) → Member x (y ∷ ys) × (p x ≡ true)
    first q (◌⊎◌.inl i) = (here i, cc)
    first q (◌⊎◌.inr r) = (there r.0, r.1)

    later : (Member x (keep p ys) → Member x ys × (p x ≡ true)) → (x ≡ y) ⊎ Member x (keep p ys) → (x ≡ y) ⊎ (Member x ys × (p x ≡ true))
    later ih (◌⊎◌.inl i) = ◌⊎◌.inl i
    later ih (◌⊎◌.inr m) = ◌⊎◌.inr (ih m)

    go : (b : Bool) → p y ≡ b → Member x (cond b (y ∷ keep p ys) (keep p ys)) → (Member x (keep p ys) → Member x ys × (p x ≡ true)) → Member x (y ∷ ys) × (p x ≡ true)
    go true q m ih = first q (later ih (cases_cons m))
    go false q m ih = let r = ih m in (there r.0, r.1)

-- ---- map and flat_map
module _ {A B : Type 0} where
  pub map-in : (f : A → B) {x : A} {xs : List A} → Member x xs → Member (f x) (map f xs)
  map-in f (here e) = here (ap f e)
  map-in f (there m) = there (map-in f m)

  pub in_map : (f : A → B) (y : B) (xs : List A) → Member y (map f xs) → (x : A) × Member x xs × (y ≡ f x)
  in_map f y [] m = absurd (nothing-in m)
  in_map f y (x ∷ xs) m = ⊎_elim (λ (e : y ≡ f x). (x, here refl, e)) (λ (m' : Member y (map f xs)). let r = in_map f y xs m' in (r.0, there r.1, r.2)) (cases_cons m)

  pub flat_in : (f : A → List B) {x : A} {y : B} (xs : List A) → Member x xs → Member y (f x) → Member y (flat_map f xs)
  unfolding flat_map
  flat_in f [] m n = absurd (nothing-in m)
  flat_in f {x} {y} (z ∷ xs) m n =
      ⊎_elim (λ (e : x ≡ z). append_left (flat_map f xs) (rw e at n)) (λ (m' : Member x xs). append_right (f z) (flat_in f xs m' n)) (cases_cons m)

  pub in-flat : (f : A → List B) (y : B) (xs : List A) → Member y (flat_map f xs) → (x : A) × Member x xs × Member y (f x)
  unfolding flat_map
  in-flat f y [] m = absurd (nothing-in m)
  in-flat f y (x ∷ xs) m =
      ⊎_elim (λ (n : Member y (f x)). (x, here refl, n)) (λ (n : Member y (flat_map f xs)). let r = in-flat f y xs n in (r.0, there r.1, r.2)) (append_cases (f x) m)

  pub map_same : (f g : A → B) (xs : List A) → ((x : A) → Member x xs → f x ≡ g x) → map f xs ≡ map g xs
  map_same f g [] h = refl
  map_same f g (x ∷ xs) h = rw (h x (here refl), map_same f g xs (λ y m. h y (there m)))

-- ---- positions
module _ {A : Type 0} (d : A) where
  pub member-at : (l : List A) (i : ℕ) → i < length l → Member (get_or l i d) l
  member-at [] i h = absurd (omega arith)
  member-at (x ∷ xs) zero h = here refl
  member-at (x ∷ xs) (suc i) h = there (member-at xs i (omega arith))

  pub position : (x : A) (l : List A) → Member x l → (i : ℕ) × (i < length l) × (get_or l i d ≡ x)
  position x [] m = absurd (nothing-in m)
  position x (y ∷ ys) m =
      ⊎_elim (λ (e : x ≡ y). (0, omega arith, sym e)) (λ (m' : Member x ys). let r = position x ys m' in (suc r.0, omega (arith, r.1), r.2)) (cases_cons m)

-- ---- every and any
module _ {A : Type 0} (p : A → Bool) where
  pub every-at : (xs : List A) (x : A) → every (map p xs) ≡ true → Member x xs → p x ≡ true
  unfolding every
  every-at [] x h m = absurd (nothing-in m)
  every-at (y ∷ ys) x h m = go (p y) refl h (every-at ys x) (cases_cons m)
    where
      go : (b : Bool) → p y ≡ b → (b && every (map p ys)) ≡ true → (every (map p ys) ≡ true → Member x ys → p x ≡ true) → (x ≡ y) ⊎ Member x ys → p x ≡ true
      go true q h ih (◌⊎◌.inl e) = cc
      go true q h ih (◌⊎◌.inr m) = ih h m
      go false q h ih s = clash (cc)

  pub every_of : (xs : List A) → ((x : A) → Member x xs → p x ≡ true) → every (map p xs) ≡ true
  unfolding every
  every_of [] h = refl
  every_of (y ∷ ys) h = rw (h y (here refl)) (every_of ys (λ x m. h x (there m)))

  pub any_at : (xs : List A) (x : A) → Member x xs → p x ≡ true → any (map p xs) ≡ true
  unfolding any
  any_at [] x m e = absurd (nothing-in m)
  any_at (y ∷ ys) x m e = go (p y) refl (cases_cons m) (λ m'. any_at ys x m' e)
    where
      go : (b : Bool) → p y ≡ b → (x ≡ y) ⊎ Member x ys → (Member x ys → any (map p ys) ≡ true) → (b || any (map p ys)) ≡ true
      go true q s ih = refl
      go false q (◌⊎◌.inl i) ih = cc
      go false q (◌⊎◌.inr m) ih = ih m

  pub any_of : (xs : List A) → any (map p xs) ≡ true → (x : A) × Member x xs × (p x ≡ true)
  unfolding any
  any_of [] h = clash (cc)
  any_of (y ∷ ys) h = go (p y) refl h (any_of ys)
    where
      go : (b : Bool) → p y ≡ b → (b || any (map p ys)) ≡ true → (any (map p ys) ≡ true → (x : A) × Member x ys × (p x ≡ true)) → (x : A) × Member x (y ∷ ys) × (p x ≡ true)
      go true q h ih = (y, here refl, q)
      go false q h ih = let r = ih h in (r.0, there r.1, r.2)

  -- where none is true, each is false
  pub none-at : (xs : List A) (x : A) → any (map p xs) ≡ false → Member x xs → p x ≡ false
  none-at xs x h m = go (p x) refl
    where
      go : (b : Bool) → p x ≡ b → p x ≡ false
      go true q = cc (any_at xs x m q)
      go false q = q
