-- Laws of `walk`, and one record for every loop that walks a list of steps: On.
use Prim.Native.Nat.{ℕ, suc, ◌+◌, ◌<◌, ◌≤◌}
use native.Mathlib.Nat.{add-zero, zero-add}
use native.Mathlib.Omega.{arith}
use mathlib.Core.Path.{◌≡◌, refl, sym, ap, ◌∙◌, subst}
use mathlib.Core.List.Memᴰ.{head as here}
use mathlib.Core.List.Memᴰ.{tail as there}
use mathlib.Core.List.{List, [], ◌∷◌, ◌++◌, map, flat_map, Memᴰ as Member}
use lib.ListN.{length, get_or, drop, drop_of_length-le}
use Rattle.eval.specs.Lists.{range}
use Rattle.eval.proofs.Walks.{list-step}
use Rattle.atoms.specs.Walk.{walk}

-- what every step keeps, the walk keeps
pub walk-keeps : {A S : Type 0} (Q : S → Type 0) (f : A → S → S) (xs : List A) → ((x : A) → Member x xs → (s : S) → Q s → Q (f x s)) → (s : S) → Q s → Q (walk f xs s)
unfolding walk
walk-keeps Q f [] h s q = q
walk-keeps Q f (x ∷ xs) h s q = walk-keeps Q f xs (λ y i. h y (there i)) (f x s) (h x (here refl) s q)

-- a state that no step changes, the walk does not change
pub walk-fixed : {A S : Type 0} (f : A → S → S) (xs : List A) (s : S) → ((x : A) → f x s ≡ s) → walk f xs s ≡ s
unfolding walk
walk-fixed f [] s h = refl
walk-fixed f (x ∷ xs) s h = rw (h x) (walk-fixed f xs s h)

-- a walk over images
pub walk-map : {A B S : Type 0} (f : B → S → S) (g : A → B) (xs : List A) (s : S) → walk f (map g xs) s ≡ walk (λ x. f (g x)) xs s
unfolding walk
walk-map f g [] s = refl
walk-map f g (x ∷ xs) s = walk-map f g xs (f (g x) s)

-- a walk over the lists that a list gives, one after the other
pub walk-append : {A S : Type 0} (f : A → S → S) (xs ys : List A) (s : S) → walk f (xs ++ ys) s ≡ walk f ys (walk f xs s)
unfolding walk
walk-append f [] ys s = refl
walk-append f (x ∷ xs) ys s = walk-append f xs ys (f x s)

pub walk-flat : {A B S : Type 0} (f : B → S → S) (g : A → List B) (xs : List A) (s : S) → walk f (flat_map g xs) s ≡ walk (λ x. walk f (g x)) xs s
unfolding walk flat_map
walk-flat f g [] s = refl
walk-flat f g (x ∷ xs) s = walk-append f (g x) (flat_map g xs) s ∙ walk-flat f g xs (walk f (g x) s)

-- steps that do the same on every member
pub walk_same : {A S : Type 0} (f g : A → S → S) (xs : List A) → ((x : A) → Member x xs → f x ≡ g x) → (s : S) → walk f xs s ≡ walk g xs s
unfolding walk
walk_same f g [] h s = refl
walk_same f g (x ∷ xs) h s = rw (h x (here refl)) (walk_same f g xs (λ y i. h y (there i)) (g x s))

-- a list taken place by place is the list taken one by one
walk_from : {A S : Type 0} (d : A) (f : A → S → S) (at : ℕ → A) (k : ℕ) (l : List A) → ((i : ℕ) → i < length l → at (k + i) ≡ get_or l i d) → (s : S) → walk (λ i. f (at i)) (range k (length l)) s ≡ walk f l s
unfolding walk range
walk_from d f at k [] h s = refl
walk_from {A} d f at k (x ∷ xs) h s =
    let first : at k ≡ x = ap at (sym (add-zero k)) ∙ h 0 (omega arith) in
    let next : (i : ℕ) → suc k + i ≡ k + suc i = λ i. omega arith in
    ap (λ (y : A). walk (λ i. f (at i)) (range (suc k) (length xs)) (f y s)) first
    ∙ walk_from d f at (suc k) xs (λ i l. ap at (next i) ∙ h (suc i) (omega (arith, l))) (f x s)

pub walk-placed : {A S : Type 0} (d : A) (f : A → S → S) (l : List A) (s : S) → walk (λ i. f (get_or l i d)) (range 0 (length l)) s ≡ walk f l s
walk-placed d f l s = walk_from d f (λ i. get_or l i d) 0 l (λ i h. ap (λ (k : ℕ). get_or l k d) (zero-add i)) s

-- a walk as a loop takes it: what is still to come is `drop i l`
module _ {A S : Type 0} (d : A) (f : A → S → S) (l : List A) (i : ℕ) (s : S) where
  pub walk_end : length l ≤ i → s ≡ walk f (drop i l) s
  unfolding walk
  walk_end h = rw (drop_of_length-le l h)

  pub walk_step : i < length l → {next : S} → next ≡ f (get_or l i d) s → walk f (drop i l) s ≡ walk f (drop (i + 1) l) next
  unfolding walk
  walk_step h q = rw (list-step d l i h, q)

-- the operand that a loop reads at i, and what comes after it
pub operand : (l : List ℕ) (i : ℕ) → i < length l → {x : ℕ} → x ≡ get_or l i 0 → drop i l ≡ x ∷ drop (i + 1) l
operand l i h q = rw q (list-step 0 l i h)

-- ---- every loop that walks a list: a walk over `all` has come to `rest`, and the buffers hold where it is, as L says
pub record On {A S : Type 0} (L : S → Type 0) (f : A → S → S) (all rest : List A) (from here : S) : Type 0 where
  pub built : L here
  pub goes : walk f all from ≡ walk f rest here

module _ {A S : Type 0} {L : S → Type 0} {f : A → S → S} {all rest : List A} {from here : S} (G : On L f all rest from here) where
  pub done : rest ≡ [] → L (walk f all from)
  unfolding walk
  done q = subst L (sym (G.goes ∙ ap (λ z. walk f z here) q)) G.built

  module _ {x : A} {more : List A} (q : rest ≡ x ∷ more) (M : S → Type 0) where
    next : walk f all from ≡ walk f more (f x here)
    unfolding walk
    next = G.goes ∙ ap (λ z. walk f z here) q

    -- a step after which nothing changes
    pub stop : M (f x here) → ((y : A) → f y (f x here) ≡ f x here) → M (walk f all from)
    stop m stuck = subst M (sym (next ∙ walk-fixed f more (f x here) stuck)) m

    -- a step to the next
    pub onward : {there : S} → M there → there ≡ f x here → On M f all more from there
    onward m e = record { built = m; goes = next ∙ ap (walk f more) (sym e) }
