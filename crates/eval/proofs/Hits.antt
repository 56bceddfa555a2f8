-- A Some judged in one pass over a list of records: those that pass a test give the successors, in any order and with repeats.
--     hit-in, in-hits                          what is hit
--     hits-end, hits-skip, hits-step, hits-stop    one step of the pass, from record i on
use Prim.Native.Nat.{ℕ, ◌+◌, ◌<◌, ◌≤◌}
use mathlib.Core.Bool.{Bool, true, false, cond}
use mathlib.Core.Path.{◌≡◌, refl, sym, ap, ◌∙◌}
use mathlib.Core.Logic.{◌⊎◌, ⊎_elim}
use mathlib.Core.List.Memᴰ.{cases_cons}
use mathlib.Core.List.Memᴰ.{head as here}
use mathlib.Core.List.Memᴰ.{not-nil as nothing-in}
use mathlib.Core.List.Memᴰ.{tail as there}
use mathlib.Core.List.{List, [], ◌∷◌, Memᴰ as Member}
use lib.ListN.{length, get_or, drop, drop_of_length-le}
use Rattle.eval.proofs.Clash.{clash}
use Rattle.eval.specs.declared.judgement.Judgement.{Judgement}
use Rattle.eval.specs.declared.judgement.Judgement.TheVariants.{True}
use Rattle.eval.specs.declared.standing.Standing.{Standing}
use Rattle.eval.specs.Standing.{some_next, some_close}
use Rattle.eval.specs.Judge.{some_from}
use Rattle.eval.proofs.Folds.{some-ended}
use Rattle.eval.proofs.Walks.{list-step}

module _ {A : Type 0} (p : A → Bool) (g : A → ℕ) where
  unfoldable pub hits : List A → List ℕ
  hits [] = []
  hits (a ∷ rest) = cond (p a) (g a ∷ hits rest) (hits rest)

  pub hit-in : (l : List A) (a : A) → Member a l → p a ≡ true → Member (g a) (hits l)
  unfolding hits
  hit-in [] a m e = absurd (nothing-in m)
  hit-in (b ∷ l) a m e = go (p b) refl (cases_cons m) (λ n. hit-in l a n e)
    where
      go : (t : Bool) → p b ≡ t → (a ≡ b) ⊎ Member a l → (Member a l → Member (g a) (hits l)) → Member (g a) (cond t (g b ∷ hits l) (hits l))
      go true q (◌⊎◌.inl i) ih = here (ap g i)
      go true q (◌⊎◌.inr n) ih = there (ih n)
      go false q (◌⊎◌.inl i) ih = clash (cc)
      go false q (◌⊎◌.inr n) ih = ih n

  pub in-hits : (l : List A) (x : ℕ) → Member x (hits l) → (a : A) × Member a l × (p a ≡ true) × (x ≡ g a)
  unfolding hits
  in-hits [] x m = absurd (nothing-in m)
  in-hits (b ∷ l) x m = go (p b) refl m (in-hits l x)
    where
      later : (Member x (hits l) → (a : A) × Member a l × (p a ≡ true) × (x ≡ g a)) → Member x (hits l) → (a : A) × Member a (b ∷ l) × (p a ≡ true) × (x ≡ g a)
      later ih n = let r = ih n in (r.0, there r.1, r.2, r.3)

      go : (t : Bool) → p b ≡ t → Member x (cond t (g b ∷ hits l) (hits l)) → (Member x (hits l) → (a : A) × Member a l × (p a ≡ true) × (x ≡ g a)) → (a : A) × Member a (b ∷ l) × (p a ≡ true) × (x ≡ g a)
      go true q m ih = ⊎_elim (λ i. (b, here refl, q, i)) (later ih) (cases_cons m)
      go false q m ih = later ih m

  module _ (f : ℕ → Judgement) (s : Standing) (d : A) (l : List A) (i : ℕ) where
    pub hits-end : length l ≤ i → some_close s ≡ some_from f s (hits (drop i l))
    unfolding some_from hits
    hits-end h = rw (drop_of_length-le l h)

    module _ (h : i < length l) where
      pub hits-skip : p (get_or l i d) ≡ false → some_from f s (hits (drop i l)) ≡ some_from f s (hits (drop (i + 1) l))
      unfolding hits
      hits-skip e = rw (list-step d l i h, e)

      module _ (e : p (get_or l i d) ≡ true) {j : Judgement} {next : Standing} (v : j ≡ f (g (get_or l i d))) (q : next ≡ some_next s j) where
        pub hits-step : some_from f s (hits (drop i l)) ≡ some_from f next (hits (drop (i + 1) l))
        unfolding some_from hits
        hits-step = rw (list-step d l i h, e, q, v)

        pub hits-stop : next.ended ≡ true → True ≡ some_from f s (hits (drop i l))
        hits-stop k = sym (hits-step ∙ some-ended f next (hits (drop (i + 1) l)) k)
