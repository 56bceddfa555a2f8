-- The steps of `judge`, `ext` and `plain` in a sound deck: a concept's own meaning, with the meaning of its operands.
use Prim.Native.Nat.{ℕ, ◌<◌}
use mathlib.Core.Bool.{Bool, true, false}
use mathlib.Core.Path.{◌≡◌, refl, ap, fun_ext}
use mathlib.Core.List.Memᴰ.{head as here}
use mathlib.Core.List.Memᴰ.{tail as there}
use mathlib.Core.List.{List, [], ◌∷◌, Memᴰ as Member}
use lib.Dec.{ltb}
use borrow.Author.Tests.{ltb-true, ltb-false}
use lib.ListN.{get_or-eq_default}
use Rattle.deck.specs.Deck.{Deck, Concept, concept_at, concept_count}
use Rattle.deck.specs.Sound.{Sound, ConceptFits, counts_in, EachBelow}
use Rattle.eval.specs.declared.judgement.Judgement.{Judgement}
use Rattle.eval.specs.declared.judgement.Judgement.TheVariants.{False}
use Rattle.eval.specs.declared.standing.Standing.{Standing}
use Rattle.eval.specs.Standing.{fresh, and_next}
use Rattle.eval.specs.Lists.{every}
use Rattle.eval.specs.Structure.{Structure}
use Rattle.eval.specs.Judge.{judge, judge_of, and_from}
use Rattle.eval.specs.Truth.{Choice, ext, ext_of, plain, plain_of}
use Rattle.eval.proofs.Falling.{numbered-at}
use Rattle.eval.proofs.ListLaws.{map_same, position}

-- the operands of every concept number are below it: past the count stands Top, which has none
pub fits : (D : Deck) → Sound D → (c : ℕ) → ConceptFits (counts_in D) c (concept_at D c)
fits D W c = go (ltb c (concept_count D)) refl
  where
    go : (b : Bool) → ltb c (concept_count D) ≡ b → ConceptFits (counts_in D) c (concept_at D c)
    go true q = W.concepts c (ltb-true _ _ q)
    go false q = rw (get_or-eq_default D.concepts Concept.Top (ltb-false c (concept_count D) q)) tt

pub each_below : (n : ℕ) (l : List ℕ) → EachBelow n l → (o : ℕ) → Member o l → o < n
each_below n l h o m = let p = position 0 o l m in rw p.2 at (h p.0 p.1)

-- an And asks its operands only
pub and_same : (f g : ℕ → Judgement) (s : Standing) (l : List ℕ) → ((o : ℕ) → Member o l → f o ≡ g o) → and_from f s l ≡ and_from g s l
unfolding and_from
and_same f g s [] h = refl
and_same f g s (x ∷ xs) h = rw (h x (here refl)) (and_same f g (and_next s (g x)) xs (λ o m. h o (there m)))

module _ (D : Deck) (W : Sound D) where
  module _ (S : Structure) where
    judge-same : (c : ℕ) (k : Concept) → ConceptFits (counts_in D) c k → (f g : ℕ → ℕ → Judgement) → ((o : ℕ) → o < c → f o ≡ g o) → (e : ℕ) → judge_of D S k f e ≡ judge_of D S k g e
    unfolding judge_of
    judge-same c Concept.Top h f g q e = refl
    judge-same c Concept.Bot h f g q e = refl
    judge-same c (Concept.Atomic k) h f g q e = refl
    judge-same c (Concept.Nominal i) h f g q e = refl
    judge-same c (Concept.SelfRestriction r) h f g q e = refl
    judge-same c (Concept.Not b) h f g q e = refl
    judge-same c (Concept.And l) h f g q e = and_same (λ o. f o e) (λ o. g o e) fresh l (λ o m. ap (λ (j : ℕ → Judgement). j e) (q o (each_below c l h o m)))
    judge-same c (Concept.Or l) h f g q e = refl
    judge-same c (Concept.Some r b) h f g q e = rw (q b h.1)
    judge-same c (Concept.All r b) h f g q e = refl
    judge-same c (Concept.Min m r b) h f g q e = refl
    judge-same c (Concept.Max m r b) h f g q e = refl

    pub judge-at : (c : ℕ) → judge D S c ≡ judge_of D S (concept_at D c) (judge D S)
    unfolding judge
    judge-at = numbered-at (λ e. False) (λ c f. judge_of D S (concept_at D c) f) (λ c f g q. fun_ext (judge-same c (concept_at D c) (fits D W c) f g q))

    -- the same, for a concept that has been read
    pub judge-is : (c e : ℕ) (k : Concept) → concept_at D c ≡ k → judge_of D S k (judge D S) e ≡ judge D S c e
    judge-is c e k q = rw (judge-at c, ← q)

    ext_same : (χ : Choice) (c : ℕ) (k : Concept) → ConceptFits (counts_in D) c k → (f g : ℕ → ℕ → Bool) → ((o : ℕ) → o < c → f o ≡ g o) → (e : ℕ) → ext_of D S χ c k f e ≡ ext_of D S χ c k g e
    unfolding ext_of
    ext_same χ c Concept.Top h f g q e = refl
    ext_same χ c Concept.Bot h f g q e = refl
    ext_same χ c (Concept.Atomic k) h f g q e = refl
    ext_same χ c (Concept.Nominal i) h f g q e = refl
    ext_same χ c (Concept.SelfRestriction r) h f g q e = refl
    ext_same χ c (Concept.Not b) h f g q e = refl
    ext_same χ c (Concept.And l) h f g q e = ap every (map_same (λ o. f o e) (λ o. g o e) l (λ o m. ap (λ (j : ℕ → Bool). j e) (q o (each_below c l h o m))))
    ext_same χ c (Concept.Or l) h f g q e = refl
    ext_same χ c (Concept.Some r b) h f g q e = rw (q b h.1)
    ext_same χ c (Concept.All r b) h f g q e = refl
    ext_same χ c (Concept.Min m r b) h f g q e = refl
    ext_same χ c (Concept.Max m r b) h f g q e = refl

    pub ext-at : (χ : Choice) (c : ℕ) → ext D S χ c ≡ ext_of D S χ c (concept_at D c) (ext D S χ)
    unfolding ext
    ext-at χ = numbered-at (λ e. false) (λ c f. ext_of D S χ c (concept_at D c) f) (λ c f g q. fun_ext (ext_same χ c (concept_at D c) (fits D W c) f g q))

  plain-same : (c : ℕ) (k : Concept) → ConceptFits (counts_in D) c k → (f g : ℕ → Bool) → ((o : ℕ) → o < c → f o ≡ g o) → plain_of k f ≡ plain_of k g
  unfolding plain_of
  plain-same c Concept.Top h f g q = refl
  plain-same c Concept.Bot h f g q = refl
  plain-same c (Concept.Atomic k) h f g q = refl
  plain-same c (Concept.Nominal i) h f g q = refl
  plain-same c (Concept.SelfRestriction r) h f g q = refl
  plain-same c (Concept.Not b) h f g q = refl
  plain-same c (Concept.And l) h f g q = ap every (map_same f g l (λ o m. q o (each_below c l h o m)))
  plain-same c (Concept.Or l) h f g q = refl
  plain-same c (Concept.Some r b) h f g q = rw (q b h.1)
  plain-same c (Concept.All r b) h f g q = refl
  plain-same c (Concept.Min m r b) h f g q = refl
  plain-same c (Concept.Max m r b) h f g q = refl

  pub plain_at : (c : ℕ) → plain D c ≡ plain_of (concept_at D c) (plain D)
  unfolding plain
  plain_at = numbered-at false (λ c f. plain_of (concept_at D c) f) (λ c f g q. plain-same c (concept_at D c) (fits D W c) f g q)
