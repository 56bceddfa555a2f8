-- Judging is right under every choice, and decided at a plain concept.
--     right      True: in the extension under every choice. False: outside it under every choice
--     settled    a plain concept is never unresolved
--     exact      so at a plain concept the judgement is the extension, whatever is chosen
-- Assumes nothing.
use Prim.Native.Nat.{ℕ, ◌<◌}
use mathlib.Core.Bool.{Bool, true, false, cond, not, ◌&&◌}
use mathlib.Core.Path.{◌≡◌, refl}
use mathlib.Core.List.{map}
use borrow.Author.Tests.{not-true}
use Rattle.eval.proofs.Clash.{clash, both_true}
use Rattle.deck.specs.Deck.{Deck, Concept, concept_at}
use Rattle.deck.specs.Sound.{Sound, ConceptFits, counts_in}
use Rattle.eval.specs.declared.judgement.Construct.TheVariants.{InverseSome}
use Rattle.eval.specs.declared.judgement.Judgement.{Judgement}
use Rattle.eval.specs.declared.judgement.Judgement.TheVariants.{False, True, Unresolved}
use Rattle.eval.specs.Standing.{fresh}
use Rattle.eval.specs.Lists.{any}
use Rattle.eval.specs.Structure.{Structure, elements, has_pair, successors_of, inverse}
use Rattle.eval.specs.Judge.{judge, judge_of, some_from, truth, Right, decided}
use Rattle.eval.specs.Truth.{Choice, ext, ext_of, plain, plain_of}
use Rattle.eval.proofs.Falling.{falling}
use Rattle.eval.proofs.ListLaws.{every-at}
use Rattle.eval.proofs.Steps.{fits, each_below, judge-at, ext-at, plain_at}
use Rattle.eval.proofs.Folds.{and-is-right, some-is-right, any-keep, and-decided, some-decided}

truth-right : (b : Bool) → Right (truth b) b
truth-right true = refl
truth-right false = refl

truth-decided : (b : Bool) → decided (truth b) ≡ true
truth-decided true = refl
truth-decided false = refl

module _ (D : Deck) (W : Sound D) (S : Structure) where
  -- ---- right under every choice
  module _ (χ : Choice) where
    right_of : (c : ℕ) (k : Concept) → ConceptFits (counts_in D) c k → ((o : ℕ) → o < c → (e : ℕ) → Right (judge D S o e) (ext D S χ o e)) → (e : ℕ)
        → Right (judge_of D S k (judge D S) e) (ext_of D S χ c k (ext D S χ) e)
    unfolding judge_of ext_of
    right_of c Concept.Top h ih e = refl
    right_of c Concept.Bot h ih e = refl
    right_of c (Concept.Atomic k) h ih e = truth-right (S.member e k)
    right_of c (Concept.Nominal i) h ih e = tt
    right_of c (Concept.SelfRestriction r) h ih e = tt
    right_of c (Concept.Not b) h ih e = tt
    right_of c (Concept.And l) h ih e = and-is-right (λ o. judge D S o e) (λ o. ext D S χ o e) l (λ o m. ih o (each_below c l h o m) e)
    right_of c (Concept.Or l) h ih e = tt
    right_of c (Concept.Some r b) h ih e = go (inverse r)
      where
        go : (n : Bool) → Right (cond n (Unresolved InverseSome) (some_from (judge D S b) fresh (successors_of D S r e))) (cond n (χ.sets c e) (any (map (λ t. has_pair D S r e t && ext D S χ b t) (elements S))))
        go true = tt
        go false = rw (← any-keep (has_pair D S r e) (ext D S χ b) (elements S)) (some-is-right (judge D S b) (ext D S χ b) (successors_of D S r e) (λ t m. ih b h.1 t))
    right_of c (Concept.All r b) h ih e = tt
    right_of c (Concept.Min m r b) h ih e = tt
    right_of c (Concept.Max m r b) h ih e = tt

    pub right : (c e : ℕ) → Right (judge D S c e) (ext D S χ c e)
    right = falling (λ c. (e : ℕ) → Right (judge D S c e) (ext D S χ c e)) (λ c ih e. rw (judge-at D W S c, ext-at D W S χ c) (right_of c (concept_at D c) (fits D W c) ih e))

  -- ---- a plain concept is decided
  settled-of : (c : ℕ) (k : Concept) → ConceptFits (counts_in D) c k → ((o : ℕ) → o < c → plain D o ≡ true → (e : ℕ) → decided (judge D S o e) ≡ true) → plain_of k (plain D) ≡ true → (e : ℕ)
      → decided (judge_of D S k (judge D S) e) ≡ true
  unfolding judge_of plain_of
  settled-of c Concept.Top h ih p e = refl
  settled-of c Concept.Bot h ih p e = refl
  settled-of c (Concept.Atomic k) h ih p e = truth-decided (S.member e k)
  settled-of c (Concept.Nominal i) h ih p e = clash (cc)
  settled-of c (Concept.SelfRestriction r) h ih p e = clash (cc)
  settled-of c (Concept.Not b) h ih p e = clash (cc)
  settled-of c (Concept.And l) h ih p e = and-decided (λ o. judge D S o e) l (λ o m. ih o (each_below c l h o m) (every-at (plain D) l o p m) e)
  settled-of c (Concept.Or l) h ih p e = clash (cc)
  settled-of c (Concept.Some r b) h ih p e =
      let q = both_true (not (inverse r)) (plain D b) p in
      rw (not-true (inverse r) q.0) (some-decided (judge D S b) (successors_of D S r e) (λ t m. ih b h.1 q.1 t))
  settled-of c (Concept.All r b) h ih p e = clash (cc)
  settled-of c (Concept.Min m r b) h ih p e = clash (cc)
  settled-of c (Concept.Max m r b) h ih p e = clash (cc)

  pub settled : (c : ℕ) → plain D c ≡ true → (e : ℕ) → decided (judge D S c e) ≡ true
  settled =
      falling (λ c. plain D c ≡ true → (e : ℕ) → decided (judge D S c e) ≡ true)
      (λ c ih p e. rw (judge-at D W S c) (settled-of c (concept_at D c) (fits D W c) ih (rw (plain_at D W c) at p) e))

  pub exact : (χ : Choice) (c : ℕ) → plain D c ≡ true → (e : ℕ) → judge D S c e ≡ truth (ext D S χ c e)
  exact χ c p e = go (judge D S c e) (settled c p e) (right χ c e)
    where
      go : (j : Judgement) → decided j ≡ true → Right j (ext D S χ c e) → j ≡ truth (ext D S χ c e)
      go False d r = rw r
      go True d r = rw r
      go (Unresolved t) d r = clash (cc)
