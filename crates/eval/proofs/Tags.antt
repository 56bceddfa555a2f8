-- Where a concept is unresolved, it names one construct, whatever the structure and the element, and it is true nowhere.
--     open_tag       an And's last operand that is not plain, a Some's body, else the construct itself
--     never_true    a concept that is not plain is true nowhere
--     open-tag      where it is unresolved, the construct is `open_tag`
--     some-any      so a Some comes to the same over its successors in any order, with repeats
--     some-part     and a part of them that does not come to False decides for all
use Prim.Native.Nat.{ℕ, ◌<◌}
use mathlib.Core.Bool.{Bool, true, false, cond, not, ◌&&◌}
use mathlib.Core.Path.{◌≡◌, refl, sym, ◌∙◌}
use mathlib.Core.List.Memᴰ.{head as here}
use mathlib.Core.List.Memᴰ.{tail as there}
use mathlib.Core.List.{List, [], ◌∷◌, map, Memᴰ as Member}
use Rattle.eval.proofs.Clash.{clash}
use Rattle.deck.specs.Deck.{Deck, Concept, concept_at}
use Rattle.deck.specs.Sound.{Sound, ConceptFits, counts_in}
use Rattle.eval.specs.declared.judgement.Construct.{Construct}
use Rattle.eval.specs.declared.judgement.Construct.TheVariants as construct
use Rattle.eval.specs.declared.judgement.Judgement.{Judgement}
use Rattle.eval.specs.declared.judgement.Judgement.TheVariants.{False, True, Unresolved}
use Rattle.eval.specs.declared.standing.Standing.{Standing}
use Rattle.std.specs.Prelude.{Option, Some, None}
use Rattle.eval.specs.Standing.{fresh, and_next, unless_noted}
use Rattle.eval.specs.Numbered.{numbered}
use Rattle.eval.specs.Lists.{every}
use Rattle.eval.specs.Structure.{Structure, successors_of, inverse}
use Rattle.eval.specs.Judge.{judge, judge_of, truth, and_from, some_from, decided}
use Rattle.eval.specs.Truth.{plain, plain_of}
use Rattle.eval.proofs.Falling.{falling, numbered-at}
use Rattle.eval.proofs.Steps.{fits, each_below, judge-at, plain_at}
use Rattle.eval.proofs.Folds.{and-ended}
use Rattle.eval.proofs.SomeLaws.{some-case, some_same, some-true, some-open}
use Rattle.eval.proofs.Rightness.{settled}

-- ---- the tag of a concept
unfoldable pub last_open : (ℕ → Bool) → (ℕ → Option Construct) → Option Construct → List ℕ → Option Construct
last_open p f t [] = t
last_open p f t (o ∷ os) = last_open p f (cond (p o) t (f o)) os

unfoldable pub open_tag_of : Deck → Concept → (ℕ → Option Construct) → Option Construct
open_tag_of D Concept.Top f = None
open_tag_of D Concept.Bot f = None
open_tag_of D (Concept.Atomic k) f = None
open_tag_of D (Concept.Nominal i) f = Some construct.Nominal
open_tag_of D (Concept.SelfRestriction r) f = Some construct.SelfRestriction
open_tag_of D (Concept.Not b) f = Some construct.Not
open_tag_of D (Concept.And l) f = last_open (plain D) f None l
open_tag_of D (Concept.Or l) f = Some construct.Or
open_tag_of D (Concept.Some r b) f = cond (inverse r) (Some construct.InverseSome) (f b)
open_tag_of D (Concept.All r b) f = Some construct.All
open_tag_of D (Concept.Min m r b) f = Some construct.Min
open_tag_of D (Concept.Max m r b) f = Some construct.Max

unfoldable pub open_tag : Deck → ℕ → Option Construct
open_tag D = numbered None (λ c f. open_tag_of D (concept_at D c) f)

last-same : (p : ℕ → Bool) (f g : ℕ → Option Construct) (t : Option Construct) (l : List ℕ) → ((o : ℕ) → Member o l → f o ≡ g o) → last_open p f t l ≡ last_open p g t l
unfolding last_open
last-same p f g t [] h = refl
last-same p f g t (o ∷ os) h = rw (h o (here refl)) (last-same p f g (cond (p o) t (g o)) os (λ x m. h x (there m)))

-- ---- a True And has every operand true; an And of unresolved and true operands names the last unresolved one
and-each : (f : ℕ → Judgement) (p : ℕ → Bool) (s : Standing) (l : List ℕ) → and_from f s l ≡ True → ((o : ℕ) → Member o l → p o ≡ false → f o ≡ True → ⊥) → every (map p l) ≡ true
unfolding and_from every
and-each f p s [] e h = refl
and-each f p s (x ∷ xs) e h = go (f x) refl (p x) refl (λ i. and-each f p (and_next s (f x)) xs e (λ o m. h o (there m)))
  where
    go : (j : Judgement) → f x ≡ j → (b : Bool) → p x ≡ b → (Unit {0} → every (map p xs) ≡ true) → (b && every (map p xs)) ≡ true
    go j q true r ih = ih tt
    go False q false r ih = absurd (let y : False ≡ True = sym (and-ended f (and_next s (f x)) xs (rw q refl)) ∙ e in clash (cc))
    go True q false r ih = absurd (h x (here refl) r q)
    go (Unresolved t) q false r ih = absurd (noted (and_next s (f x)) xs (rw q (λ i. clash (cc))) e)
      where
        noted : (s : Standing) (l : List ℕ) → (s.noted ≡ None → ⊥) → and_from f s l ≡ True → ⊥
        noted s [] n e = last s.ended s.noted n e
          where
            last : (b : Bool) (n : Option Construct) → (n ≡ None → ⊥) → cond b False (unless_noted n True) ≡ True → ⊥
            last true n q e = clash (cc)
            last false (Some u) q e = clash (cc)
            last false None q e = q refl
        noted s (y ∷ ys) n e = noted (and_next s (f y)) ys (still (f y)) e
          where
            still : (j : Judgement) → (and_next s j).noted ≡ None → ⊥
            still False = n
            still True = n
            still (Unresolved u) = λ i. clash (cc)

module _ (f : ℕ → Judgement) (p : ℕ → Bool) (g : ℕ → Option Construct) where
  and-tag : (s : Standing) (l : List ℕ) (t : Construct) → and_from f s l ≡ Unresolved t
      → ((o : ℕ) → Member o l → p o ≡ false → f o ≡ True → ⊥)
      → ((o : ℕ) → Member o l → p o ≡ true → decided (f o) ≡ true)
      → ((o : ℕ) (u : Construct) → Member o l → f o ≡ Unresolved u → Some u ≡ g o)
      → Some t ≡ last_open p g s.noted l
  unfolding and_from last_open
  and-tag s [] t e never sure tags = go s.ended s.noted e
    where
      go : (b : Bool) (n : Option Construct) → cond b False (unless_noted n True) ≡ Unresolved t → Some t ≡ n
      go true n e = clash (cc)
      go false (Some u) e = cc
      go false None e = clash (cc)
  and-tag s (x ∷ xs) t e never sure tags =
      rw (← go (f x) refl (p x) refl) (and-tag (and_next s (f x)) xs t e (λ o m. never o (there m)) (λ o m. sure o (there m)) (λ o u m. tags o u (there m)))
    where
      go : (j : Judgement) → f x ≡ j → (b : Bool) → p x ≡ b → (and_next s (f x)).noted ≡ cond b s.noted (g x)
      go False q b r = absurd (let y : False ≡ Unresolved t = sym (and-ended f (and_next s (f x)) xs (rw q refl)) ∙ e in clash (cc))
      go True q true r = rw q
      go True q false r = absurd (never x (here refl) r q)
      go (Unresolved u) q true r = absurd (let y = sure x (here refl) r in let y' : false ≡ true = rw q at y in clash (cc))
      go (Unresolved u) q false r = rw q (tags x u (here refl) q)

module _ (D : Deck) (W : Sound D) where
  tag_same : (c : ℕ) (k : Concept) → ConceptFits (counts_in D) c k → (f g : ℕ → Option Construct) → ((o : ℕ) → o < c → f o ≡ g o) → open_tag_of D k f ≡ open_tag_of D k g
  unfolding open_tag_of
  tag_same c Concept.Top h f g q = refl
  tag_same c Concept.Bot h f g q = refl
  tag_same c (Concept.Atomic k) h f g q = refl
  tag_same c (Concept.Nominal i) h f g q = refl
  tag_same c (Concept.SelfRestriction r) h f g q = refl
  tag_same c (Concept.Not b) h f g q = refl
  tag_same c (Concept.And l) h f g q = last-same (plain D) f g None l (λ o m. q o (each_below c l h o m))
  tag_same c (Concept.Or l) h f g q = refl
  tag_same c (Concept.Some r b) h f g q = rw (q b h.1)
  tag_same c (Concept.All r b) h f g q = refl
  tag_same c (Concept.Min m r b) h f g q = refl
  tag_same c (Concept.Max m r b) h f g q = refl

  tag_at : (c : ℕ) → open_tag D c ≡ open_tag_of D (concept_at D c) (open_tag D)
  unfolding open_tag
  tag_at = numbered-at None (λ c f. open_tag_of D (concept_at D c) f) (λ c f g q. tag_same c (concept_at D c) (fits D W c) f g q)

  module _ (S : Structure) where
    -- ---- true nowhere
    never-of : (c : ℕ) (k : Concept) → ConceptFits (counts_in D) c k → ((o : ℕ) → o < c → plain D o ≡ false → (e : ℕ) → judge D S o e ≡ True → ⊥) → plain_of k (plain D) ≡ false → (e : ℕ) → judge_of D S k (judge D S) e ≡ True → ⊥
    unfolding judge_of plain_of
    never-of c Concept.Top h ih p e q = clash (cc)
    never-of c Concept.Bot h ih p e q = clash (cc)
    never-of c (Concept.Atomic k) h ih p e q = clash (cc)
    never-of c (Concept.Nominal i) h ih p e q = clash (cc)
    never-of c (Concept.SelfRestriction r) h ih p e q = clash (cc)
    never-of c (Concept.Not b) h ih p e q = clash (cc)
    never-of c (Concept.And l) h ih p e q = let y = and-each (λ o. judge D S o e) (plain D) fresh l q (λ o m r. ih o (each_below c l h o m) r e) in clash (cc)
    never-of c (Concept.Or l) h ih p e q = clash (cc)
    never-of c (Concept.Some r b) h ih p e q = go (inverse r) p q
      where
        go : (n : Bool) → (not n && plain D b) ≡ false → cond n (Unresolved construct.InverseSome) (some_from (judge D S b) fresh (successors_of D S r e)) ≡ True → ⊥
        go true p q = clash (cc)
        go false p q = some-case (judge D S b) (λ j. j ≡ True → ⊥) (successors_of D S r e) (λ x m t i. ih b h.1 p x t) (λ x t m u a i. clash (cc)) (λ a i. clash (cc)) q
    never-of c (Concept.All r b) h ih p e q = clash (cc)
    never-of c (Concept.Min m r b) h ih p e q = clash (cc)
    never-of c (Concept.Max m r b) h ih p e q = clash (cc)

    pub never_true : (c : ℕ) → plain D c ≡ false → (e : ℕ) → judge D S c e ≡ True → ⊥
    never_true =
        falling (λ c. plain D c ≡ false → (e : ℕ) → judge D S c e ≡ True → ⊥)
        (λ c ih p e q. never-of c (concept_at D c) (fits D W c) ih (rw (plain_at D W c) at p) e (rw (judge-at D W S c) at q))

    -- an unresolved judgement is one of a concept that is not plain
    pub open-not-plain : (c e : ℕ) (t : Construct) → judge D S c e ≡ Unresolved t → plain D c ≡ false
    open-not-plain c e t q = go (plain D c) refl
      where
        go : (b : Bool) → plain D c ≡ b → plain D c ≡ false
        go true p = absurd (let y : false ≡ true = rw q at (settled D W S c p e) in clash (cc))
        go false p = p

    -- ---- one tag
    tag-step : (c : ℕ) (k : Concept) → ConceptFits (counts_in D) c k → ((o : ℕ) → o < c → (e : ℕ) (t : Construct) → judge D S o e ≡ Unresolved t → Some t ≡ open_tag D o) → (e : ℕ) (t : Construct) → judge_of D S k (judge D S) e ≡ Unresolved t → Some t ≡ open_tag_of D k (open_tag D)
    unfolding judge_of open_tag_of
    tag-step c Concept.Top h ih e t q = clash (cc)
    tag-step c Concept.Bot h ih e t q = clash (cc)
    tag-step c (Concept.Atomic k) h ih e t q = absurd (go (S.member e k) q)
      where
        go : (b : Bool) → truth b ≡ Unresolved t → ⊥
        go true q = clash (cc)
        go false q = clash (cc)
    tag-step c (Concept.Nominal i) h ih e t q = cc
    tag-step c (Concept.SelfRestriction r) h ih e t q = cc
    tag-step c (Concept.Not b) h ih e t q = cc
    tag-step c (Concept.And l) h ih e t q =
        and-tag (λ o. judge D S o e) (plain D) (open_tag D) fresh l t q (λ o m p. never_true o p e) (λ o m p. settled D W S o p e) (λ o u m. ih o (each_below c l h o m) e u)
    tag-step c (Concept.Or l) h ih e t q = cc
    tag-step c (Concept.Some r b) h ih e t q = go (inverse r) q
      where
        go : (n : Bool) → cond n (Unresolved construct.InverseSome) (some_from (judge D S b) fresh (successors_of D S r e)) ≡ Unresolved t → Some t ≡ cond n (Some construct.InverseSome) (open_tag D b)
        go true q = cc
        go false q = some-case (judge D S b) (λ j. j ≡ Unresolved t → Some t ≡ open_tag D b) (successors_of D S r e) (λ x m u i. clash (cc)) (λ x u m v a i. ih b h.1 x t (v ∙ i)) (λ a i. clash (cc)) q
    tag-step c (Concept.All r b) h ih e t q = cc
    tag-step c (Concept.Min m r b) h ih e t q = cc
    tag-step c (Concept.Max m r b) h ih e t q = cc

    pub open-tag : (c e : ℕ) (t : Construct) → judge D S c e ≡ Unresolved t → Some t ≡ open_tag D c
    open-tag =
        falling (λ c. (e : ℕ) (t : Construct) → judge D S c e ≡ Unresolved t → Some t ≡ open_tag D c)
        (λ c ih e t q. rw (tag_at c) (tag-step c (concept_at D c) (fits D W c) ih e t (rw (judge-at D W S c) at q)))

    -- ---- any order
    pub some-any : (b : ℕ) (xs ys : List ℕ) → ((x : ℕ) → Member x xs → Member x ys) → ((y : ℕ) → Member y ys → Member y xs) → some_from (judge D S b) fresh xs ≡ some_from (judge D S b) fresh ys
    some-any b = some_same (judge D S b) (open_tag D b) (open-tag b)

    pub some-part : (b : ℕ) (xs ys : List ℕ) → ((x : ℕ) → Member x xs → Member x ys) → (some_from (judge D S b) fresh xs ≡ False → ⊥) → some_from (judge D S b) fresh xs ≡ some_from (judge D S b) fresh ys
    some-part b xs ys to =
        some-case (judge D S b) (λ j. (j ≡ False → ⊥) → j ≡ some_from (judge D S b) fresh ys) xs (λ x m e i. sym (some-true (judge D S b) ys x (to x m) e))
        (λ x t m e a i. sym (some-open (judge D S b) (open_tag D b) (open-tag b) ys x t (to x m) e (λ y n. never_true b (open-not-plain b x t e) y))) (λ a i. absurd (i refl))
