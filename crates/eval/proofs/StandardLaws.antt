-- The standard's sets are one choice: `ext` under it satisfies the standard's equation for every construct, so a verdict tells of
-- satisfaction in the standard's sense.
--     standard-ext        the extension of a concept under the standard's choice is the standard's set, from those of its operands
--     in-nominal, in-not, in-or, in_some, in_all     the equations of the constructs left open, as the standard writes them
--     standard-proper     where ι gives elements, the choice is proper
--     holds-satisfied, fails-violated     what Holds and Fails say in the standard's sense
--     all-satisfied       where every axiom Holds, the structure satisfies them all
-- Assumes nothing.
use Prim.Native.Nat.{ℕ, ◌<◌}
use mathlib.Core.Bool.{Bool, true, false, cond, not, ◌||◌}
use mathlib.Core.Path.{◌≡◌, refl, sym, ap, ◌∙◌, fun_ext}
use mathlib.Core.Logic.{◌↔◌}
use mathlib.Core.List.{List, Memᴰ as Member}
use borrow.Author.Tests.{eqb-true, eq-eqb, not-true}
use Rattle.deck.specs.Deck.{Deck, Role, Concept, Axiom, concept_at, axiom_count, axiom_at}
use Rattle.deck.specs.Sound.{Sound, ConceptFits, counts_in}
use Rattle.eval.specs.declared.verdict.Witnesses.{Witnesses}
use Rattle.eval.specs.declared.verdict.Verdict.TheVariants.{Holds, Fails}
use Rattle.eval.specs.Lists.{every, any}
use Rattle.eval.specs.Structure.{Structure, elements, has_pair, inverse}
use Rattle.eval.specs.Verdict.{verdict, witnesses_of}
use Rattle.eval.specs.Truth.{ext, ext_of, FalseAt, Proper}
use Rattle.eval.specs.Standard.{set_of, in_set, standard, reaches, Satisfied, AllSatisfied}
use Rattle.eval.proofs.Clash.{clash, both_true, both_ways}
use Rattle.eval.proofs.LinkLaws.{both}
use Rattle.eval.proofs.EdgeLaws.{element-in, in-elements}
use Rattle.eval.proofs.Falling.{falling, numbered-at}
use Rattle.eval.proofs.ListLaws.{map_same, every-at, every_of, any_at, any_of}
use Rattle.eval.proofs.Steps.{fits, each_below, ext-at}
use Rattle.eval.proofs.Soundness.{holds-true, fails-false}

pub standard-proper : (D : Deck) (S : Structure) (ι : ℕ → ℕ) → ((i : ℕ) → 0 < S.size → ι i < S.size) → Proper S (standard D S ι)
standard-proper D S ι h = h

either_way : (b : Bool) {x y z : Bool} → x ≡ z → y ≡ z → cond b x y ≡ z
either_way true p q = p
either_way false p q = q

module _ (D : Deck) (W : Sound D) (S : Structure) (ι : ℕ → ℕ) where
  -- a construct asks its operands only
  set_same : (c : ℕ) (k : Concept) → ConceptFits (counts_in D) c k → (f g : ℕ → ℕ → Bool) → ((o : ℕ) → o < c → f o ≡ g o) → (x : ℕ) → set_of D S ι k f x ≡ set_of D S ι k g x
  unfolding set_of
  set_same c Concept.Top h f g q x = refl
  set_same c Concept.Bot h f g q x = refl
  set_same c (Concept.Atomic k) h f g q x = refl
  set_same c (Concept.Nominal i) h f g q x = refl
  set_same c (Concept.SelfRestriction r) h f g q x = refl
  set_same c (Concept.Not b) h f g q x = rw (q b h)
  set_same c (Concept.And l) h f g q x = ap every (map_same (λ o. f o x) (λ o. g o x) l (λ o m. ap (λ (p : ℕ → Bool). p x) (q o (each_below c l h o m))))
  set_same c (Concept.Or l) h f g q x = ap any (map_same (λ o. f o x) (λ o. g o x) l (λ o m. ap (λ (p : ℕ → Bool). p x) (q o (each_below c l h o m))))
  set_same c (Concept.Some r b) h f g q x = rw (q b h.1)
  set_same c (Concept.All r b) h f g q x = rw (q b h.1)
  set_same c (Concept.Min m r b) h f g q x = rw (q b h.1)
  set_same c (Concept.Max m r b) h f g q x = rw (q b h.1)

  set_at : (c : ℕ) → in_set D S ι c ≡ set_of D S ι (concept_at D c) (in_set D S ι)
  unfolding in_set
  set_at = numbered-at (λ x. false) (λ c f. set_of D S ι (concept_at D c) f) (λ c f g q. fun_ext (set_same c (concept_at D c) (fits D W c) f g q))

  -- what is not chosen is the standard's set already; what is chosen is chosen so
  step : (c : ℕ) (k : Concept) → ConceptFits (counts_in D) c k → in_set D S ι c ≡ set_of D S ι k (in_set D S ι) → (f : ℕ → ℕ → Bool) → ((o : ℕ) → o < c → f o ≡ in_set D S ι o) → (x : ℕ)
      → ext_of D S (standard D S ι) c k f x ≡ set_of D S ι k (in_set D S ι) x
  unfolding ext_of set_of
  step c Concept.Top h s f q x = refl
  step c Concept.Bot h s f q x = refl
  step c (Concept.Atomic k) h s f q x = refl
  step c (Concept.Nominal i) h s f q x = ap (λ (p : ℕ → Bool). p x) s
  step c (Concept.SelfRestriction r) h s f q x = ap (λ (p : ℕ → Bool). p x) s
  step c (Concept.Not b) h s f q x = ap (λ (p : ℕ → Bool). p x) s
  step c (Concept.And l) h s f q x = ap every (map_same (λ o. f o x) (λ o. in_set D S ι o x) l (λ o m. ap (λ (p : ℕ → Bool). p x) (q o (each_below c l h o m))))
  step c (Concept.Or l) h s f q x = ap (λ (p : ℕ → Bool). p x) s
  step c (Concept.Some r b) h s f q x = either_way (inverse r) (ap (λ (p : ℕ → Bool). p x) s) (rw (q b h.1))
  step c (Concept.All r b) h s f q x = ap (λ (p : ℕ → Bool). p x) s
  step c (Concept.Min m r b) h s f q x = ap (λ (p : ℕ → Bool). p x) s
  step c (Concept.Max m r b) h s f q x = ap (λ (p : ℕ → Bool). p x) s

  ext-set : (c : ℕ) → ext D S (standard D S ι) c ≡ in_set D S ι c
  ext-set =
      falling (λ c. ext D S (standard D S ι) c ≡ in_set D S ι c)
      (λ c ih. ext-at D W S (standard D S ι) c ∙ fun_ext (step c (concept_at D c) (fits D W c) (set_at c) (ext D S (standard D S ι)) ih) ∙ sym (set_at c))

  pub standard-ext : (c : ℕ) → ext D S (standard D S ι) c ≡ set_of D S ι (concept_at D c) (ext D S (standard D S ι))
  standard-ext c =
      ext-set c ∙ set_at c ∙ sym (fun_ext (set_same c (concept_at D c) (fits D W c) (ext D S (standard D S ι)) (in_set D S ι) (λ o l. ext-set o)))

  -- ---- the equations as the standard writes them
  module _ (c : ℕ) where
    abbrev In : ℕ → ℕ → Type 0
    In o x = ext D S (standard D S ι) o x ≡ true

    reads : (k : Concept) → concept_at D c ≡ k → (x : ℕ) → ext D S (standard D S ι) c x ≡ set_of D S ι k (ext D S (standard D S ι)) x
    reads k e x = ap (λ (p : ℕ → Bool). p x) (rw e at (standard-ext c))

    -- { x | x = the individual }
    pub in-nominal : (i : ℕ) → concept_at D c ≡ Concept.Nominal i → (x : ℕ) → In c x ↔ (x ≡ ι i)
    unfolding set_of
    in-nominal i e x = (λ h. eqb-true x (ι i) (sym (reads _ e x) ∙ h), λ h. reads _ e x ∙ eq-eqb x (ι i) h)

    -- { x | x is not in b }
    pub in-not : (b : ℕ) → concept_at D c ≡ Concept.Not b → (x : ℕ) → In c x ↔ (In b x → ⊥)
    unfolding set_of
    in-not b e x = (λ h k. both_ways k (not-true _ (sym (reads _ e x) ∙ h)), λ n. reads _ e x ∙ go (ext D S (standard D S ι) b x) n)
      where
        go : (t : Bool) → (t ≡ true → ⊥) → not t ≡ true
        go true n = absurd (n refl)
        go false n = refl

    -- { x | x is in an operand }
    pub in-or : (l : List ℕ) → concept_at D c ≡ Concept.Or l → (x : ℕ) → In c x ↔ ((o : ℕ) × Member o l × In o x)
    unfolding set_of
    in-or l e x = (λ h. any_of (λ o. ext D S (standard D S ι) o x) l (sym (reads _ e x) ∙ h), λ k. reads _ e x ∙ any_at (λ o. ext D S (standard D S ι) o x) l k.0 k.1 k.2)

    -- { x | there is a y with (x, y) in r and y in b }
    pub in_some : (r : Role) (b : ℕ) → concept_at D c ≡ Concept.Some r b → (x : ℕ) → In c x ↔ ((y : ℕ) × (y < S.size) × (has_pair D S r x y ≡ true) × In b y)
    unfolding set_of
    in_some r b e x =
        let f = reaches D S r (ext D S (standard D S ι) b) x in (
          λ h.
              let k = any_of f (elements S) (sym (reads _ e x) ∙ h) in
              let t = both_true (has_pair D S r x k.0) _ k.2 in
              (k.0, in-elements S k.0 k.1, t.0, t.1),
          λ k. reads _ e x ∙ any_at f (elements S) k.0 (element-in S k.0 k.1) (both k.2 k.3),
        )

    -- { x | for every y, (x, y) in r implies y in b }
    pub in_all : (r : Role) (b : ℕ) → concept_at D c ≡ Concept.All r b → (x : ℕ) → In c x ↔ ((y : ℕ) → y < S.size → has_pair D S r x y ≡ true → In b y)
    unfolding set_of
    in_all r b e x =
        let f : ℕ → Bool = λ y. not (has_pair D S r x y) || ext D S (standard D S ι) b y in (
          λ h y l p. to (has_pair D S r x y) _ p (every-at f (elements S) y (sym (reads _ e x) ∙ h) (element-in S y l)),
          λ h. reads _ e x ∙ every_of f (elements S) (λ y m. fro (has_pair D S r x y) _ (h y (in-elements S y m))),
        )
      where
        to : (p q : Bool) → p ≡ true → (not p || q) ≡ true → q ≡ true
        to true q h k = k
        to false q h k = clash (cc)

        fro : (p q : Bool) → (p ≡ true → q ≡ true) → (not p || q) ≡ true
        fro true q h = h refl
        fro false q h = refl

  pub holds-satisfied : (a : Axiom) → verdict D S a ≡ Holds → Satisfied D S ι a
  holds-satisfied a h = holds-true D W S (standard D S ι) a h

  pub fails-violated : (a : Axiom) (w : Witnesses) → verdict D S a ≡ Fails w → FalseAt D S (standard D S ι) a (witnesses_of w)
  fails-violated a w h = fails-false D W S (standard D S ι) a w h

  pub all-satisfied : ((k : ℕ) → k < axiom_count D → verdict D S (axiom_at D k) ≡ Holds) → AllSatisfied D S ι
  all-satisfied h k l = holds-satisfied (axiom_at D k) (h k l)
