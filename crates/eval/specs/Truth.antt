-- What a concept and an axiom mean in a structure, under a choice for what is left open: document 01, section 5, and W3C OWL 2 Direct Semantics.
use Rattle.std.specs.Prelude.{ℕ, suc, ◌<◌, Bool, true, false, cond, not, ◌&&◌, ◌≡◌, ◌⊎◌, ◌≢◌, eqb, length, get_or}
use mathlib.Core.List.{List, [], ◌∷◌, map, Sublistᴰ}
use Rattle.deck.specs.Deck.{Deck, Role, Concept, Axiom, concept_at}
use Rattle.eval.specs.Numbered.{numbered}
use Rattle.eval.specs.Lists.{every, any}
use Rattle.eval.specs.Structure.{Structure, elements, has_pair, inverse, any_inverse}

-- "A choice gives each unresolved concept number any set of elements, each individual any element, if there is one."
-- The paper's choices are the proper ones. What is shown of every choice is shown of more: where a number past the elements stands
-- for an individual, no break is at it.
pub record Choice : Type 0 where
  pub sets : ℕ → ℕ → Bool  -- concept, element
  pub individuals : ℕ → ℕ

-- "each individual any element, if there is one"
abbrev pub Proper : Structure → Choice → Type 0
Proper S χ = (i : ℕ) → 0 < S.size → χ.individuals i < S.size

-- ---- concepts
-- "Top is all elements, Bot none, Atomic those with the class, And those in every operand, Some those with a pair into its body"; the others are as chosen
unfoldable pub ext_of : Deck → Structure → Choice → ℕ → Concept → (ℕ → ℕ → Bool) → ℕ → Bool
ext_of D S χ c Concept.Top f e = true
ext_of D S χ c Concept.Bot f e = false
ext_of D S χ c (Concept.Atomic k) f e = S.member e k
ext_of D S χ c (Concept.Nominal i) f e = χ.sets c e
ext_of D S χ c (Concept.SelfRestriction r) f e = χ.sets c e
ext_of D S χ c (Concept.Not b) f e = χ.sets c e
ext_of D S χ c (Concept.And l) f e = every (map (λ o. f o e) l)
ext_of D S χ c (Concept.Or l) f e = χ.sets c e
ext_of D S χ c (Concept.Some r b) f e = cond (inverse r) (χ.sets c e) (any (map (λ t. has_pair D S r e t && f b t) (elements S)))
ext_of D S χ c (Concept.All r b) f e = χ.sets c e
ext_of D S χ c (Concept.Min m r b) f e = χ.sets c e
ext_of D S χ c (Concept.Max m r b) f e = χ.sets c e

-- is element e in the extension of concept c?
unfoldable pub ext : Deck → Structure → Choice → ℕ → ℕ → Bool
ext D S χ = numbered (λ e. false) (λ c f. ext_of D S χ c (concept_at D c) f)

-- "Plain constructs are tags 0, 1, 2, 6 and Some with a named role", throughout
unfoldable pub plain_of : Concept → (ℕ → Bool) → Bool
plain_of Concept.Top f = true
plain_of Concept.Bot f = true
plain_of (Concept.Atomic k) f = true
plain_of (Concept.Nominal i) f = false
plain_of (Concept.SelfRestriction r) f = false
plain_of (Concept.Not b) f = false
plain_of (Concept.And l) f = every (map f l)
plain_of (Concept.Or l) f = false
plain_of (Concept.Some r b) f = not (inverse r) && f b
plain_of (Concept.All r b) f = false
plain_of (Concept.Min m r b) f = false
plain_of (Concept.Max m r b) f = false

unfoldable pub plain : Deck → ℕ → Bool
plain D = numbered false (λ c f. plain_of (concept_at D c) f)

-- ---- breaks
-- one element, two, three of the n elements with a property
pub record AtOne (n : ℕ) (P : ℕ → Type 0) (ws : List ℕ) : Type 0 where
  pub x : ℕ
  pub is : ws ≡ x ∷ []
  pub x-in : x < n
  pub breaks : P x

pub record AtTwo (n : ℕ) (P : ℕ → ℕ → Type 0) (ws : List ℕ) : Type 0 where
  pub x : ℕ
  pub y : ℕ
  pub is : ws ≡ x ∷ y ∷ []
  pub x-in : x < n
  pub y-in : y < n
  pub breaks : P x y

pub record AtThree (n : ℕ) (P : ℕ → ℕ → ℕ → Type 0) (ws : List ℕ) : Type 0 where
  pub x : ℕ
  pub y : ℕ
  pub z : ℕ
  pub is : ws ≡ x ∷ y ∷ z ∷ []
  pub x-in : x < n
  pub y-in : y < n
  pub z-in : z < n
  pub breaks : P x y z

-- "By list position": two different positions of a list, with R of what stands there
pub record Apart {A : Type 0} (d : A) (l : List A) (R : A → A → Type 0) : Type 0 where
  pub i : ℕ
  pub j : ℕ
  pub i-in : i < length l
  pub j-in : j < length l
  pub apart : i ≢ j
  pub related : R (get_or l i d) (get_or l j d)

abbrev pub ApartNumbers : List ℕ → (ℕ → ℕ → Type 0) → Type 0
ApartNumbers l R = Apart 0 l R

abbrev pub ApartRoles : List Role → (Role → Role → Type 0) → Type 0
ApartRoles l R = Apart (Role.Named 0) l R

-- "5 along the chain, its ends no pair of sup": one element more than links, each next to the one before by its link
pub record AtChain (D : Deck) (S : Structure) (links : List Role) (sup : Role) (ws : List ℕ) : Type 0 where
  pub long : length ws ≡ suc (length links)
  pub all_in : (i : ℕ) → i < length ws → get_or ws i 0 < S.size
  pub linked : (i : ℕ) → i < length links → has_pair D S (get_or links i (Role.Named 0)) (get_or ws i 0) (get_or ws (suc i) 0) ≡ true
  pub ends : has_pair D S sup (get_or ws 0 0) (get_or ws (length links) 0) ≡ false

module _ (D : Deck) (S : Structure) (χ : Choice) where
  -- in a concept, outside it; a pair of a role word, no pair of it
  abbrev pub In : ℕ → ℕ → Type 0
  In c e = ext D S χ c e ≡ true

  abbrev pub Out : ℕ → ℕ → Type 0
  Out c e = ext D S χ c e ≡ false

  abbrev pub Linked : Role → ℕ → ℕ → Type 0
  Linked r x y = has_pair D S r x y ≡ true

  abbrev pub Unlinked : Role → ℕ → ℕ → Type 0
  Unlinked r x y = has_pair D S r x y ≡ false

  -- is e in one of the concepts?
  abbrev pub in_one : List ℕ → ℕ → Bool
  in_one l e = any (map (λ c. ext D S χ c e) l)

  -- the elements at which an axiom breaks
  abbrev pub Break : Axiom → List ℕ → Type 0
  -- "tag 0 breaks at an element in sub outside sup"
  Break (Axiom.SubClassOf sub sup) = AtOne S.size (λ e. In sub e × Out sup e)
  -- "1 in one member outside another"
  Break (Axiom.EquivalentClasses l) = AtOne S.size (λ e. ApartNumbers l (λ c d. In c e × Out d e))
  -- "2 in two members"
  Break (Axiom.DisjointClasses l) = AtOne S.size (λ e. ApartNumbers l (λ c d. In c e × In d e))
  -- the standard: the class is the union of the members, which are disjoint
  Break (Axiom.DisjointUnion k l) =
      AtOne S.size
      (λ e. ((S.member e k ≡ true) × (in_one l e ≡ false)) ⊎ (((S.member e k ≡ false) × (in_one l e ≡ true)) ⊎ ApartNumbers l (λ c d. In c e × In d e)))
  -- "4, 6, 7 likewise at pairs"
  Break (Axiom.SubObjectPropertyOf sub sup) = AtTwo S.size (λ x y. Linked sub x y × Unlinked sup x y)
  -- "5 along the chain, its ends no pair of sup"
  Break (Axiom.SubObjectPropertyChain l sup) = AtChain D S l sup
  Break (Axiom.EquivalentObjectProperties l) = AtTwo S.size (λ x y. ApartRoles l (λ p q. Linked p x y × Unlinked q x y))
  Break (Axiom.DisjointObjectProperties l) = AtTwo S.size (λ x y. ApartRoles l (λ p q. Linked p x y × Linked q x y))
  -- "8 at a pair whose turn the other role lacks, 12 its own"
  Break (Axiom.InverseObjectProperties p q) = AtTwo S.size (λ x y. (Linked p x y × Unlinked q y x) ⊎ (Linked q x y × Unlinked p y x))
  -- "9 at a pair whose from, 10 whose to, lacks the concept"
  Break (Axiom.ObjectPropertyDomain r c) = AtTwo S.size (λ x y. Linked r x y × Out c x)
  Break (Axiom.ObjectPropertyRange r c) = AtTwo S.size (λ x y. Linked r x y × Out c y)
  -- "11 at (x, y), (y, z) without (x, z)"
  Break (Axiom.TransitiveRole r) = AtThree S.size (λ x y z. Linked r x y × Linked r y z × Unlinked r x z)
  Break (Axiom.SymmetricRole r) = AtTwo S.size (λ x y. Linked r x y × Unlinked r y x)
  -- "others as in the standard": 13 a pair with its turn, 14 an element that is no pair with itself, 15 one that is,
  -- 16 two targets of one element, 17 two sources of one
  Break (Axiom.AsymmetricRole r) = AtTwo S.size (λ x y. Linked r x y × Linked r y x)
  Break (Axiom.ReflexiveRole r) = AtOne S.size (λ x. Unlinked r x x)
  Break (Axiom.IrreflexiveRole r) = AtOne S.size (λ x. Linked r x x)
  Break (Axiom.FunctionalRole r) = AtThree S.size (λ x y z. Linked r x y × Linked r x z × (y ≢ z))
  Break (Axiom.InverseFunctionalRole r) = AtThree S.size (λ x y z. Linked r x z × Linked r y z × (x ≢ y))
  -- 18 the individual outside the concept, 19 and 20 two individuals that are no pair, a pair, 21 two that differ, 22 two that do not
  Break (Axiom.ClassAssertion c i) = AtOne S.size (λ x. (x ≡ χ.individuals i) × Out c x)
  Break (Axiom.ObjectPropertyAssertion r i j) = AtTwo S.size (λ x y. (x ≡ χ.individuals i) × (y ≡ χ.individuals j) × Unlinked r x y)
  Break (Axiom.NegativeObjectPropertyAssertion r i j) = AtTwo S.size (λ x y. (x ≡ χ.individuals i) × (y ≡ χ.individuals j) × Linked r x y)
  Break (Axiom.SameIndividual l) = AtTwo S.size (λ x y. ApartNumbers l (λ i j. (x ≡ χ.individuals i) × (y ≡ χ.individuals j) × (x ≢ y)))
  Break (Axiom.DifferentIndividuals l) = AtOne S.size (λ x. ApartNumbers l (λ i j. (x ≡ χ.individuals i) × (x ≡ χ.individuals j)))
  -- "declarations never"
  Break (Axiom.DeclareClass k) = λ ws. ⊥
  Break (Axiom.DeclareObjectProperty r) = λ ws. ⊥
  Break (Axiom.DeclareNamedIndividual i) = λ ws. ⊥

  -- "An axiom is true if it has no break, else false"
  abbrev pub True : Axiom → Type 0
  True a = (ws : List ℕ) → Break a ws → ⊥

  -- "and false at witnesses that stand, in order, in one"
  pub record FalseAt (a : Axiom) (ws : List ℕ) : Type 0 where
    pub elements : List ℕ
    pub break : Break a elements
    pub stand : Sublistᴰ ws elements

-- "Plain axioms are tags 0, 1, 2, 4, 5 with two links, 6, 9, 10, 11, with named roles and plain constructs throughout."
abbrev pub plain_axiom : Deck → Axiom → Bool
plain_axiom D (Axiom.SubClassOf sub sup) = plain D sub && plain D sup
plain_axiom D (Axiom.EquivalentClasses l) = every (map (plain D) l)
plain_axiom D (Axiom.DisjointClasses l) = every (map (plain D) l)
plain_axiom D (Axiom.DisjointUnion k l) = false
plain_axiom D (Axiom.SubObjectPropertyOf sub sup) = not (any_inverse (sub ∷ sup ∷ []))
plain_axiom D (Axiom.SubObjectPropertyChain l sup) = eqb (length l) 2 && not (any_inverse (sup ∷ l))
plain_axiom D (Axiom.EquivalentObjectProperties l) = not (any_inverse l)
plain_axiom D (Axiom.DisjointObjectProperties l) = false
plain_axiom D (Axiom.InverseObjectProperties p q) = false
plain_axiom D (Axiom.ObjectPropertyDomain r c) = not (inverse r) && plain D c
plain_axiom D (Axiom.ObjectPropertyRange r c) = not (inverse r) && plain D c
plain_axiom D (Axiom.TransitiveRole r) = not (inverse r)
plain_axiom D (Axiom.SymmetricRole r) = false
plain_axiom D (Axiom.AsymmetricRole r) = false
plain_axiom D (Axiom.ReflexiveRole r) = false
plain_axiom D (Axiom.IrreflexiveRole r) = false
plain_axiom D (Axiom.FunctionalRole r) = false
plain_axiom D (Axiom.InverseFunctionalRole r) = false
plain_axiom D (Axiom.ClassAssertion c i) = false
plain_axiom D (Axiom.ObjectPropertyAssertion r i j) = false
plain_axiom D (Axiom.NegativeObjectPropertyAssertion r i j) = false
plain_axiom D (Axiom.SameIndividual l) = false
plain_axiom D (Axiom.DifferentIndividuals l) = false
plain_axiom D (Axiom.DeclareClass k) = false
plain_axiom D (Axiom.DeclareObjectProperty r) = false
plain_axiom D (Axiom.DeclareNamedIndividual i) = false
