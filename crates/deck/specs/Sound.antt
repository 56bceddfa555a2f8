-- What holds in every accepted deck: each number that it names is in range, rows rise, a satisfiable class is in its own row,
-- a role in its sub-role row, and operands fall. `sound` of proofs/SoundLaws.antt shows it of `deck_of s`.
use Rattle.std.specs.Prelude.{ℕ, ◌+◌, ◌<◌, ◌≤◌, ◌≡◌, true, false, List, ◌⊎◌, length, get_or}
use Rattle.deck.specs.Forms.{Counts}
use Rattle.deck.specs.Deck.{ClassEntry, RoleEntry, InjectedEntry, Fact, Role, role_id, Concept, Axiom, Deck, has, class_count, role_count, concept_count, axiom_count, fact_count, class_at, role_at, injected_at, concept_at, axiom_at, fact_at}

-- each word of a list
abbrev pub Each : {A : Type 0} → A → (A → Type 0) → List A → Type 0
Each d P l = (i : ℕ) → i < length l → P (get_or l i d)

abbrev pub EachBelow : ℕ → List ℕ → Type 0
EachBelow n = Each 0 (λ x. x < n)

abbrev pub EachRole : ℕ → List Role → Type 0
EachRole n = Each (Role.Named 0) (λ r. role_id r < n)

-- "Rows strictly increase."
abbrev pub Rises : List ℕ → Type 0
Rises l = (i : ℕ) → i + 1 < length l → get_or l i 0 < get_or l (i + 1) 0

-- a class k with its row, below N
pub record ClassFits (n : Counts) (k : ℕ) (c : ClassEntry) : Type 0 where
  pub below : EachBelow n.classes c.row
  pub rises : Rises c.row
  pub own : c.unsatisfiable ≡ false → has c.row k ≡ true

-- a role k with its two rows
pub record RoleFits (n : Counts) (k : ℕ) (r : RoleEntry) : Type 0 where
  pub below : EachBelow n.roles r.sub_roles
  pub rises : Rises r.sub_roles
  pub own : has r.sub_roles k ≡ true
  pub range-below : EachBelow n.classes r.range
  pub range-rises : Rises r.range

-- "class y, role r, class q, with q under M"
pub record InjectedFits (n : Counts) (x : InjectedEntry) : Type 0 where
  pub class : x.class < n.classes
  pub role : x.role < n.roles
  pub filler : x.filler < n.real

-- "strictly increasing by (y, r)"
abbrev pub Before : InjectedEntry → InjectedEntry → Type 0
Before a b = (a.class < b.class) ⊎ ((a.class ≡ b.class) × (a.role < b.role))

-- the numbers of concept k; its operands are below it
abbrev pub ConceptFits : Counts → ℕ → Concept → Type 0
ConceptFits n k Concept.Top = Unit {0}
ConceptFits n k Concept.Bot = Unit {0}
ConceptFits n k (Concept.Atomic c) = c < n.classes
ConceptFits n k (Concept.Nominal i) = Unit {0}
ConceptFits n k (Concept.SelfRestriction r) = role_id r < n.roles
ConceptFits n k (Concept.Not c) = c < k
ConceptFits n k (Concept.And l) = EachBelow k l
ConceptFits n k (Concept.Or l) = EachBelow k l
ConceptFits n k (Concept.Some r c) = (role_id r < n.roles) × (c < k)
ConceptFits n k (Concept.All r c) = (role_id r < n.roles) × (c < k)
ConceptFits n k (Concept.Min m r c) = (role_id r < n.roles) × (c < k)
ConceptFits n k (Concept.Max m r c) = (role_id r < n.roles) × (c < k)

-- the numbers of an axiom, where concepts are below c
abbrev pub AxiomFits : Counts → ℕ → Axiom → Type 0
AxiomFits n c (Axiom.SubClassOf sub sup) = (sub < c) × (sup < c)
AxiomFits n c (Axiom.EquivalentClasses l) = EachBelow c l
AxiomFits n c (Axiom.DisjointClasses l) = EachBelow c l
AxiomFits n c (Axiom.DisjointUnion k l) = (k < n.classes) × EachBelow c l
AxiomFits n c (Axiom.SubObjectPropertyOf sub sup) = (role_id sub < n.roles) × (role_id sup < n.roles)
AxiomFits n c (Axiom.SubObjectPropertyChain l sup) = EachRole n.roles l × (role_id sup < n.roles)
AxiomFits n c (Axiom.EquivalentObjectProperties l) = EachRole n.roles l
AxiomFits n c (Axiom.DisjointObjectProperties l) = EachRole n.roles l
AxiomFits n c (Axiom.InverseObjectProperties p q) = (role_id p < n.roles) × (role_id q < n.roles)
AxiomFits n c (Axiom.ObjectPropertyDomain r d) = (role_id r < n.roles) × (d < c)
AxiomFits n c (Axiom.ObjectPropertyRange r d) = (role_id r < n.roles) × (d < c)
AxiomFits n c (Axiom.TransitiveRole r) = role_id r < n.roles
AxiomFits n c (Axiom.SymmetricRole r) = role_id r < n.roles
AxiomFits n c (Axiom.AsymmetricRole r) = role_id r < n.roles
AxiomFits n c (Axiom.ReflexiveRole r) = role_id r < n.roles
AxiomFits n c (Axiom.IrreflexiveRole r) = role_id r < n.roles
AxiomFits n c (Axiom.FunctionalRole r) = role_id r < n.roles
AxiomFits n c (Axiom.InverseFunctionalRole r) = role_id r < n.roles
AxiomFits n c (Axiom.ClassAssertion d i) = d < c
AxiomFits n c (Axiom.ObjectPropertyAssertion r i j) = role_id r < n.roles
AxiomFits n c (Axiom.NegativeObjectPropertyAssertion r i j) = role_id r < n.roles
AxiomFits n c (Axiom.SameIndividual l) = Unit {0}
AxiomFits n c (Axiom.DifferentIndividuals l) = Unit {0}
AxiomFits n c (Axiom.DeclareClass k) = k < n.classes
AxiomFits n c (Axiom.DeclareObjectProperty r) = r < n.roles
AxiomFits n c (Axiom.DeclareNamedIndividual i) = Unit {0}

-- a fact's class, role, class
pub record FactFits (n : Counts) (f : Fact) : Type 0 where
  pub from : f.from < n.classes
  pub role : f.role < n.roles
  pub to : f.to < n.classes

abbrev pub counts_in : Deck → Counts
counts_in D = record { classes = class_count D; real = D.real; roles = role_count D }

pub record Sound (D : Deck) : Type 0 where
  pub real : D.real ≤ class_count D
  pub classes : (k : ℕ) → k < class_count D → ClassFits (counts_in D) k (class_at D k)
  pub roles : (k : ℕ) → k < role_count D → RoleFits (counts_in D) k (role_at D k)
  pub injected : (k : ℕ) → k < length D.injected → InjectedFits (counts_in D) (injected_at D k)
  pub sorted : (k : ℕ) → k + 1 < length D.injected → Before (injected_at D k) (injected_at D (k + 1))
  pub concepts : (k : ℕ) → k < concept_count D → ConceptFits (counts_in D) k (concept_at D k)
  pub axioms : (k : ℕ) → k < axiom_count D → AxiomFits (counts_in D) (concept_count D) (axiom_at D k)
  pub facts : (k : ℕ) → k < fact_count D → FactFits (counts_in D) (fact_at D k)

-- "limit": the counts are within their limits
pub record Limited (D : Deck) : Type 0 where
  pub classes : class_count D ≤ 4096
  pub roles : role_count D ≤ 1024
  pub injected : length D.injected ≤ 4096
  pub concepts : concept_count D ≤ 16384
  pub axioms : axiom_count D ≤ 16384
  pub facts : fact_count D ≤ 16384
