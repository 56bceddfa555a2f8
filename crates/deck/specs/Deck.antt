-- What a deck says, whatever its bytes: document 01, section 1. Every definition of the crates above takes this.
use Rattle.std.specs.Prelude.{ℕ, Bool, true, false, cond, ◌||◌, ◌&&◌, List, [], ◌∷◌, length, get_or, eqb}
use Rattle.deck.specs.declared.numbers.ClassId.{ClassId}
use Rattle.std.specs.Prelude.{Option}
use Rattle.deck.specs.Numbers.{inverse_word, role_number}

-- classes: "1 if unsatisfiable else 0; row start; row count", the row with its words
pub record ClassEntry : Type 0 where
  pub unsatisfiable : Bool
  pub row : List ℕ

-- roles: "sub-role row start, count; range row start, count"
pub record RoleEntry : Type 0 where
  pub sub_roles : List ℕ
  pub range : List ℕ

-- injected: "class y, role r, class q"
pub record InjectedEntry : Type 0 where
  pub class : ℕ
  pub role : ℕ
  pub filler : ℕ

-- facts: "class, role, class"
pub record Fact : Type 0 where
  pub from : ℕ
  pub role : ℕ
  pub to : ℕ

-- a role word, taken apart
pub data Role : Type 0 where
  Named : ℕ → Role
  Inverse : ℕ → Role

-- "A role word is twice the role number, plus 1 if inverse."
abbrev pub role_of : ℕ → Role
role_of w = cond (inverse_word w) (Inverse (role_number w)) (Named (role_number w))

abbrev pub role_id : Role → ℕ
role_id (Named r) = r
role_id (Inverse r) = r

-- "Concept tags", a constructor a tag; the operands of And and Or are the words of their list
pub data Concept : Type 0 where
  Top : Concept
  Bot : Concept
  Atomic : ℕ → Concept
  Nominal : ℕ → Concept
  SelfRestriction : Role → Concept
  Not : ℕ → Concept
  And : List ℕ → Concept
  Or : List ℕ → Concept
  Some : Role → ℕ → Concept
  All : Role → ℕ → Concept
  Min : ℕ → Role → ℕ → Concept
  Max : ℕ → Role → ℕ → Concept

-- "The tag of an axiom is one of 0 to 25", a constructor a tag
pub data Axiom : Type 0 where
  SubClassOf : ℕ → ℕ → Axiom
  EquivalentClasses : List ℕ → Axiom
  DisjointClasses : List ℕ → Axiom
  DisjointUnion : ℕ → List ℕ → Axiom
  SubObjectPropertyOf : Role → Role → Axiom
  SubObjectPropertyChain : List Role → Role → Axiom
  EquivalentObjectProperties : List Role → Axiom
  DisjointObjectProperties : List Role → Axiom
  InverseObjectProperties : Role → Role → Axiom
  ObjectPropertyDomain : Role → ℕ → Axiom
  ObjectPropertyRange : Role → ℕ → Axiom
  TransitiveRole : Role → Axiom
  SymmetricRole : Role → Axiom
  AsymmetricRole : Role → Axiom
  ReflexiveRole : Role → Axiom
  IrreflexiveRole : Role → Axiom
  FunctionalRole : Role → Axiom
  InverseFunctionalRole : Role → Axiom
  ClassAssertion : ℕ → ℕ → Axiom
  ObjectPropertyAssertion : Role → ℕ → ℕ → Axiom
  NegativeObjectPropertyAssertion : Role → ℕ → ℕ → Axiom
  SameIndividual : List ℕ → Axiom
  DifferentIndividuals : List ℕ → Axiom
  DeclareClass : ℕ → Axiom
  DeclareObjectProperty : ℕ → Axiom
  DeclareNamedIndividual : ℕ → Axiom

pub record Deck : Type 0 where
  pub real : ℕ  -- M real classes
  pub dropped : ℕ  -- D dropped axioms
  pub classes : List ClassEntry
  pub roles : List RoleEntry
  pub injected : List InjectedEntry
  pub concepts : List Concept
  pub axioms : List Axiom
  pub facts : List Fact

-- N, R, C, A and the number of facts
abbrev pub class_count : Deck → ℕ
class_count D = length D.classes

abbrev pub role_count : Deck → ℕ
role_count D = length D.roles

abbrev pub concept_count : Deck → ℕ
concept_count D = length D.concepts

abbrev pub axiom_count : Deck → ℕ
axiom_count D = length D.axioms

abbrev pub fact_count : Deck → ℕ
fact_count D = length D.facts

-- record k of each part; what stands for a record past the count is never asked for
abbrev pub class_at : Deck → ℕ → ClassEntry
class_at D k = get_or D.classes k (record { unsatisfiable = true; row = [] })

abbrev pub role_at : Deck → ℕ → RoleEntry
role_at D k = get_or D.roles k (record { sub_roles = []; range = [] })

abbrev pub injected_at : Deck → ℕ → InjectedEntry
injected_at D k = get_or D.injected k (record { class = 0; role = 0; filler = 0 })

abbrev pub concept_at : Deck → ℕ → Concept
concept_at D k = get_or D.concepts k Top

abbrev pub axiom_at : Deck → ℕ → Axiom
axiom_at D k = get_or D.axioms k (DeclareClass 0)

abbrev pub fact_at : Deck → ℕ → Fact
fact_at D k = get_or D.facts k (record { from = 0; role = 0; to = 0 })

-- is x a word of the list?
unfoldable pub has : List ℕ → ℕ → Bool
has [] x = false
has (y ∷ ys) x = eqb y x || has ys x

-- "the injected class for (y, r) is q"
unfoldable pub injected_class : List InjectedEntry → ℕ → ℕ → Option ClassId
injected_class [] y r = Option.None
injected_class (x ∷ xs) y r = cond (eqb x.class y && eqb x.role r) (Option.Some (record { 0 = x.filler })) (injected_class xs y r)
