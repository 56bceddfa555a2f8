-- The rules of closing: document 01, section 3, "takes its rules in axiom order, from two-link chains and transitive roles without inverse words".
use Rattle.std.specs.Prelude.{ℕ, ◌<◌, List, [], ◌∷◌, Option, Some, None}
use Rattle.deck.specs.Deck.{Deck, Role, Axiom, role_count}
use Rattle.model.specs.declared.rules.Rule.{Rule}

-- a then b makes v
abbrev pub compose : ℕ → ℕ → ℕ → Option Rule
compose a b v = Some (record { first = record { 0 = a }; second = record { 0 = b }; third = record { 0 = v } })

-- "without inverse words"
abbrev pub links : Role → Role → Role → Option Rule
links (Role.Named a) (Role.Named b) (Role.Named v) = compose a b v
links (Role.Named a) (Role.Named b) (Role.Inverse v) = None
links (Role.Named a) (Role.Inverse b) v = None
links (Role.Inverse a) b v = None

-- "from two-link chains"
abbrev pub chain_rule : List Role → Role → Option Rule
chain_rule [] v = None
chain_rule (a ∷ []) v = None
chain_rule (a ∷ b ∷ []) v = links a b v
chain_rule (a ∷ b ∷ c ∷ l) v = None

-- "from two-link chains and transitive roles without inverse words"
unfoldable pub rule_of : Axiom → Option Rule
rule_of (Axiom.SubClassOf x y) = None
rule_of (Axiom.EquivalentClasses x) = None
rule_of (Axiom.DisjointClasses x) = None
rule_of (Axiom.DisjointUnion x y) = None
rule_of (Axiom.SubObjectPropertyOf x y) = None
rule_of (Axiom.SubObjectPropertyChain l v) = chain_rule l v
rule_of (Axiom.EquivalentObjectProperties x) = None
rule_of (Axiom.DisjointObjectProperties x) = None
rule_of (Axiom.InverseObjectProperties x y) = None
rule_of (Axiom.ObjectPropertyDomain x y) = None
rule_of (Axiom.ObjectPropertyRange x y) = None
rule_of (Axiom.TransitiveRole r) = links r r r
rule_of (Axiom.SymmetricRole x) = None
rule_of (Axiom.AsymmetricRole x) = None
rule_of (Axiom.ReflexiveRole x) = None
rule_of (Axiom.IrreflexiveRole x) = None
rule_of (Axiom.FunctionalRole x) = None
rule_of (Axiom.InverseFunctionalRole x) = None
rule_of (Axiom.ClassAssertion x y) = None
rule_of (Axiom.ObjectPropertyAssertion x y z) = None
rule_of (Axiom.NegativeObjectPropertyAssertion x y z) = None
rule_of (Axiom.SameIndividual x) = None
rule_of (Axiom.DifferentIndividuals x) = None
rule_of (Axiom.DeclareClass x) = None
rule_of (Axiom.DeclareObjectProperty x) = None
rule_of (Axiom.DeclareNamedIndividual x) = None

-- a rule's roles are below R
pub record RuleFits (D : Deck) (q : Rule) : Type 0 where
  pub first : q.first.0 < role_count D
  pub second : q.second.0 < role_count D
  pub third : q.third.0 < role_count D
