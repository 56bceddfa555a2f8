-- Rounds of rules (`expand_from_axioms`): document 01, section 3.
use Rattle.std.specs.Prelude.{ℕ, zero, suc, ◌-◌, cond, ◌||◌, ◌&&◌, List, [], length, get_or, eqb}
use Rattle.deck.specs.Deck.{Deck, Axiom, axiom_count, axiom_at}
use Rattle.eval.specs.Lists.{range}
use Rattle.build.specs.declared.bounds.Bounds.{Bounds}
use Rattle.atoms.specs.Walk.{walk}
use Rattle.atoms.specs.Reasons.{bound_tripped}
use Rattle.build.specs.Model.{Model, trip_in}
use Rattle.atoms.specs.Antecedent.{is_rule, holds_atoms}
use Rattle.build.specs.Exists.{work}

module _ (D : Deck) (floor : List ℕ) (B : Bounds) where
  -- a rule at element e
  unfoldable pub fire : ℕ → ℕ → ℕ → Model → Model
  fire e ante sup m = cond (holds_atoms D (get_or m.labels e []) ante && is_rule D ante) (work D floor B sup e m) m

  -- "members … with unequal concept numbers"
  unfoldable pub fire_pair : ℕ → ℕ → ℕ → Model → Model
  fire_pair e a b m = cond (eqb a b) m (fire e a b m)

  unfoldable pub fire_from : ℕ → List ℕ → ℕ → Model → Model
  fire_from e l a m = walk (fire_pair e a) l m

  -- "SubClassOf, and each ordered pair of members of EquivalentClasses"
  unfoldable pub fire_axiom : ℕ → Axiom → Model → Model
  fire_axiom e (Axiom.SubClassOf sub sup) m = fire e sub sup m
  fire_axiom e (Axiom.EquivalentClasses l) m = walk (fire_from e l) l m
  fire_axiom e (Axiom.DisjointClasses l) m = m
  fire_axiom e (Axiom.DisjointUnion k l) m = m
  fire_axiom e (Axiom.SubObjectPropertyOf p q) m = m
  fire_axiom e (Axiom.SubObjectPropertyChain l q) m = m
  fire_axiom e (Axiom.EquivalentObjectProperties l) m = m
  fire_axiom e (Axiom.DisjointObjectProperties l) m = m
  fire_axiom e (Axiom.InverseObjectProperties p q) m = m
  fire_axiom e (Axiom.ObjectPropertyDomain r c) m = m
  fire_axiom e (Axiom.ObjectPropertyRange r c) m = m
  fire_axiom e (Axiom.TransitiveRole r) m = m
  fire_axiom e (Axiom.SymmetricRole r) m = m
  fire_axiom e (Axiom.AsymmetricRole r) m = m
  fire_axiom e (Axiom.ReflexiveRole r) m = m
  fire_axiom e (Axiom.IrreflexiveRole r) m = m
  fire_axiom e (Axiom.FunctionalRole r) m = m
  fire_axiom e (Axiom.InverseFunctionalRole r) m = m
  fire_axiom e (Axiom.ClassAssertion c i) m = m
  fire_axiom e (Axiom.ObjectPropertyAssertion r i j) m = m
  fire_axiom e (Axiom.NegativeObjectPropertyAssertion r i j) m = m
  fire_axiom e (Axiom.SameIndividual l) m = m
  fire_axiom e (Axiom.DifferentIndividuals l) m = m
  fire_axiom e (Axiom.DeclareClass k) m = m
  fire_axiom e (Axiom.DeclareObjectProperty r) m = m
  fire_axiom e (Axiom.DeclareNamedIndividual i) m = m

  -- "each with all rules", "in axiom order": axiom by axiom, each by its place
  unfoldable pub visit : ℕ → Model → Model
  visit e m = walk (λ i. fire_axiom e (axiom_at D i)) (range 0 (axiom_count D)) m

  -- "Each round visits the elements present when it began"
  unfoldable pub round : Model → Model
  round m = walk visit (range 0 (length m.labels)) m

  -- "After a round that added no element the phase ends; else it trips if the rounds so far have reached their bound": a round, and at most so many more
  unfoldable pub rounds : ℕ → Model → Model
  rounds zero m = let n = round m in cond (n.state.tripped || eqb (length n.labels) (length m.labels)) n (trip_in (bound_tripped 2 B.max_rounds) n)
  rounds (suc more) m = let n = round m in cond (n.state.tripped || eqb (length n.labels) (length m.labels)) n (rounds more n)

  unfoldable pub expand_from_axioms : Model → Model
  expand_from_axioms m = rounds (B.max_rounds - 1) m
