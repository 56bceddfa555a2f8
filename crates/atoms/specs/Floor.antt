-- The top floor (`compute_top_floor`): document 01, section 2.
use Rattle.std.specs.Prelude.{ℕ, Bool, true, false, cond}
use mathlib.Core.List.{List, [], ◌∷◌, map, flat_map}
use Rattle.deck.specs.Below.{any_below}
use Rattle.deck.specs.Deck.{Deck, Concept, Axiom, class_at, concept_at}
use Rattle.eval.specs.Lists.{every, any}
use Rattle.eval.specs.Numbered.{numbered}
use Rattle.eval.specs.Lent.{label_width}
use Rattle.atoms.specs.Label.{label_has, label_of, joined}

-- "A concept is universal if it is Top or an And of universal ones, the empty And included", where f says it of smaller concepts
unfoldable pub universal_of : Concept → (ℕ → Bool) → Bool
universal_of Concept.Top f = true
universal_of (Concept.And l) f = every (map f l)
universal_of Concept.Bot f = false
universal_of (Concept.Atomic k) f = false
universal_of (Concept.Nominal i) f = false
universal_of (Concept.SelfRestriction r) f = false
universal_of (Concept.Not b) f = false
universal_of (Concept.Or l) f = false
universal_of (Concept.Some r b) f = false
universal_of (Concept.All r b) f = false
universal_of (Concept.Min m r b) f = false
universal_of (Concept.Max m r b) f = false

unfoldable pub universal : Deck → ℕ → Bool
universal D = numbered false (λ c f. universal_of (concept_at D c) f)

-- "its required atoms are the classes of Atomic reached through Ands, in order", where f has those of smaller concepts
unfoldable pub atoms_of : Concept → (ℕ → List ℕ) → List ℕ
atoms_of (Concept.Atomic k) f = k ∷ []
atoms_of (Concept.And l) f = flat_map f l
atoms_of Concept.Top f = []
atoms_of Concept.Bot f = []
atoms_of (Concept.Nominal i) f = []
atoms_of (Concept.SelfRestriction r) f = []
atoms_of (Concept.Not b) f = []
atoms_of (Concept.Or l) f = []
atoms_of (Concept.Some r b) f = []
atoms_of (Concept.All r b) f = []
atoms_of (Concept.Min m r b) f = []
atoms_of (Concept.Max m r b) f = []

unfoldable pub required_atoms : Deck → ℕ → List ℕ
required_atoms D = numbered [] (λ c f. atoms_of (concept_at D c) f)

-- the row of a class that is satisfiable
unfoldable pub satisfiable_row : Deck → ℕ → List ℕ
satisfiable_row D k = cond (class_at D k).unsatisfiable [] (class_at D k).row

-- "the rows of the satisfiable required atoms"
unfoldable pub atom_rows : Deck → ℕ → List ℕ
atom_rows D c = flat_map (satisfiable_row D) (required_atoms D c)

-- "the members that are not universal"
unfoldable pub member_rows : Deck → ℕ → List ℕ
member_rows D m = cond (universal D m) [] (atom_rows D m)

-- "each SubClassOf superclass over a universal subclass, and … each EquivalentClasses with a universal member"
unfoldable pub floor_of : Deck → Axiom → List ℕ
floor_of D (Axiom.SubClassOf sub sup) = cond (universal D sub) (atom_rows D sup) []
floor_of D (Axiom.EquivalentClasses l) = cond (any (map (universal D) l)) (flat_map (member_rows D) l) []
floor_of D (Axiom.DisjointClasses l) = []
floor_of D (Axiom.DisjointUnion k l) = []
floor_of D (Axiom.SubObjectPropertyOf p q) = []
floor_of D (Axiom.SubObjectPropertyChain l q) = []
floor_of D (Axiom.EquivalentObjectProperties l) = []
floor_of D (Axiom.DisjointObjectProperties l) = []
floor_of D (Axiom.InverseObjectProperties p q) = []
floor_of D (Axiom.ObjectPropertyDomain r c) = []
floor_of D (Axiom.ObjectPropertyRange r c) = []
floor_of D (Axiom.TransitiveRole r) = []
floor_of D (Axiom.SymmetricRole r) = []
floor_of D (Axiom.AsymmetricRole r) = []
floor_of D (Axiom.ReflexiveRole r) = []
floor_of D (Axiom.IrreflexiveRole r) = []
floor_of D (Axiom.FunctionalRole r) = []
floor_of D (Axiom.InverseFunctionalRole r) = []
floor_of D (Axiom.ClassAssertion c i) = []
floor_of D (Axiom.ObjectPropertyAssertion r i j) = []
floor_of D (Axiom.NegativeObjectPropertyAssertion r i j) = []
floor_of D (Axiom.SameIndividual l) = []
floor_of D (Axiom.DifferentIndividuals l) = []
floor_of D (Axiom.DeclareClass k) = []
floor_of D (Axiom.DeclareObjectProperty r) = []
floor_of D (Axiom.DeclareNamedIndividual i) = []

-- "The top floor joins the rows"
unfoldable pub floor_label : Deck → List ℕ
floor_label D = label_of (label_width D) (flat_map (floor_of D) D.axioms)

-- "a class below M"
unfoldable pub has_real : Deck → List ℕ → Bool
has_real D l = any_below (label_has l) D.real

-- "A label without a class below M … takes the floor in before equal labels are looked for."
unfoldable pub floored : Deck → List ℕ → List ℕ → List ℕ
floored D floor l = cond (has_real D l) l (joined l floor)
