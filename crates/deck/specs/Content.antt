-- The content of a deck's bytes.
use Rattle.std.specs.Prelude.{ℕ, zero, suc, ◌+◌, ◌≡◌, List, [], ◌∷◌, map, eqb, get_or}
use Rattle.std.specs.Prelude.{Ok}
use Rattle.deck.specs.declared.forms.Form.{Form}
use Rattle.deck.specs.declared.forms.Form.TheVariants.{Fields, ListField, FieldList, Unknown}
use Rattle.deck.specs.Trailer.{part_count, real_of, dropped}
use Rattle.deck.specs.Parts.{part_word, list_word}
use Rattle.deck.specs.Records.{deck_answer, concept_form, axiom_form}
use Rattle.deck.specs.Deck.{ClassEntry, RoleEntry, InjectedEntry, Fact, role_of, Concept, Axiom, Deck}

-- the reader accepts the deck
abbrev pub IsAccepted : List ℕ → Type 0
IsAccepted s = deck_answer s ≡ Ok tt

-- f 0, f 1, …: n of them
unfoldable pub table : {A : Type 0} → (ℕ → A) → ℕ → List A
table f zero = []
table f (suc n) = f 0 ∷ table (λ k. f (suc k)) n

-- "Starts of rows count within lists.": the words of a list
unfoldable pub list_at : List ℕ → ℕ → ℕ → List ℕ
list_at s start count = table (λ i. list_word s (start + i)) count

-- the words of the list among three fields, if there is one
abbrev pub list_in : List ℕ → Form → ℕ → ℕ → ℕ → List ℕ
list_in s (Fields a b c) x y z = []
list_in s (ListField e a) x y z = list_at s x y
list_in s (FieldList a e) x y z = list_at s y z
list_in s Unknown x y z = []

-- "Concept tags": the concept of three fields x, y, z and of the words l of their list
abbrev pub concept_makers : List (ℕ → ℕ → ℕ → List ℕ → Concept)
concept_makers =
    (λ x y z l. Concept.Top) ∷
    (λ x y z l. Concept.Bot) ∷
    (λ x y z l. Concept.Atomic x) ∷
    (λ x y z l. Concept.Nominal x) ∷
    (λ x y z l. Concept.SelfRestriction (role_of x)) ∷
    (λ x y z l. Concept.Not x) ∷
    (λ x y z l. Concept.And l) ∷
    (λ x y z l. Concept.Or l) ∷
    (λ x y z l. Concept.Some (role_of x) y) ∷
    (λ x y z l. Concept.All (role_of x) y) ∷
    (λ x y z l. Concept.Min x (role_of y) z) ∷
    (λ x y z l. Concept.Max x (role_of y) z) ∷
    []

unfoldable pub make_concept : ℕ → ℕ → ℕ → ℕ → List ℕ → Concept
make_concept tag = get_or concept_makers tag (λ x y z l. Concept.Top)

-- "The tag of an axiom is one of 0 to 25": the axiom of three fields and of the words of their list
abbrev pub axiom_makers : List (ℕ → ℕ → ℕ → List ℕ → Axiom)
axiom_makers =
    (λ x y z l. Axiom.SubClassOf x y) ∷
    (λ x y z l. Axiom.EquivalentClasses l) ∷
    (λ x y z l. Axiom.DisjointClasses l) ∷
    (λ x y z l. Axiom.DisjointUnion x l) ∷
    (λ x y z l. Axiom.SubObjectPropertyOf (role_of x) (role_of y)) ∷
    (λ x y z l. Axiom.SubObjectPropertyChain (map role_of l) (role_of z)) ∷
    (λ x y z l. Axiom.EquivalentObjectProperties (map role_of l)) ∷
    (λ x y z l. Axiom.DisjointObjectProperties (map role_of l)) ∷
    (λ x y z l. Axiom.InverseObjectProperties (role_of x) (role_of y)) ∷
    (λ x y z l. Axiom.ObjectPropertyDomain (role_of x) y) ∷
    (λ x y z l. Axiom.ObjectPropertyRange (role_of x) y) ∷
    (λ x y z l. Axiom.TransitiveRole (role_of x)) ∷
    (λ x y z l. Axiom.SymmetricRole (role_of x)) ∷
    (λ x y z l. Axiom.AsymmetricRole (role_of x)) ∷
    (λ x y z l. Axiom.ReflexiveRole (role_of x)) ∷
    (λ x y z l. Axiom.IrreflexiveRole (role_of x)) ∷
    (λ x y z l. Axiom.FunctionalRole (role_of x)) ∷
    (λ x y z l. Axiom.InverseFunctionalRole (role_of x)) ∷
    (λ x y z l. Axiom.ClassAssertion x y) ∷
    (λ x y z l. Axiom.ObjectPropertyAssertion (role_of x) y z) ∷
    (λ x y z l. Axiom.NegativeObjectPropertyAssertion (role_of x) y z) ∷
    (λ x y z l. Axiom.SameIndividual l) ∷
    (λ x y z l. Axiom.DifferentIndividuals l) ∷
    (λ x y z l. Axiom.DeclareClass x) ∷
    (λ x y z l. Axiom.DeclareObjectProperty x) ∷
    (λ x y z l. Axiom.DeclareNamedIndividual x) ∷
    []

unfoldable pub make_axiom : ℕ → ℕ → ℕ → ℕ → List ℕ → Axiom
make_axiom tag = get_or axiom_makers tag (λ x y z l. Axiom.DeclareClass 0)

-- the concept and the axiom of a tag and three fields
unfoldable pub concept_of : List ℕ → ℕ → ℕ → ℕ → ℕ → Concept
concept_of s tag x y z = make_concept tag x y z (list_in s (concept_form tag) x y z)

unfoldable pub axiom_of : List ℕ → ℕ → ℕ → ℕ → ℕ → Axiom
axiom_of s tag x y z = make_axiom tag x y z (list_in s (axiom_form tag) x y z)

-- record k of each part
unfoldable pub class_in : List ℕ → ℕ → ClassEntry
class_in s k = record { unsatisfiable = eqb (part_word s 0 k 0) 1; row = list_at s (part_word s 0 k 1) (part_word s 0 k 2) }

unfoldable pub role_in : List ℕ → ℕ → RoleEntry
role_in s k = record {
  sub_roles = list_at s (part_word s 1 k 0) (part_word s 1 k 1);
  range = list_at s (part_word s 1 k 2) (part_word s 1 k 3);
}

unfoldable pub injected_in : List ℕ → ℕ → InjectedEntry
injected_in s k = record { class = part_word s 2 k 0; role = part_word s 2 k 1; filler = part_word s 2 k 2 }

unfoldable pub concept_in : List ℕ → ℕ → Concept
concept_in s k = concept_of s (part_word s 3 k 0) (part_word s 3 k 1) (part_word s 3 k 2) (part_word s 3 k 3)

unfoldable pub axiom_in : List ℕ → ℕ → Axiom
axiom_in s k = axiom_of s (part_word s 4 k 0) (part_word s 4 k 1) (part_word s 4 k 2) (part_word s 4 k 3)

unfoldable pub fact_in : List ℕ → ℕ → Fact
fact_in s k = record { from = part_word s 5 k 0; role = part_word s 5 k 1; to = part_word s 5 k 2 }

-- what the bytes s of an accepted deck say
unfoldable pub deck_of : List ℕ → Deck
deck_of s = record {
  real = real_of s;
  dropped = dropped s;
  classes = table (class_in s) (part_count s 0);
  roles = table (role_in s) (part_count s 1);
  injected = table (injected_in s) (part_count s 2);
  concepts = table (concept_in s) (part_count s 3);
  axioms = table (axiom_in s) (part_count s 4);
  facts = table (fact_in s) (part_count s 5);
}
