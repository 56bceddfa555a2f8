-- The tests 12, 13, 14, 6 and 7 of a record of each part.
use Rattle.std.specs.Prelude.{ℕ, ◌-◌, List, [], ◌∷◌, Bool, true, ◌&&◌, ◌||◌, eqb, ltb, get_or}
use Rattle.deck.specs.declared.refusal.Refusal.TheVariants.{BadOrder, ForwardOperand}
use Rattle.deck.specs.Refusal.{DeckAnswer}
use Rattle.std.specs.Prelude.{Ok}
use Rattle.deck.specs.declared.forms.Kind.TheVariants.{Zero, Flag, Class, RealClass, Role, RoleWord, Concept, Any}
use Rattle.deck.specs.declared.forms.Form.{Form}
use Rattle.deck.specs.declared.forms.Form.TheVariants.{Fields, ListField, FieldList, Unknown}
use Rattle.deck.specs.Answer.{unless, or_else, first_refusal, trailer_answer}
use Rattle.deck.specs.Trailer.{part_count}
use Rattle.deck.specs.Parts.{part_word}
use Rattle.deck.specs.Rows.{row_shape, row_rises, row_has}
use Rattle.deck.specs.Forms.{form_shape}
use Rattle.deck.specs.Faults.{Piece, pieces_of, faults_of, pied}
use Rattle.deck.specs.Faults.Piece.{Items}

-- classes: "1 if unsatisfiable else 0; row start; row count"
abbrev pub class_form : Form
class_form = FieldList Flag Class

abbrev pub class_shape : List ℕ → ℕ → Bool
class_shape s k = form_shape s 0 k 0 0 class_form

-- 6 is given for "order broken, or own number absent from a row": "A satisfiable class is in its own row"
abbrev pub class_order : List ℕ → ℕ → Bool
class_order s k =
    row_rises s (part_word s 0 k 1) (part_word s 0 k 2) && (eqb (part_word s 0 k 0) 1 || row_has s (part_word s 0 k 1) (part_word s 0 k 2) k)

-- roles: "sub-role row start, count; range row start, count"
abbrev pub role_shape : List ℕ → ℕ → Bool
role_shape s k =
    row_shape s (part_word s 1 k 0) (part_word s 1 k 1) (part_count s 1) && row_shape s (part_word s 1 k 2) (part_word s 1 k 3) (part_count s 0)

-- "a role is in its own sub-role row", and both rows rise
abbrev pub role_order : List ℕ → ℕ → Bool
role_order s k =
    row_rises s (part_word s 1 k 0) (part_word s 1 k 1)
    && (row_rises s (part_word s 1 k 2) (part_word s 1 k 3) && row_has s (part_word s 1 k 0) (part_word s 1 k 1) k)

-- injected: "class y, role r, class q, with q under M"
abbrev pub injected_form : Form
injected_form = Fields Class Role RealClass

abbrev pub injected_shape : List ℕ → ℕ → Bool
injected_shape s k = form_shape s 2 k 0 0 injected_form

-- "strictly increasing by (y, r)"
abbrev pub injected_order : List ℕ → ℕ → Bool
injected_order s k =
    eqb k 0
    || (ltb (part_word s 2 (k - 1) 0) (part_word s 2 k 0)
    || (eqb (part_word s 2 (k - 1) 0) (part_word s 2 k 0) && ltb (part_word s 2 (k - 1) 1) (part_word s 2 k 1)))

-- "Concept tags": the fields by tag. "Unused fields are 0"; "Individuals and cardinalities may be any value."
abbrev pub concept_forms : List Form
concept_forms =
    Fields Zero Zero Zero ∷  -- 0 Top
    Fields Zero Zero Zero ∷  -- 1 Bot
    Fields Class Zero Zero ∷  -- 2 Atomic
    Fields Any Zero Zero ∷  -- 3 Nominal
    Fields RoleWord Zero Zero ∷  -- 4 SelfRestriction
    Fields Concept Zero Zero ∷  -- 5 Not
    ListField Concept Zero ∷  -- 6 And
    ListField Concept Zero ∷  -- 7 Or
    Fields RoleWord Concept Zero ∷  -- 8 Some
    Fields RoleWord Concept Zero ∷  -- 9 All
    Fields Any RoleWord Concept ∷  -- 10 Min
    Fields Any RoleWord Concept ∷  -- 11 Max
    []

abbrev pub concept_form : ℕ → Form
concept_form tag = get_or concept_forms tag Unknown

-- concepts: "tag and three fields", where operands are below c
abbrev pub concept_shape : List ℕ → ℕ → ℕ → Bool
concept_shape s c k = form_shape s 3 k 1 c (concept_form (part_word s 3 k 0))

-- "The tag of an axiom is one of 0 to 25": the fields by tag. "Other role fields of axioms are role words."
abbrev pub axiom_forms : List Form
axiom_forms =
    Fields Concept Concept Zero ∷  -- 0 SubClassOf
    ListField Concept Zero ∷  -- 1 EquivalentClasses
    ListField Concept Zero ∷  -- 2 DisjointClasses
    FieldList Class Concept ∷  -- 3 DisjointUnion
    Fields RoleWord RoleWord Zero ∷  -- 4 SubObjectPropertyOf with a role
    ListField RoleWord RoleWord ∷  -- 5 SubObjectPropertyOf with a chain
    ListField RoleWord Zero ∷  -- 6 EquivalentObjectProperties
    ListField RoleWord Zero ∷  -- 7 DisjointObjectProperties
    Fields RoleWord RoleWord Zero ∷  -- 8 InverseObjectProperties
    Fields RoleWord Concept Zero ∷  -- 9 ObjectPropertyDomain
    Fields RoleWord Concept Zero ∷  -- 10 ObjectPropertyRange
    Fields RoleWord Zero Zero ∷  -- 11 TransitiveRole
    Fields RoleWord Zero Zero ∷  -- 12 SymmetricRole
    Fields RoleWord Zero Zero ∷  -- 13 AsymmetricRole
    Fields RoleWord Zero Zero ∷  -- 14 ReflexiveRole
    Fields RoleWord Zero Zero ∷  -- 15 IrreflexiveRole
    Fields RoleWord Zero Zero ∷  -- 16 FunctionalRole
    Fields RoleWord Zero Zero ∷  -- 17 InverseFunctionalRole
    Fields Concept Any Zero ∷  -- 18 ClassAssertion
    Fields RoleWord Any Any ∷  -- 19 ObjectPropertyAssertion
    Fields RoleWord Any Any ∷  -- 20 NegativeObjectPropertyAssertion
    ListField Any Zero ∷  -- 21 SameIndividual
    ListField Any Zero ∷  -- 22 DifferentIndividuals
    Fields Class Zero Zero ∷  -- 23 declaration of a class
    Fields Role Zero Zero ∷  -- 24 declaration of a role
    Fields Any Zero Zero ∷  -- 25 declaration of an individual
    []

abbrev pub axiom_form : ℕ → Form
axiom_form tag = get_or axiom_forms tag Unknown

-- axioms: "tag and three fields"
abbrev pub axiom_shape : List ℕ → ℕ → Bool
axiom_shape s k = form_shape s 4 k 1 (part_count s 3) (axiom_form (part_word s 4 k 0))

-- facts: "class, role, class"
abbrev pub fact_form : Form
fact_form = Fields Class Role Class

abbrev pub fact_shape : List ℕ → ℕ → Bool
fact_shape s k = form_shape s 5 k 0 0 fact_form

-- record k of part p, of the six parts of records: whether all its numbers and lists are in range, and its pieces
abbrev pub record_shape : List ℕ → ℕ → ℕ → Bool
record_shape s p k =
    get_or (class_shape s k ∷ role_shape s k ∷ injected_shape s k ∷ concept_shape s (part_count s 3) k ∷ axiom_shape s k ∷ fact_shape s k ∷ []) p true

abbrev pub record_pieces : List ℕ → ℕ → ℕ → List Piece
record_pieces s p k =
    get_or
    (pieces_of 0 class_form ∷
    (Items 0 Role ∷ Items 2 Class ∷ []) ∷
    pieces_of 0 injected_form ∷
    pieces_of 1 (concept_form (part_word s 3 k 0)) ∷
    pieces_of 1 (axiom_form (part_word s 4 k 0)) ∷
    pieces_of 0 fact_form ∷
    [])
    p []

-- 12, 13 or 14, with its word
unfoldable pub record_fault : List ℕ → ℕ → ℕ → DeckAnswer
record_fault s p k = pied (faults_of s p k (record_pieces s p k))

-- each record is tested for 12, 13, 14, then for 6, then for 7: "operand below C but not below its concept"
unfoldable pub class_answer : List ℕ → ℕ → DeckAnswer
class_answer s k = or_else (record_fault s 0 k) (unless (class_order s k) BadOrder (Ok tt))

unfoldable pub role_answer : List ℕ → ℕ → DeckAnswer
role_answer s k = or_else (record_fault s 1 k) (unless (role_order s k) BadOrder (Ok tt))

unfoldable pub injected_answer : List ℕ → ℕ → DeckAnswer
injected_answer s k = or_else (record_fault s 2 k) (unless (injected_order s k) BadOrder (Ok tt))

unfoldable pub concept_answer : List ℕ → ℕ → DeckAnswer
concept_answer s k = or_else (record_fault s 3 k) (unless (concept_shape s k k) ForwardOperand (Ok tt))

unfoldable pub axiom_answer : List ℕ → ℕ → DeckAnswer
axiom_answer s k = record_fault s 4 k

unfoldable pub fact_answer : List ℕ → ℕ → DeckAnswer
fact_answer s k = record_fault s 5 k

-- the answer for record k of part p, of the six parts of records
abbrev pub record_answers : List ℕ → List (ℕ → DeckAnswer)
record_answers s = class_answer s ∷ role_answer s ∷ injected_answer s ∷ concept_answer s ∷ axiom_answer s ∷ fact_answer s ∷ []

unfoldable pub record_answer : List ℕ → ℕ → ℕ → DeckAnswer
record_answer s p = get_or (record_answers s) p (λ k. (Ok tt))

unfoldable pub part_answer : List ℕ → ℕ → DeckAnswer
part_answer s p = first_refusal (record_answer s p) (part_count s p)

-- "Order: 1 to 4; then records in part order"; "edition (1)"
unfoldable pub deck_answer : List ℕ → DeckAnswer
deck_answer s = or_else (trailer_answer 1 s) (first_refusal (part_answer s) 6)
