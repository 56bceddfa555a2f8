-- "Pied type in three heaps": the faults of a record, each with the word at which it lies. Document 02, a).
use Rattle.std.specs.Prelude.{ℕ, zero, suc, ◌+◌, Bool, true, false, cond, eqb}
use mathlib.Core.List.{List, [], ◌∷◌, ◌++◌, flat_map}
use Rattle.deck.specs.declared.refusal.Refusal.{Refusal}
use Rattle.deck.specs.declared.refusal.Refusal.TheVariants.{UnknownTag, OutOfRange, FilledField}
use Rattle.deck.specs.Refusal.{DeckAnswer}
use Rattle.std.specs.Prelude.{Ok, Err}
use Rattle.deck.specs.declared.forms.Kind.{Kind}
use Rattle.deck.specs.declared.forms.Kind.TheVariants.{Zero, Flag, Class, RealClass, Role, RoleWord, Concept, Any}
use Rattle.deck.specs.declared.forms.Form.{Form}
use Rattle.deck.specs.declared.forms.Form.TheVariants.{Fields, ListField, FieldList, Unknown}
use Rattle.deck.specs.Refusal.{number_of}
use Rattle.deck.specs.Answer.{or_else}
use Rattle.deck.specs.Trailer.{part_count}
use Rattle.deck.specs.Parts.{part_place, part_word}
use Rattle.deck.specs.Rows.{row_fits, word_below}
use Rattle.deck.specs.Forms.{counts_of, bound_of, fits}

-- a record, piece by piece: a field and its kind; a row or list, by its start field, and the kind of its words; a tag without a form
pub data Piece : Type 0 where
  Field : ℕ → Kind → Piece
  Items : ℕ → Kind → Piece
  NoForm : Piece

-- "Fields are gone through in order": the pieces of a form whose fields begin with field f
abbrev pub pieces_of : ℕ → Form → List Piece
pieces_of f (Fields a b c) = Field f a ∷ Field (f + 1) b ∷ Field (f + 2) c ∷ []
pieces_of f (ListField e a) = Items f e ∷ Field (f + 2) a ∷ []
pieces_of f (FieldList a e) = Field f a ∷ Items (f + 1) e ∷ []
pieces_of f Unknown = NoForm ∷ []

-- "An unknown tag or flag, a number or list out of range, and a filled unused field become separate refusals": by kind, at word w
abbrev pub fault_of : Kind → ℕ → Refusal
fault_of Zero w = FilledField (record { 0 = w })
fault_of Flag w = UnknownTag (record { 0 = w })
fault_of Class w = OutOfRange (record { 0 = w })
fault_of RealClass w = OutOfRange (record { 0 = w })
fault_of Role w = OutOfRange (record { 0 = w })
fault_of RoleWord w = OutOfRange (record { 0 = w })
fault_of Concept w = OutOfRange (record { 0 = w })
fault_of Any w = OutOfRange (record { 0 = w })

-- a fault if the test fails
abbrev pub fault_unless : Bool → Refusal → List Refusal
fault_unless true r = []
fault_unless false r = r ∷ []

-- "Inside a row or operand list that word is the list word": among the first so many words of a list those that are not below n
unfoldable pub word_faults : List ℕ → ℕ → ℕ → ℕ → List Refusal
word_faults s start n zero = []
word_faults s start n (suc i) =
    word_faults s start n i ++ fault_unless (word_below s start n i) (OutOfRange (record { 0 = part_place s 6 (start + i) 0 }))

-- "for a list that leaves the lists part it is the record's start field"; "a list's words with its start"
abbrev pub piece_faults : List ℕ → ℕ → ℕ → Piece → List Refusal
piece_faults s p k (Field f kind) =
    fault_unless (fits (counts_of s) (part_count s 3) kind (part_word s p k f)) (fault_of kind (part_place s p k f))
piece_faults s p k (Items f kind) =
    cond (row_fits s (part_word s p k f) (part_word s p k (f + 1)))
    (word_faults s (part_word s p k f) (bound_of (counts_of s) (part_count s 3) kind) (part_word s p k (f + 1)))
    (OutOfRange (record { 0 = part_place s p k f }) ∷ [])
piece_faults s p k NoForm = UnknownTag (record { 0 = part_place s p k 0 }) ∷ []

-- the faults of record k of part p, in the order of its pieces
abbrev pub faults_of : List ℕ → ℕ → ℕ → List Piece → List Refusal
faults_of s p k = flat_map (piece_faults s p k)

-- the first of some faults that has a number
unfoldable pub first_with : ℕ → List Refusal → DeckAnswer
first_with n [] = Ok tt
first_with n (r ∷ rs) = cond (eqb (number_of r) n) (Err r) (first_with n rs)

-- "Checks: 12 tag or flag, 13 range, 14 filled field, tested in that order wherever 5 was"
abbrev pub pied : List Refusal → DeckAnswer
pied rs = or_else (first_with 12 rs) (or_else (first_with 13 rs) (first_with 14 rs))

-- the first of all: what one walk over the fields finds
abbrev pub first : List Refusal → DeckAnswer
first [] = Ok tt
first (r ∷ rs) = Err r
