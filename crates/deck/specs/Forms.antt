-- What the fields of a record hold.
use Rattle.std.specs.Prelude.{ℕ, ◌+◌, ◌*◌, ◌≡◌, List, [], ◌∷◌, Bool, false, ◌&&◌, ltb, get_or}
use Rattle.deck.specs.declared.forms.Kind.{Kind}
use Rattle.deck.specs.declared.forms.Kind.TheVariants.{Zero, Flag, Class, RealClass, Role, RoleWord, Concept, Any}
use Rattle.deck.specs.declared.forms.Form.{Form}
use Rattle.deck.specs.declared.forms.Form.TheVariants.{Fields, ListField, FieldList, Unknown}
use Rattle.deck.specs.Trailer.{part_count, real_of}
use Rattle.deck.specs.Parts.{part_word}
use Rattle.deck.specs.Rows.{row_shape}

-- N, M and R
pub record Counts : Type 0 where
  pub classes : ℕ
  pub real : ℕ
  pub roles : ℕ

abbrev pub counts_of : List ℕ → Counts
counts_of s = record { classes = part_count s 0; real = real_of s; roles = part_count s 1 }

-- "12 tag or flag, 13 range, 14 filled field": what a word of a kind is below, where concepts are below c
abbrev pub bound_of : Counts → ℕ → Kind → ℕ
bound_of n c Zero = 1
bound_of n c Flag = 2
bound_of n c Class = n.classes
bound_of n c RealClass = n.real
bound_of n c Role = n.roles
bound_of n c RoleWord = 2 * n.roles
bound_of n c Concept = c
bound_of n c Any = 4294967296

abbrev pub fits : Counts → ℕ → Kind → ℕ → Bool
fits n c kind w = ltb w (bound_of n c kind)

-- three words are of three kinds; a word, and the words of a list, are of two kinds
abbrev pub fields_fit : Counts → ℕ → Kind → Kind → Kind → ℕ → ℕ → ℕ → Bool
fields_fit n c a b e x y z = fits n c a x && (fits n c b y && fits n c e z)

abbrev pub field_list_fits : List ℕ → Counts → ℕ → Kind → Kind → ℕ → ℕ → ℕ → Bool
field_list_fits s n c a e x start count = fits n c a x && row_shape s start count (bound_of n c e)

-- three words are of the form, by counts n
abbrev pub words_fit : List ℕ → Counts → ℕ → Form → ℕ → ℕ → ℕ → Bool
words_fit s n c (Fields a b e) x y z = fields_fit n c a b e x y z
words_fit s n c (ListField e a) x y z = field_list_fits s n c a e z x y
words_fit s n c (FieldList a e) x y z = field_list_fits s n c a e x y z
words_fit s n c Unknown x y z = false

-- the three fields from field f of record k of part p are of the form
abbrev pub form_shape : List ℕ → ℕ → ℕ → ℕ → ℕ → Form → Bool
form_shape s p k f c form = words_fit s (counts_of s) c form (part_word s p k f) (part_word s p k (f + 1)) (part_word s p k (f + 2))

-- the bounds of kinds as the code lends them, by the place of a kind; that of concepts goes beside them
abbrev pub place_of : Kind → ℕ
place_of Zero = 0
place_of Flag = 1
place_of Class = 2
place_of RealClass = 3
place_of Role = 4
place_of RoleWord = 5
place_of Concept = 6
place_of Any = 7

abbrev pub bounds_of : Counts → List ℕ
bounds_of n = 1 ∷ 2 ∷ n.classes ∷ n.real ∷ n.roles ∷ 2 * n.roles ∷ 0 ∷ 4294967296 ∷ []

abbrev pub counts_at : List ℕ → Counts
counts_at l = record { classes = get_or l 2 0; real = get_or l 3 0; roles = get_or l 4 0 }

abbrev pub AreBounds : List ℕ → Type 0
AreBounds l = l ≡ bounds_of (counts_at l)
