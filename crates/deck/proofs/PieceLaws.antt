-- The pieces of a record: their fields are the record's, their lists the record's, and a tag without a form is none of the part's tags.
-- Assumes nothing.
use mathlib.Core.Path.{◌≡◌, refl}
use mathlib.Core.Logic.{⊎_elim}
use mathlib.Core.Bool.{Bool, true, false}
use mathlib.Core.List.{List, [], ◌∷◌}
use Prim.Native.Nat.{ℕ, zero, suc, ◌+◌, ◌<◌, ◌≤◌}
use native.Mathlib.Nat.{not-suc-le-zero, le_of_suc-le-suc}
use native.Mathlib.Omega.{arith}
use lib.ListN.{length, get_or}
use Rattle.deck.specs.declared.forms.Kind.TheVariants.{Flag, Class, RealClass, Role}
use Rattle.deck.specs.declared.forms.Form.{Form}
use Rattle.deck.specs.declared.forms.Form.TheVariants.{Fields, ListField, FieldList, Unknown}
use Rattle.deck.specs.Below.{all_below}
use Rattle.deck.specs.Trailer.{width_of}
use Rattle.deck.specs.Parts.{part_word}
use Rattle.deck.specs.Faults.{Piece, pieces_of}
use Rattle.deck.specs.Faults.Piece.{Field, Items, NoForm}
use Rattle.deck.specs.Records.{record_pieces, concept_form, concept_forms, axiom_form, axiom_forms}
use Rattle.deck.specs.Named.{tags_of}
use Rattle.deck.specs.Same.{form_names_list, names_list}
use Rattle.deck.proofs.BelowLaws.{all-at}
use Rattle.deck.proofs.CaseLaws.{Cases, case_at, lt-or-le}

-- a piece of record k of part p: its fields are the record's, and a tag without a form is none of the part's tags
abbrev pub PieceAt : List ℕ → ℕ → ℕ → Piece → Type 0
PieceAt s p k (Field f kind) = f < width_of p
PieceAt s p k (Items f kind) = (f + 1 < width_of p) × (names_list s p k f ≡ true)
PieceAt s p k NoForm = (0 < width_of p) × (tags_of p ≤ part_word s p k 0)

abbrev pub Each : (Piece → Type 0) → List Piece → Type 0
Each P [] = Unit {0}
Each P (q ∷ qs) = P q × Each P qs

pub each_at : (P : Piece → Type 0) (qs : List Piece) → Each P qs → (i : ℕ) → i < length qs → P (get_or qs i NoForm)
each_at P [] h i l = absurd (not-suc-le-zero l)
each_at P (q ∷ qs) h zero l = h.0
each_at P (q ∷ qs) h (suc i) l = each_at P qs h.1 i (le_of_suc-le-suc l)

form-pieces : (s : List ℕ) (p k f : ℕ) → f + 2 < width_of p → (form : Form)
    → (form_names_list form 1 ≡ true → names_list s p k f ≡ true) → (form_names_list form 2 ≡ true → names_list s p k (f + 1) ≡ true)
    → (form ≡ Unknown → tags_of p ≤ part_word s p k 0) → Each (PieceAt s p k) (pieces_of f form)
form-pieces s p k f l (Fields a b c) x y u = (omega arith, (omega arith, (l, tt)))
form-pieces s p k f l (ListField e a) x y u = ((omega arith, x refl), (l, tt))
form-pieces s p k f l (FieldList a e) x y u = (omega arith, ((omega arith, y refl), tt))
form-pieces s p k f l Unknown x y u = ((omega arith, u refl), tt)

is_form : Form → Bool
is_form (Fields a b c) = true
is_form (ListField e a) = true
is_form (FieldList a e) = true
is_form Unknown = false

-- a tag without a form is past a table that is all forms
no-form : (forms : List Form) (tag : ℕ) → all_below (λ i. is_form (get_or forms i Unknown)) (length forms) ≡ true → get_or forms tag Unknown ≡ Unknown → length forms ≤ tag
unfolding is_form
no-form forms tag h e =
    ⊎_elim
    (λ (l : tag < length forms).
    let t : is_form (get_or forms tag Unknown) ≡ true = all-at (λ i. is_form (get_or forms i Unknown)) (length forms) h tag l in
    let z : ◌≡◌ {A = ℕ} 0 1 = cc in
    absurd (omega arith))
    (λ (g : length forms ≤ tag). g) (lt-or-le tag (length forms))

module _ (s : List ℕ) (k : ℕ) where
  PiecesAt : ℕ → Type 0
  PiecesAt p = Each (PieceAt s p k) (record_pieces s p k)

  all-pieces : Cases PiecesAt 6
  unfolding PiecesAt is_form all_below
  all-pieces = (
    (
      (
        (
          (
            (
              tt,
              form-pieces s 0 k 0 (omega arith) (FieldList Flag Class) (λ e. cc) (λ e. refl) (λ e. omega arith),
            ),
            ((omega arith, refl), ((omega arith, refl), tt)),
          ),
          form-pieces s 2 k 0 (omega arith) (Fields Class Role RealClass) (λ e. cc) (λ e. cc) (λ e. omega arith),
        ),
        form-pieces s 3 k 1 (omega arith) (concept_form (part_word s 3 k 0)) (λ e. e) (λ e. e) (no-form concept_forms (part_word s 3 k 0) refl),
      ),
      form-pieces s 4 k 1 (omega arith) (axiom_form (part_word s 4 k 0)) (λ e. e) (λ e. e) (no-form axiom_forms (part_word s 4 k 0) refl),
    ),
    form-pieces s 5 k 0 (omega arith) (Fields Class Role Class) (λ e. cc) (λ e. cc) (λ e. omega arith),
  )

  pub record-pieces : (p : ℕ) → p < 6 → Each (PieceAt s p k) (record_pieces s p k)
  unfolding PiecesAt
  record-pieces p l = case_at PiecesAt 6 p all-pieces l
