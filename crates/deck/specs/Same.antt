-- Two decks that agree on everything that a deck says: counts, records, and the list words that a record refers to (`Same`);
-- or all that but where the lists stand (`Alike`).
use Rattle.std.specs.Prelude.{ℕ, ◌+◌, ◌<◌, ◌≤◌, ◌≡◌, Bool, true, false, ◌||◌, List, [], ◌∷◌, eqb, get_or}
use Rattle.deck.specs.declared.forms.Form.{Form}
use Rattle.deck.specs.declared.forms.Form.TheVariants.{Fields, ListField, FieldList, Unknown}
use Rattle.deck.specs.Trailer.{part_count, width_of, real_of, dropped}
use Rattle.deck.specs.Parts.{part_word, list_word}
use Rattle.deck.specs.Records.{concept_form, axiom_form}
use Rattle.deck.specs.Content.{list_at}

-- whether fields f and f + 1 of a concept or an axiom are a list's start and count
abbrev pub form_names_list : Form → ℕ → Bool
form_names_list (Fields a b c) f = false
form_names_list (ListField e a) f = eqb f 1
form_names_list (FieldList a e) f = eqb f 2
form_names_list Unknown f = false

-- whether fields f and f + 1 of record k of part p are a row's or a list's start and count
abbrev pub names_list : List ℕ → ℕ → ℕ → ℕ → Bool
names_list s p k f =
    get_or
    (eqb f 1 ∷  -- classes
    (eqb f 0 || eqb f 2) ∷  -- roles
    false ∷  -- injected
    form_names_list (concept_form (part_word s 3 k 0)) f ∷
    form_names_list (axiom_form (part_word s 4 k 0)) f ∷
    [])
    p false

-- list word i is referenced: it lies in the row or list of a record
pub record Referenced (s : List ℕ) (i : ℕ) : Type 0 where
  pub part : ℕ
  pub place : ℕ
  pub field : ℕ
  pub part-known : part < 6
  pub place-known : place < part_count s part
  pub names : names_list s part place field ≡ true
  pub from : part_word s part place field ≤ i
  pub to : i < part_word s part place field + part_word s part place (field + 1)

pub record Same (s t : List ℕ) : Type 0 where
  pub real : real_of s ≡ real_of t
  pub dropped : dropped s ≡ dropped t
  pub counts : (p : ℕ) → p < 6 → part_count s p ≡ part_count t p
  pub words : (p k f : ℕ) → p < 6 → k < part_count s p → f < width_of p → part_word s p k f ≡ part_word t p k f
  pub lists : (i : ℕ) → Referenced s i → list_word s i ≡ list_word t i

-- "Starts of rows count within lists.": each word but a list's start agrees, and each list has the same words, wherever it starts
pub record Alike (s t : List ℕ) : Type 0 where
  pub real : real_of s ≡ real_of t
  pub dropped : dropped s ≡ dropped t
  pub counts : (p : ℕ) → p < 6 → part_count s p ≡ part_count t p
  pub words : (p k f : ℕ) → p < 6 → k < part_count s p → f < width_of p → names_list s p k f ≡ false → part_word s p k f ≡ part_word t p k f
  pub lists : (p k f : ℕ) → p < 6 → k < part_count s p → f + 1 < width_of p → names_list s p k f ≡ true
      → list_at s (part_word s p k f) (part_word s p k (f + 1)) ≡ list_at t (part_word t p k f) (part_word t p k (f + 1))
