-- What the word of a refusal 12, 13 or 14 says: where it lies, and that what stands there is the fault. Document 02, a).
use Rattle.std.specs.Prelude.{ℕ, ◌+◌, ◌*◌, ◌<◌, ◌≤◌, ◌≡◌, ◌⊎◌, List, [], ◌∷◌, length, get_or}
use Rattle.deck.specs.declared.refusal.Refusal.{Refusal}
use Rattle.deck.specs.declared.refusal.Refusal.TheVariants.{UnknownTag, OutOfRange, FilledField}
use Rattle.deck.specs.declared.forms.Kind.{Kind}
use Rattle.deck.specs.declared.forms.Kind.TheVariants.{Zero, Flag, Class, RealClass, Role, RoleWord, Concept, Any}
use Rattle.deck.specs.Refusal.{word_of}
use Rattle.deck.specs.Word.{word_at, trailer_at}
use Rattle.deck.specs.Trailer.{part_count, real_of}
use Rattle.deck.specs.Parts.{part_place, part_word}
use Rattle.deck.specs.Forms.{counts_of, bound_of}
use Rattle.deck.specs.Faults.{Piece}
use Rattle.deck.specs.Faults.Piece.{Field, Items, NoForm}
use Rattle.deck.specs.Records.{record_pieces}

-- how many tags a part has: "Concept tags" 0 to 11, "The tag of an axiom is one of 0 to 25"
abbrev pub tags_of : ℕ → ℕ
tags_of p = get_or (0 ∷ 0 ∷ 0 ∷ 12 ∷ 26 ∷ []) p 0

-- "for a list that leaves the lists part it is the record's start field"
abbrev pub Leaves : List ℕ → ℕ → ℕ → ℕ → Refusal → Type 0
Leaves s p k f r = (r ≡ OutOfRange (record { 0 = part_place s p k f })) × (part_count s 6 < part_word s p k f + part_word s p k (f + 1))

-- "Inside a row or operand list that word is the list word": one of a list within the lists part that is not of the list's kind
pub record Strays (s : List ℕ) (p k f : ℕ) (kind : Kind) (r : Refusal) : Type 0 where
  pub item : ℕ
  pub known : item < part_word s p k (f + 1)
  pub inside : part_word s p k f + part_word s p k (f + 1) ≤ part_count s 6
  pub is : r ≡ OutOfRange (record { 0 = part_place s 6 (part_word s p k f + item) 0 })
  pub stray : bound_of (counts_of s) (part_count s 3) kind ≤ word_at s (word_of r)

-- a word w that is not of its kind, and the refusal that says so
abbrev pub Amiss : List ℕ → Kind → ℕ → Refusal → Type 0
Amiss s Zero w r = (r ≡ FilledField (record { 0 = w })) × (0 < word_at s w)
Amiss s Flag w r = (r ≡ UnknownTag (record { 0 = w })) × (1 < word_at s w)
Amiss s Class w r = (r ≡ OutOfRange (record { 0 = w })) × (part_count s 0 ≤ word_at s w)
Amiss s RealClass w r = (r ≡ OutOfRange (record { 0 = w })) × (real_of s ≤ word_at s w)
Amiss s Role w r = (r ≡ OutOfRange (record { 0 = w })) × (part_count s 1 ≤ word_at s w)
Amiss s RoleWord w r = (r ≡ OutOfRange (record { 0 = w })) × (2 * part_count s 1 ≤ word_at s w)
Amiss s Concept w r = (r ≡ OutOfRange (record { 0 = w })) × (part_count s 3 ≤ word_at s w)
Amiss s Any w r = (r ≡ OutOfRange (record { 0 = w })) × (4294967296 ≤ word_at s w)

-- what is wrong at the word of r, by the piece that it lies in
abbrev pub AtFault : List ℕ → ℕ → ℕ → Piece → Refusal → Type 0
AtFault s p k (Field f kind) r = Amiss s kind (part_place s p k f) r
AtFault s p k (Items f kind) r = Leaves s p k f r ⊎ Strays s p k f kind r
AtFault s p k NoForm r = (r ≡ UnknownTag (record { 0 = part_place s p k 0 })) × (tags_of p ≤ word_at s (word_of r))

-- the word of r lies in a record, or in a list that the record names, and what stands there is the fault
pub record Named (s : List ℕ) (r : Refusal) : Type 0 where
  pub part : ℕ
  pub place : ℕ
  pub part-known : part < 6
  pub place-known : place < part_count s part
  pub piece : ℕ
  pub piece-known : piece < length (record_pieces s part place)
  pub at-fault : AtFault s part place (get_or (record_pieces s part place) piece NoForm) r
  pub within : word_of r < trailer_at s
