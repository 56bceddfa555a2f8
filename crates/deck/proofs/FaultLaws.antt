-- Faults: one walk over the fields finds what the tests 12, 13 and 14 find (`walk`), and there is none exactly if the shape fits
-- (`no-fault`, `faultless`).
-- Assumes nothing.
use mathlib.Core.Path.{◌≡◌, refl, ap, sym, ◌∙◌}
use mathlib.Core.Logic.{⊎_elim}
use mathlib.Core.Bool.{Bool, true, false, cond, ◌&&◌}
use mathlib.Core.List.{List, [], ◌∷◌, ◌++◌, flat_map}
use Prim.Native.Nat.{ℕ, zero, suc, ◌+◌, ◌<◌, ◌≤◌}
use native.Mathlib.Numerals.{add-one}
use native.Mathlib.Nat.{eq-or-lt_of_le, le_of_suc-le-suc, not-suc-le-zero}
use native.Mathlib.Omega.{arith}
use borrow.Author.Tests.{eq-eqb, ne_eqb, leb-true, lt-ltb, le-ltb}
use lib.Dec.{leb}
use lib.ListN.{length, get_or, get_or-eq_default}
use Rattle.deck.specs.declared.refusal.Refusal.{Refusal}
use Rattle.deck.specs.declared.refusal.Refusal.TheVariants.{OutOfRange}
use Rattle.deck.specs.Refusal.{DeckAnswer}
use Rattle.std.specs.Prelude.{Ok, Err}
use Rattle.deck.specs.declared.forms.Kind.{Kind}
use Rattle.deck.specs.declared.forms.Kind.TheVariants.{Zero, Flag, Class, RealClass, Role, RoleWord, Concept, Any}
use Rattle.deck.specs.declared.forms.Form.{Form}
use Rattle.deck.specs.declared.forms.Form.TheVariants.{Fields, ListField, FieldList, Unknown}
use Rattle.deck.specs.Refusal.{number_of}
use Rattle.deck.specs.Answer.{or_else}
use Rattle.deck.specs.Below.{all_below}
use Rattle.deck.specs.Trailer.{part_count}
use Rattle.deck.specs.Parts.{part_place, part_word, list_word}
use Rattle.deck.specs.Rows.{row_fits, row_shape, word_below}
use Rattle.deck.specs.Forms.{counts_of, bound_of, fits, form_shape}
use Rattle.deck.specs.Faults.{Piece, pieces_of, fault_of, fault_unless, word_faults, piece_faults, faults_of, first_with, pied, first}
use Rattle.deck.specs.Faults.Piece.{Field, Items, NoForm}
use Rattle.deck.specs.Records.{concept_form, concept_forms, axiom_form, axiom_forms, record_shape, record_pieces, record_fault}
use Rattle.deck.proofs.BelowLaws.{and_left, and_right, all-at}
use Rattle.deck.proofs.CaseLaws.{Cases, case_at, lt-or-le}

pub first-append : (xs ys : List Refusal) → first (xs ++ ys) ≡ or_else (first xs) (first ys)
first-append [] ys = refl
first-append (x ∷ xs) ys = refl

-- ---- pieces, one after the other
or-accepted : (a : DeckAnswer) → or_else a (Ok tt) ≡ a
or-accepted (Ok tt) = refl
or-accepted (Err r) = refl

module _ (s : List ℕ) (p k : ℕ) (q : Piece) where
  first_more : (qs : List Piece) → first (faults_of s p k (q ∷ qs)) ≡ or_else (first (piece_faults s p k q)) (first (faults_of s p k qs))
  unfolding mathlib.Core.List.flat_map
  first_more qs = first-append (piece_faults s p k q) (faults_of s p k qs)

  pub first_one : first (faults_of s p k (q ∷ [])) ≡ first (piece_faults s p k q)
  unfolding mathlib.Core.List.flat_map
  first_one = first_more [] ∙ or-accepted (first (piece_faults s p k q))

module _ (s : List ℕ) (p k : ℕ) (q r : Piece) where
  pub first_two : first (faults_of s p k (q ∷ r ∷ [])) ≡ or_else (first (piece_faults s p k q)) (first (piece_faults s p k r))
  first_two = first_more s p k q (r ∷ []) ∙ ap (or_else (first (piece_faults s p k q))) (first_one s p k r)

  pub first_three : (t : Piece) → first (faults_of s p k (q ∷ r ∷ t ∷ [])) ≡ or_else (first (piece_faults s p k q)) (or_else (first (piece_faults s p k r)) (first (piece_faults s p k t)))
  first_three t =
      first_more s p k q (r ∷ t ∷ [])
      ∙ ap (or_else (first (piece_faults s p k q))) (first_more s p k r (t ∷ []) ∙ ap (or_else (first (piece_faults s p k r))) (first_one s p k t))

-- ---- the words of a list, one after the other
module _ (s : List ℕ) (start n : ℕ) where
  pub words-none : first (word_faults s start n 0) ≡ Ok tt
  unfolding word_faults
  words-none = refl

  -- a word below n, after words below n
  pub words_more : (i : ℕ) → first (word_faults s start n i) ≡ Ok tt → list_word s (start + i) < n → first (word_faults s start n (i + 1)) ≡ Ok tt
  unfolding word_faults
  words_more i h l = rw (add-one, lt-ltb (list_word s (start + i)) n l) (first-append (word_faults s start n i) [] ∙ rw h)

  -- the first word that is not below n
  pub words-stop : (i m : ℕ) → i < m → first (word_faults s start n i) ≡ Ok tt → n ≤ list_word s (start + i)
      → first (word_faults s start n m) ≡ Err (OutOfRange (record { 0 = part_place s 6 (start + i) 0 }))
  unfolding word_faults
  words-stop i zero l h g = absurd (not-suc-le-zero l)
  words-stop i (suc m) l h g =
      first-append (word_faults s start n m) _
      ∙ ⊎_elim (λ (e : i ≡ m). rw (← e, h, le-ltb (list_word s (start + i)) n g)) (λ (l' : i < m). rw (words-stop i m l' h g))
      (eq-or-lt_of_le (le_of_suc-le-suc l))

-- ---- numbers that rise from n to 14, and a heap: all numbers are n
abbrev Piled : ℕ → List Refusal → Type 0
Piled n [] = Unit {0}
Piled n (r ∷ rs) = (n ≤ number_of r) × ((number_of r ≤ 14) × Piled (number_of r) rs)

abbrev Heap : ℕ → List Refusal → Type 0
Heap n [] = Unit {0}
Heap n (r ∷ rs) = (number_of r ≡ n) × Heap n rs

piled-none : (m n : ℕ) (rs : List Refusal) → m < n → Piled n rs → first_with m rs ≡ Ok tt
unfolding first_with
piled-none m n [] l h = refl
piled-none m n (r ∷ rs) l h = rw (ne_eqb (number_of r) m (λ e. omega (arith, h.0, e))) (piled-none m (number_of r) rs (omega (arith, h.0)) h.1.1)

-- the tests in order find the first of all
pied-first : (rs : List Refusal) → Piled 12 rs → pied rs ≡ first rs
unfolding first_with
pied-first [] h = refl
pied-first (r ∷ rs) h =
    ⊎_elim (λ (e : 12 ≡ number_of r). rw (eq-eqb (number_of r) 12 (sym e)))
    (λ (l : 12 < number_of r).
    ⊎_elim
    (λ (e : 13 ≡ number_of r). rw (piled-none 12 13 (r ∷ rs) (omega arith) (omega (arith, e), h.1), eq-eqb (number_of r) 13 (sym e)))
    (λ (l' : 13 < number_of r).
    let e : number_of r ≡ 14 = omega (arith, h.1.0) in
    let t : Piled 14 (r ∷ rs) = (l', h.1) in
    rw (piled-none 12 14 (r ∷ rs) (omega arith) t, piled-none 13 14 (r ∷ rs) (omega arith) t, eq-eqb (number_of r) 14 e))
    (eq-or-lt_of_le l))
    (eq-or-lt_of_le h.0)

heap-append : (n : ℕ) (xs ys : List Refusal) → Heap n xs → Heap n ys → Heap n (xs ++ ys)
heap-append n [] ys h k = k
heap-append n (x ∷ xs) ys h k = (h.0, heap-append n xs ys h.1 k)

piled-more : (m n : ℕ) (rs : List Refusal) → m ≤ n → Piled n rs → Piled m rs
piled-more m n [] l h = tt
piled-more m n (r ∷ rs) l h = (omega (arith, h.0), h.1)

piled-heap : (n : ℕ) (xs ys : List Refusal) → n ≤ 14 → Heap n xs → Piled n ys → Piled n (xs ++ ys)
piled-heap n [] ys l h k = k
piled-heap n (x ∷ xs) ys l h k = rw h.0 (omega arith, (l, piled-heap n xs ys l h.1 k))

-- ---- the faults of a piece are of one heap
abbrev heap_of : Piece → ℕ
heap_of (Field f kind) = number_of (fault_of kind 0)
heap_of (Items f kind) = 13
heap_of NoForm = 12

fault-number : (kind : Kind) (w : ℕ) → number_of (fault_of kind w) ≡ number_of (fault_of kind 0)
fault-number Zero w = refl
fault-number Flag w = refl
fault-number Class w = refl
fault-number RealClass w = refl
fault-number Role w = refl
fault-number RoleWord w = refl
fault-number Concept w = refl
fault-number Any w = refl

unless-heap : (n : ℕ) (b : Bool) (r : Refusal) → number_of r ≡ n → Heap n (fault_unless b r)
unless-heap n true r e = tt
unless-heap n false r e = (e, tt)

module _ (s : List ℕ) where
  words-heap : (start n i : ℕ) → Heap 13 (word_faults s start n i)
  unfolding word_faults
  words-heap start n zero = tt
  words-heap start n (suc i) = heap-append 13 (word_faults s start n i) _ (words-heap start n i) (unless-heap 13 (word_below s start n i) _ refl)

  piece-heap : (p k : ℕ) (q : Piece) → Heap (heap_of q) (piece_faults s p k q)
  piece-heap p k (Field f kind) = unless-heap (number_of (fault_of kind 0)) (fits (counts_of s) (part_count s 3) kind (part_word s p k f)) _ (fault-number kind (part_place s p k f))
  piece-heap p k (Items f kind) = go (row_fits s (part_word s p k f) (part_word s p k (f + 1)))
    where
      go : (b : Bool)
          → Heap 13 (cond b (word_faults s (part_word s p k f) (bound_of (counts_of s) (part_count s 3) kind) (part_word s p k (f + 1))) (OutOfRange (record { 0 = part_place s p k f }) ∷ []))
      go true = words-heap (part_word s p k f) (bound_of (counts_of s) (part_count s 3) kind) (part_word s p k (f + 1))
      go false = (refl, tt)
  piece-heap p k NoForm = (refl, tt)

-- ---- pieces whose heaps rise: those of every record
abbrev rises : ℕ → List Piece → Bool
rises n [] = true
rises n (q ∷ qs) = leb n (heap_of q) && (leb (heap_of q) 14 && rises (heap_of q) qs)

piled-pieces : (s : List ℕ) (p k n : ℕ) (qs : List Piece) → rises n qs ≡ true → Piled n (faults_of s p k qs)
unfolding mathlib.Core.List.flat_map
piled-pieces s p k n [] h = tt
piled-pieces s p k n (q ∷ qs) h =
    let rest = and_right (leb n (heap_of q)) _ h in
    piled-more n (heap_of q) (faults_of s p k (q ∷ qs)) (leb-true n (heap_of q) (and_left (leb n (heap_of q)) _ h))
    (piled-heap (heap_of q) (piece_faults s p k q) (faults_of s p k qs) (leb-true (heap_of q) 14 (and_left (leb (heap_of q) 14) _ rest)) (piece-heap s p k q)
    (piled-pieces s p k (heap_of q) qs (and_right (leb (heap_of q) 14) _ rest)))

form-rises : (forms : List Form) → all_below (λ tag. rises 12 (pieces_of 1 (get_or forms tag Unknown))) (length forms) ≡ true
    → (tag : ℕ) → rises 12 (pieces_of 1 (get_or forms tag Unknown)) ≡ true
form-rises forms h tag =
    ⊎_elim (λ (l : tag < length forms). all-at (λ tag. rises 12 (pieces_of 1 (get_or forms tag Unknown))) (length forms) h tag l)
    (λ (g : length forms ≤ tag). let e : get_or forms tag Unknown ≡ Unknown = get_or-eq_default forms Unknown g in rw e)
    (lt-or-le tag (length forms))

module _ (s : List ℕ) (k : ℕ) where
  RisesAt : ℕ → Type 0
  RisesAt p = rises 12 (record_pieces s p k) ≡ true

  record-rises : Cases RisesAt 6
  unfolding RisesAt all_below
  record-rises = ((((((tt, refl), refl), refl), form-rises concept_forms refl (part_word s 3 k 0)), form-rises axiom_forms refl (part_word s 4 k 0)), refl)

  pub walk : (p : ℕ) → p < 6 → record_fault s p k ≡ first (faults_of s p k (record_pieces s p k))
  unfolding record_fault RisesAt
  walk p l = pied-first _ (piled-pieces s p k 12 (record_pieces s p k) (case_at RisesAt 6 p record-rises l))

-- ---- no fault exactly if the shape fits
abbrev passes : DeckAnswer → Bool
passes (Ok tt) = true
passes (Err r) = false

passes-or : (a b : DeckAnswer) → passes (or_else a b) ≡ passes a && passes b
passes-or (Ok tt) b = refl
passes-or (Err r) b = refl

passed : (a : DeckAnswer) → passes a ≡ true → a ≡ Ok tt
passed (Ok tt) h = refl
passed (Err r) h = cc

refused-or : (a b : DeckAnswer) → passes a ≡ false → or_else a b ≡ a
refused-or (Ok tt) b h = cc
refused-or (Err r) b h = refl

and-end : (a : Bool) → a && true ≡ a
and-end true = refl
and-end false = refl

and-turn : (a b : Bool) → a && b ≡ b && a
and-turn true b = sym (and-end b)
and-turn false true = refl
and-turn false false = refl

passes_append : (xs ys : List Refusal) → passes (first (xs ++ ys)) ≡ passes (first xs) && passes (first ys)
passes_append xs ys = rw (first-append xs ys) (passes-or (first xs) (first ys))

passes-unless : (b : Bool) (r : Refusal) → passes (first (fault_unless b r)) ≡ b
passes-unless true r = refl
passes-unless false r = refl

module _ (s : List ℕ) where
  passes-words : (start n i : ℕ) → passes (first (word_faults s start n i)) ≡ all_below (word_below s start n) i
  unfolding word_faults all_below
  passes-words start n zero = refl
  passes-words start n (suc i) =
      passes_append (word_faults s start n i) _
      ∙ rw (passes-words start n i, passes-unless (word_below s start n i) (OutOfRange (record { 0 = part_place s 6 (start + i) 0 })))

  passes-list : (start n count : ℕ) (r : Refusal) (b : Bool) → passes (first (cond b (word_faults s start n count) (r ∷ []))) ≡ b && all_below (word_below s start n) count
  passes-list start n count r true = passes-words start n count
  passes-list start n count r false = refl

  module _ (p k : ℕ) where
    abbrev piece_fits : Piece → Bool
    piece_fits (Field f kind) = fits (counts_of s) (part_count s 3) kind (part_word s p k f)
    piece_fits (Items f kind) = row_shape s (part_word s p k f) (part_word s p k (f + 1)) (bound_of (counts_of s) (part_count s 3) kind)
    piece_fits NoForm = false

    abbrev pieces_fit : List Piece → Bool
    pieces_fit [] = true
    pieces_fit (q ∷ qs) = piece_fits q && pieces_fit qs

    passes-piece : (q : Piece) → passes (first (piece_faults s p k q)) ≡ piece_fits q
    passes-piece (Field f kind) = passes-unless (fits (counts_of s) (part_count s 3) kind (part_word s p k f)) (fault_of kind (part_place s p k f))
    passes-piece (Items f kind) = passes-list (part_word s p k f) (bound_of (counts_of s) (part_count s 3) kind) (part_word s p k (f + 1)) _ (row_fits s (part_word s p k f) (part_word s p k (f + 1)))
    passes-piece NoForm = refl

    passes-pieces : (qs : List Piece) → passes (first (faults_of s p k qs)) ≡ pieces_fit qs
    unfolding mathlib.Core.List.flat_map
    passes-pieces [] = refl
    passes-pieces (q ∷ qs) = passes_append (piece_faults s p k q) (faults_of s p k qs) ∙ rw (passes-piece q, passes-pieces qs)

    form-pieces : (f : ℕ) (form : Form) → pieces_fit (pieces_of f form) ≡ form_shape s p k f (part_count s 3) form
    form-pieces f (Fields a b c) = rw (and-end (fits (counts_of s) (part_count s 3) c (part_word s p k (f + 2))))
    form-pieces f (ListField e a) =
        rw (and-end (fits (counts_of s) (part_count s 3) a (part_word s p k (f + 2))))
        (and-turn (row_shape s (part_word s p k f) (part_word s p k (f + 1)) (bound_of (counts_of s) (part_count s 3) e)) (fits (counts_of s) (part_count s 3) a (part_word s p k (f + 2))))
    form-pieces f (FieldList a e) =
        let n : f + 1 + 1 ≡ f + 2 = omega arith in
        rw (n, and-end (row_shape s (part_word s p k (f + 1)) (part_word s p k (f + 2)) (bound_of (counts_of s) (part_count s 3) e)))
    form-pieces f Unknown = refl

  module _ (k : ℕ) where
    FitsAt : ℕ → Type 0
    FitsAt p = pieces_fit p k (record_pieces s p k) ≡ record_shape s p k

    record-fits : Cases FitsAt 6
    unfolding FitsAt
    record-fits = (
      (
        (
          (
            (
              (
                tt,
                form-pieces 0 k 0 (FieldList Flag Class),
              ),
              rw (and-end (row_shape s (part_word s 1 k 2) (part_word s 1 k 3) (part_count s 0))),
            ),
            form-pieces 2 k 0 (Fields Class Role RealClass),
          ),
          form-pieces 3 k 1 (concept_form (part_word s 3 k 0)),
        ),
        form-pieces 4 k 1 (axiom_form (part_word s 4 k 0)),
      ),
      form-pieces 5 k 0 (Fields Class Role Class),
    )

    module _ (p : ℕ) (l : p < 6) where
      fault-shape : passes (record_fault s p k) ≡ record_shape s p k
      unfolding FitsAt
      fault-shape = rw (walk s k p l) (passes-pieces p k (record_pieces s p k) ∙ case_at FitsAt 6 p record-fits l)

      pub no-fault : record_shape s p k ≡ true → record_fault s p k ≡ Ok tt
      no-fault h = passed (record_fault s p k) (fault-shape ∙ h)

      pub faultless : record_fault s p k ≡ Ok tt → record_shape s p k ≡ true
      faultless h = sym fault-shape ∙ rw h

      -- a record of another shape is refused for its fault, whatever is tested after
      pub faulty : (rest : DeckAnswer) → record_shape s p k ≡ false → record_fault s p k ≡ or_else (record_fault s p k) rest
      faulty rest h = sym (refused-or (record_fault s p k) rest (fault-shape ∙ h))
