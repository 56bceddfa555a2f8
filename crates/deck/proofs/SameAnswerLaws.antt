-- "unreferenced list words are free": two decks that pass the tests 1 to 4, with as many list words, are answered alike
-- if they agree on counts, records and referenced list words: `same_answer`.
-- Assumes nothing.
use mathlib.Core.Path.{◌≡◌, refl, ap, ◌∙◌}
use mathlib.Core.Bool.{true}
use mathlib.Core.List.{List, [], ◌∷◌, flat_map}
use Prim.Native.Nat.{ℕ, zero, suc, ◌+◌, ◌-◌, ◌<◌, ◌≤◌}
use native.Mathlib.Omega.{arith}
use Rattle.std.specs.Prelude.{Ok}
use Rattle.deck.specs.declared.forms.Form.{Form}
use Rattle.deck.specs.declared.forms.Form.TheVariants.{Fields, ListField, FieldList, Unknown}
use Rattle.deck.specs.Answer.{first_refusal, trailer_answer}
use Rattle.deck.specs.Trailer.{part_count, width_of, words_before}
use Rattle.deck.specs.Parts.{part_place, part_word, list_word}
use Rattle.deck.specs.Rows.{row_shape, row_rises, row_has, word_below, word_rises, word_is}
use Rattle.deck.specs.Forms.{counts_of, bound_of, words_fit}
use Rattle.deck.specs.Faults.{Piece, word_faults, piece_faults, faults_of, pied}
use Rattle.deck.specs.Faults.Piece.{Field, Items, NoForm}
use Rattle.deck.specs.Records.{deck_answer, part_answer, record_answer, record_fault, record_pieces, class_answer, role_answer, injected_answer, concept_form, concept_answer, axiom_answer, fact_answer}
use Rattle.deck.specs.Same.{form_names_list, names_list, Same}
use Rattle.deck.proofs.AnswerLaws.{first-same}
use Rattle.deck.proofs.BelowLaws.{all_same, any_same}
use Rattle.deck.proofs.CaseLaws.{Cases, case_at}
use Rattle.deck.proofs.TrailerLaws.{framed_of, starts-at}
use Rattle.deck.proofs.PieceLaws.{PieceAt, Each, record-pieces}

module _ (s t : List ℕ) (S : Same s t) (L : part_count s 6 ≡ part_count t 6) (A : trailer_answer 1 s ≡ Ok tt) (B : trailer_answer 1 t ≡ Ok tt) where
  -- the row or list at fields f and f + 1 of a record
  module _ (p k f : ℕ) (lp : p < 6) (lk : k < part_count s p) (e : names_list s p k f ≡ true) where
    word_same : (i : ℕ) → part_word s p k f ≤ i → i < part_word s p k f + part_word s p k (f + 1) → list_word s i ≡ list_word t i
    word_same i a b = S.lists i (record { part = p; place = k; field = f; part-known = lp; place-known = lk; names = e; from = a; to = b })

    shape_same : (n : ℕ) → row_shape s (part_word s p k f) (part_word s p k (f + 1)) n ≡ row_shape t (part_word s p k f) (part_word s p k (f + 1)) n
    shape_same n =
        rw (
          L,
          all_same (word_below s (part_word s p k f) n) (word_below t (part_word s p k f) n) (part_word s p k (f + 1)) (λ i h. rw (word_same (part_word s p k f + i) (omega arith) (omega arith))),
        )

    rises-same : row_rises s (part_word s p k f) (part_word s p k (f + 1)) ≡ row_rises t (part_word s p k f) (part_word s p k (f + 1))
    rises-same =
        all_same (word_rises s (part_word s p k f)) (word_rises t (part_word s p k f)) (part_word s p k (f + 1) - 1)
        (λ i h. rw (word_same (part_word s p k f + i) (omega arith) (omega arith), word_same (part_word s p k f + i + 1) (omega arith) (omega arith)))

    has_same : (x : ℕ) → row_has s (part_word s p k f) (part_word s p k (f + 1)) x ≡ row_has t (part_word s p k f) (part_word s p k (f + 1)) x
    has_same x =
        any_same (word_is s (part_word s p k f) x) (word_is t (part_word s p k f) x) (part_word s p k (f + 1))
        (λ i h. rw (word_same (part_word s p k f + i) (omega arith) (omega arith)))

  counts_same : counts_of s ≡ counts_of t
  counts_same = rw (S.counts 0 (omega arith), S.counts 1 (omega arith), S.real)

  words_same : (c : ℕ) (form : Form) (x y z : ℕ) → (form_names_list form 1 ≡ true → (n : ℕ) → row_shape s x y n ≡ row_shape t x y n)
      → (form_names_list form 2 ≡ true → (n : ℕ) → row_shape s y z n ≡ row_shape t y z n) → words_fit s (counts_of s) c form x y z ≡ words_fit t (counts_of t) c form x y z
  words_same c (Fields a b e) x y z f g = rw counts_same
  words_same c (ListField e a) x y z f g = rw (counts_same, f refl (bound_of (counts_of t) c e))
  words_same c (FieldList a e) x y z f g = rw (counts_same, g refl (bound_of (counts_of t) c e))
  words_same c Unknown x y z f g = refl

  before_same : (p : ℕ) → p < 7 → words_before s p ≡ words_before t p
  unfolding words_before
  before_same zero l = refl
  before_same (suc p) l = rw (before_same p (omega arith), S.counts p (omega arith))

  -- the counts say where a word stands, in a deck that passes 4
  place_same : (p k f : ℕ) → p < 7 → part_place s p k f ≡ part_place t p k f
  unfolding part_place
  place_same p k f l = rw (starts-at s (framed_of 1 s A) p l, starts-at t (framed_of 1 t B) p l, before_same p l)

  word-faults-same : (start n count : ℕ) → ((i : ℕ) → i < count → list_word s (start + i) ≡ list_word t (start + i)) → word_faults s start n count ≡ word_faults t start n count
  unfolding word_faults
  word-faults-same start n zero h = refl
  word-faults-same start n (suc c) h =
      rw (word-faults-same start n c (λ i l. h i (omega arith)), h c (omega arith), place_same 6 (start + c) 0 (omega arith))

  module _ (p k : ℕ) (lp : p < 6) (lk : k < part_count s p) where
    field-same : (f : ℕ) → f < width_of p → part_word s p k f ≡ part_word t p k f
    field-same f l = S.words p k f lp lk l

    piece-same : (q : Piece) → PieceAt s p k q → piece_faults s p k q ≡ piece_faults t p k q
    piece-same (Field f kind) l = rw (counts_same, S.counts 3 (omega arith), field-same f l, place_same p k f (omega arith))
    piece-same (Items f kind) l =
        rw (
          ← field-same f (omega (arith, l.0)),
          ← field-same (f + 1) l.0,
          L,
          counts_same,
          S.counts 3 (omega arith),
          place_same p k f (omega arith),
          word-faults-same (part_word s p k f) (bound_of (counts_of t) (part_count t 3) kind) (part_word s p k (f + 1))
              (λ i h. word_same p k f lp lk l.1 (part_word s p k f + i) (omega arith) (omega arith)),
        )
    piece-same NoForm l = rw (place_same p k 0 (omega arith))

    faults-same : (qs : List Piece) → Each (PieceAt s p k) qs → faults_of s p k qs ≡ faults_of t p k qs
    unfolding flat_map
    faults-same [] h = refl
    faults-same (q ∷ qs) h = rw (piece-same q h.0, faults-same qs h.1)

  -- a record has the same pieces: they hang on its tag alone
  PiecesAt : ℕ → Type 0
  PiecesAt p = (k : ℕ) → k < part_count s p → record_pieces s p k ≡ record_pieces t p k

  all-pieces : Cases PiecesAt 6
  unfolding PiecesAt
  all-pieces =
      ((((((tt, λ k l. refl), λ k l. refl), λ k l. refl), λ k l. rw (field-same 3 k (omega arith) l 0 (omega arith))), λ k l. rw (field-same 4 k (omega arith) l 0 (omega arith))), λ k l. refl)

  fault-same : (p k : ℕ) → p < 6 → k < part_count s p → record_fault s p k ≡ record_fault t p k
  unfolding record_fault PiecesAt
  fault-same p k lp lk =
      ap pied (faults-same p k lp lk (record_pieces s p k) (record-pieces s k p lp) ∙ ap (faults_of t p k) (case_at PiecesAt 6 p all-pieces lp k lk))

  class_same : (k : ℕ) → k < part_count s 0 → class_answer s k ≡ class_answer t k
  unfolding class_answer
  class_same k l =
      let w = field-same 0 k (omega arith) l in
      rw (
        fault-same 0 k (omega arith) l,
        ← w 0 (omega arith),
        ← w 1 (omega arith),
        ← w 2 (omega arith),
        rises-same 0 k 1 (omega arith) l refl,
        has_same 0 k 1 (omega arith) l refl k,
      )

  role_same : (k : ℕ) → k < part_count s 1 → role_answer s k ≡ role_answer t k
  unfolding role_answer
  role_same k l =
      let w = field-same 1 k (omega arith) l in
      rw (
        fault-same 1 k (omega arith) l,
        ← w 0 (omega arith),
        ← w 1 (omega arith),
        ← w 2 (omega arith),
        ← w 3 (omega arith),
        rises-same 1 k 0 (omega arith) l refl,
        rises-same 1 k 2 (omega arith) l refl,
        has_same 1 k 0 (omega arith) l refl k,
      )

  injected-same : (k : ℕ) → k < part_count s 2 → injected_answer s k ≡ injected_answer t k
  unfolding injected_answer
  injected-same k l =
      let w : (j f : ℕ) → j < part_count s 2 → f < 3 → part_word s 2 j f ≡ part_word t 2 j f = λ j f m h. field-same 2 j (omega arith) m f h in
      rw (
        fault-same 2 k (omega arith) l,
        ← w k 0 l (omega arith),
        ← w k 1 l (omega arith),
        ← w (k - 1) 0 (omega arith) (omega arith),
        ← w (k - 1) 1 (omega arith) (omega arith),
      )

  concept-same : (k : ℕ) → k < part_count s 3 → concept_answer s k ≡ concept_answer t k
  unfolding concept_answer
  concept-same k l =
      let w = field-same 3 k (omega arith) l in
      rw (
        fault-same 3 k (omega arith) l,
        ← w 0 (omega arith),
        ← w 1 (omega arith),
        ← w 2 (omega arith),
        ← w 3 (omega arith),
        words_same k (concept_form (part_word s 3 k 0)) (part_word s 3 k 1) (part_word s 3 k 2) (part_word s 3 k 3) (shape_same 3 k 1 (omega arith) l) (shape_same 3 k 2 (omega arith) l),
      )

  axiom-same : (k : ℕ) → k < part_count s 4 → axiom_answer s k ≡ axiom_answer t k
  unfolding axiom_answer
  axiom-same k l = fault-same 4 k (omega arith) l

  fact-same : (k : ℕ) → k < part_count s 5 → fact_answer s k ≡ fact_answer t k
  unfolding fact_answer
  fact-same k l = fault-same 5 k (omega arith) l

  PartAt : ℕ → Type 0
  PartAt p = (k : ℕ) → k < part_count s p → record_answer s p k ≡ record_answer t p k

  parts_same : Cases PartAt 6
  unfolding PartAt record_answer
  parts_same = ((((((tt, class_same), role_same), injected-same), concept-same), axiom-same), fact-same)

  part_same : (p : ℕ) → p < 6 → part_answer s p ≡ part_answer t p
  unfolding part_answer PartAt
  part_same p l =
      first-same (record_answer s p) (record_answer t p) (part_count s p) (case_at PartAt 6 p parts_same l)
      ∙ ap (first_refusal (record_answer t p)) (S.counts p l)

  pub same_answer : deck_answer s ≡ deck_answer t
  unfolding deck_answer
  same_answer = rw (A, B) (first-same (part_answer s) (part_answer t) 6 part_same)
