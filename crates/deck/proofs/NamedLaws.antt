-- The word of a refusal 12, 13 or 14 lies in a record or in a list that the record names, and what stands there is the fault: `named`.
-- It is below `no_word`: `word-told`. No other refusal has a word: `unnamed`.
-- Assumes nothing.
use mathlib.Core.Path.{◌≡◌, refl, sym, subst, ◌∙◌}
use mathlib.Core.Logic.{◌⊎◌, ⊎_elim, inl, inr}
use mathlib.Core.Bool.{Bool, true, false, cond, ◌&&◌}
use mathlib.Core.List.{List, [], ◌∷◌, flat_map}
use Prim.Native.Nat.{ℕ, zero, suc, ◌+◌, ◌%◌, ◌<◌, ◌≤◌}
use native.Mathlib.Omega.{arith}
use borrow.Author.Tests.{ltb-false, leb-true, leb-false}
use lib.Dec.{eqb, leb}
use lib.ListN.{length, get_or}
use Rattle.deck.specs.declared.refusal.Refusal.{Refusal}
use Rattle.deck.specs.declared.refusal.Refusal.TheVariants.{TooShort, UnknownEdition, CountOverLimit, BadLayout, BadOrder, ForwardOperand, BadBounds, ShortBuffer, ForeignStructure, AbsentIndex, UnknownTag, OutOfRange, FilledField}
use Rattle.deck.specs.Refusal.{DeckAnswer}
use Rattle.std.specs.Prelude.{Ok, Err}
use Rattle.deck.specs.declared.forms.Kind.{Kind}
use Rattle.deck.specs.declared.forms.Kind.TheVariants.{Zero, Flag, Class, RealClass, Role, RoleWord, Concept, Any}
use Rattle.deck.specs.Refusal.{number_of, word_of, no_word}
use Rattle.deck.specs.Word.{word_at, trailer_at}
use Rattle.deck.specs.Answer.{unless, or_else, first_refusal, trailer_answer, Framed}
use Rattle.deck.specs.Trailer.{edition, part_count, counts_fit, layout_fits}
use Rattle.deck.specs.Parts.{part_place, part_word, list_word}
use Rattle.deck.specs.Rows.{row_fits, word_below}
use Rattle.deck.specs.Forms.{counts_of, bound_of, fits}
use Rattle.deck.specs.Faults.{Piece, fault_of, fault_unless, word_faults, piece_faults, faults_of, first}
use Rattle.deck.specs.Faults.Piece.{Field, Items, NoForm}
use Rattle.deck.specs.Records.{deck_answer, part_answer, record_answer, record_fault, record_pieces, class_answer, class_order, role_answer, role_order, injected_answer, injected_order, concept_answer, concept_shape, axiom_answer, fact_answer}
use Rattle.deck.specs.Named.{Leaves, Strays, Amiss, AtFault, Named}
use Rattle.deck.proofs.CaseLaws.{Cases, case_at}
use Rattle.deck.proofs.TrailerLaws.{framed_of, in-part, body-small}
use Rattle.deck.proofs.PieceLaws.{PieceAt, each_at, record-pieces}
use Rattle.deck.proofs.FaultLaws.{first-append, walk}

-- ---- where a refusal comes from

clash : {A : Type 0} {r : Refusal} → ◌≡◌ {A = DeckAnswer} (Ok tt) (Err r) → A
clash e = let z : ◌≡◌ {A = ℕ} 0 1 = cc in absurd (omega arith)

or_cases : (a b : DeckAnswer) (r : Refusal) → or_else a b ≡ Err r → (a ≡ Err r) ⊎ (b ≡ Err r)
or_cases (Ok tt) b r e = inr e
or_cases (Err q) b r e = inl e

first_found : (f : ℕ → DeckAnswer) (n : ℕ) (r : Refusal) → first_refusal f n ≡ Err r → (i : ℕ) × (i < n) × (f i ≡ Err r)
unfolding first_refusal
first_found f zero r e = clash e
first_found f (suc n) r e =
    ⊎_elim (λ (h : first_refusal f n ≡ Err r). let t = first_found f n r h in (t.0, omega (arith, t.1), t.2))
    (λ (h : f n ≡ Err r). (n, omega arith, h)) (or_cases (first_refusal f n) (f n) r e)

-- an answer that refuses, if at all, with a number below 12
abbrev Low : DeckAnswer → Type 0
Low (Ok tt) = Unit {0}
Low (Err r) = number_of r < 12

low-unless : (b : Bool) (q : Refusal) (rest : DeckAnswer) → number_of q < 12 → Low rest → Low (unless b q rest)
low-unless true q rest l h = h
low-unless false q rest l h = l

tests-low : (a b c d : Bool) → Low (unless a TooShort (unless b UnknownEdition (unless c CountOverLimit (unless d BadLayout (Ok tt)))))
tests-low false b c d = omega arith
tests-low true false c d = omega arith
tests-low true true false d = omega arith
tests-low true true true d = low-unless d BadLayout (Ok tt) (omega arith) tt

trailer-low : (e : ℕ) (s : List ℕ) → Low (trailer_answer e s)
unfolding trailer_answer
trailer-low e s = tests-low (eqb (length s % 4) 0 && leb 72 (length s)) (eqb (edition s) e) (counts_fit s) (layout_fits s)

module _ (r : Refusal) (high : 12 ≤ number_of r) where
  not_low : (a : DeckAnswer) → Low a → a ≡ Err r → ⊥
  not_low a l e = let z : number_of r < 12 = subst Low e l in omega arith

  after-low : (a b : DeckAnswer) → Low a → or_else a b ≡ Err r → (a ≡ Ok tt) × (b ≡ Err r)
  after-low (Ok tt) b l e = (refl, e)
  after-low (Err q) b l e = absurd (not_low (Err q) l e)

  before-low : (a b : DeckAnswer) → Low b → or_else a b ≡ Err r → a ≡ Err r
  before-low a b l e = ⊎_elim (λ (h : a ≡ Err r). h) (λ (h : b ≡ Err r). absurd (not_low b l h)) (or_cases a b r e)

  -- 12, 13 and 14 come from the faults of a record, not from its test for 6 or 7
  module _ (s : List ℕ) where
    FaultOnly : ℕ → Type 0
    FaultOnly p = (k : ℕ) → record_answer s p k ≡ Err r → record_fault s p k ≡ Err r

    tested : (p k : ℕ) (b : Bool) (q : Refusal) → number_of q < 12 → or_else (record_fault s p k) (unless b q (Ok tt)) ≡ Err r → record_fault s p k ≡ Err r
    tested p k b q l = before-low (record_fault s p k) (unless b q (Ok tt)) (low-unless b q (Ok tt) l tt)

    all-faults : Cases FaultOnly 6
    unfolding FaultOnly record_answer class_answer role_answer injected_answer concept_answer axiom_answer fact_answer
    all-faults = (
      (
        (
          (
            (
              (
                tt,
                λ k. tested 0 k (class_order s k) BadOrder (omega arith),
              ),
              λ k. tested 1 k (role_order s k) BadOrder (omega arith),
            ),
            λ k. tested 2 k (injected_order s k) BadOrder (omega arith),
          ),
          λ k. tested 3 k (concept_shape s k k) ForwardOperand (omega arith),
        ),
        λ k e. e,
      ),
      λ k e. e,
    )

    fault-only : (p k : ℕ) → p < 6 → record_answer s p k ≡ Err r → record_fault s p k ≡ Err r
    unfolding FaultOnly
    fault-only p k l = case_at FaultOnly 6 p all-faults l k

-- ---- what the first fault of a piece says

unless-found : (b : Bool) (q r : Refusal) → first (fault_unless b q) ≡ Err r → (r ≡ q) × (b ≡ false)
unless-found true q r e = clash e
unless-found false q r e = (cc, refl)

cond-found : (b : Bool) (xs : List Refusal) (q r : Refusal) → first (cond b xs (q ∷ [])) ≡ Err r
    → ((b ≡ true) × (first xs ≡ Err r)) ⊎ ((b ≡ false) × (r ≡ q))
cond-found true xs q r e = inl (refl, e)
cond-found false xs q r e = inr (refl, cc)

module _ (s : List ℕ) where
  amiss : (kind : Kind) (w : ℕ) (r : Refusal) → r ≡ fault_of kind w → bound_of (counts_of s) (part_count s 3) kind ≤ word_at s w → Amiss s kind w r
  amiss Zero w r e h = (e, h)
  amiss Flag w r e h = (e, h)
  amiss Class w r e h = (e, h)
  amiss RealClass w r e h = (e, h)
  amiss Role w r e h = (e, h)
  amiss RoleWord w r e h = (e, h)
  amiss Concept w r e h = (e, h)
  amiss Any w r e h = (e, h)

  amiss-word : (kind : Kind) (w : ℕ) (r : Refusal) → Amiss s kind w r → word_of r ≡ w
  amiss-word Zero w r h = rw h.0
  amiss-word Flag w r h = rw h.0
  amiss-word Class w r h = rw h.0
  amiss-word RealClass w r h = rw h.0
  amiss-word Role w r h = rw h.0
  amiss-word RoleWord w r h = rw h.0
  amiss-word Concept w r h = rw h.0
  amiss-word Any w r h = rw h.0

  word-found : (start n count : ℕ) (r : Refusal) → first (word_faults s start n count) ≡ Err r
      → (i : ℕ) × (i < count) × (r ≡ OutOfRange (record { 0 = part_place s 6 (start + i) 0 })) × (n ≤ list_word s (start + i))
  unfolding word_faults
  word-found start n zero r e = clash e
  word-found start n (suc c) r e =
      let q = OutOfRange (record { 0 = part_place s 6 (start + c) 0 }) in
      let b = word_below s start n c in
      ⊎_elim (λ (h : first (word_faults s start n c) ≡ Err r). let t = word-found start n c r h in (t.0, omega (arith, t.1), t.2, t.3))
      (λ (h : first (fault_unless b q) ≡ Err r). let t = unless-found b q r h in (c, omega arith, t.0, ltb-false (list_word s (start + c)) n t.1))
      (or_cases (first (word_faults s start n c)) (first (fault_unless b q)) r (rw (first-append (word_faults s start n c) (fault_unless b q)) at e))

  module _ (p k : ℕ) where
    piece-found : (qs : List Piece) (r : Refusal) → first (faults_of s p k qs) ≡ Err r
        → (i : ℕ) × (i < length qs) × (first (piece_faults s p k (get_or qs i NoForm)) ≡ Err r)
    unfolding flat_map
    piece-found [] r e = clash e
    piece-found (q ∷ qs) r e =
        ⊎_elim (λ (h : first (piece_faults s p k q) ≡ Err r). (zero, omega arith, h))
        (λ (h : first (faults_of s p k qs) ≡ Err r). let t = piece-found qs r h in (suc t.0, omega (arith, t.1), t.2))
        (or_cases (first (piece_faults s p k q)) (first (faults_of s p k qs)) r (rw (first-append (piece_faults s p k q) (faults_of s p k qs)) at e))

    piece-fault : (q : Piece) → PieceAt s p k q → (r : Refusal) → first (piece_faults s p k q) ≡ Err r → AtFault s p k q r
    unfolding part_word
    piece-fault (Field f kind) l r e =
        let t = unless-found (fits (counts_of s) (part_count s 3) kind (part_word s p k f)) (fault_of kind (part_place s p k f)) r e in
        amiss kind (part_place s p k f) r t.0 (ltb-false (part_word s p k f) (bound_of (counts_of s) (part_count s 3) kind) t.1)
    piece-fault (Items f kind) l r e =
        let start = part_word s p k f in
        let count = part_word s p k (f + 1) in
        let bound = bound_of (counts_of s) (part_count s 3) kind in
        let words = word_faults s start bound count in
        let q = OutOfRange (record { 0 = part_place s p k f }) in
        ⊎_elim
        (λ (h : (row_fits s start count ≡ true) × (first words ≡ Err r)).
        let t = word-found start bound count r h.1 in
        inr (record { item = t.0; known = t.1; inside = leb-true (start + count) (part_count s 6) h.0; is = t.2; stray = rw t.2 t.3 }))
        (λ (h : (row_fits s start count ≡ false) × (r ≡ q)). inl (h.1, leb-false (start + count) (part_count s 6) h.0))
        (cond-found (row_fits s start count) words q r e)
    piece-fault NoForm l r e = let t : r ≡ UnknownTag (record { 0 = part_place s p k 0 }) = cc in (t, rw t l.1)

    piece-within : Framed s → p < 6 → k < part_count s p → (q : Piece) → PieceAt s p k q → (r : Refusal) → AtFault s p k q r → word_of r < trailer_at s
    piece-within F lp lk (Field f kind) l r h = rw (amiss-word kind (part_place s p k f) r h) (in-part s F p k f (omega arith) lk l)
    piece-within F lp lk (Items f kind) l r h =
        ⊎_elim (λ (t : Leaves s p k f r). rw t.0 (in-part s F p k f (omega arith) lk (omega (arith, l.0))))
        (λ (t : Strays s p k f kind r). rw t.is (in-part s F 6 (part_word s p k f + t.item) 0 (omega arith) (omega (arith, t.known, t.inside)) (omega arith)))
        h
    piece-within F lp lk NoForm l r h = rw h.0 (in-part s F p k 0 (omega arith) lk l.0)

pub named : (s : List ℕ) (r : Refusal) → deck_answer s ≡ Err r → 12 ≤ number_of r → Named s r
unfolding deck_answer part_answer
named s r e high =
    let t = after-low r high (trailer_answer 1 s) (first_refusal (part_answer s) 6) (trailer-low 1 s) e in
    let part = first_found (part_answer s) 6 r t.1 in
    let p = part.0 in
    let place = first_found (record_answer s p) (part_count s p) r part.2 in
    let k = place.0 in
    let found = piece-found s p k (record_pieces s p k) r (sym (walk s k p part.1) ∙ fault-only r high s p k part.1 place.2) in
    let q = get_or (record_pieces s p k) found.0 NoForm in
    let own : PieceAt s p k q = each_at (PieceAt s p k) (record_pieces s p k) (record-pieces s k p part.1) found.0 found.1 in
    let fault : AtFault s p k q r = piece-fault s p k q own r found.2 in
    record {
      part = p;
      place = k;
      part-known = part.1;
      place-known = place.1;
      piece = found.0;
      piece-known = found.1;
      at-fault = fault;
      within = piece-within s p k (framed_of 1 s t.0) part.1 place.1 q own r fault;
    }

-- the word of 12, 13 or 14 is not taken for none
pub word-told : (s : List ℕ) (r : Refusal) → deck_answer s ≡ Err r → 12 ≤ number_of r → word_of r < no_word
unfolding deck_answer
word-told s r e high =
    let t = after-low r high (trailer_answer 1 s) (first_refusal (part_answer s) 6) (trailer-low 1 s) e in
    omega (arith, (named s r e high).within, body-small s (framed_of 1 s t.0))

-- the other refusals have no word
pub unnamed : (r : Refusal) → number_of r < 12 → word_of r ≡ no_word
unnamed TooShort l = refl
unnamed UnknownEdition l = refl
unnamed CountOverLimit l = refl
unnamed BadLayout l = refl
unnamed BadOrder l = refl
unnamed ForwardOperand l = refl
unnamed BadBounds l = refl
unnamed ShortBuffer l = refl
unnamed ForeignStructure l = refl
unnamed AbsentIndex l = refl
unnamed (UnknownTag w) l = absurd (omega arith)
unnamed (OutOfRange w) l = absurd (omega arith)
unnamed (FilledField w) l = absurd (omega arith)
