-- What the tests of rows and forms say: numbers and list words in range.
-- Assumes nothing.
use mathlib.Core.Path.{◌≡◌, refl}
use mathlib.Core.Bool.{Bool, true, cond, ◌&&◌}
use mathlib.Core.List.{List}
use Prim.Native.Nat.{ℕ, ◌+◌, ◌-◌, ◌<◌, ◌≤◌}
use native.Mathlib.Omega.{arith}
use borrow.Author.Tests.{ltb-true, leb-true, lt-ltb, le-leb}
use lib.Dec.{eqb}
use lib.ListN.{get_or}
use Rattle.deck.specs.declared.forms.Kind.{Kind}
use Rattle.deck.specs.declared.forms.Kind.TheVariants.{Zero, Flag, Class, RealClass, Role, RoleWord, Concept, Any}
use Rattle.deck.specs.declared.forms.Form.{Form}
use Rattle.deck.specs.declared.forms.Form.TheVariants.{Fields, ListField, FieldList, Unknown}
use Rattle.deck.specs.Trailer.{part_count}
use Rattle.deck.specs.Parts.{list_word}
use Rattle.deck.specs.Rows.{row_fits, row_shape, row_rises, word_below, word_rises}
use Rattle.deck.specs.Forms.{Counts, bound_of, counts_of, fits, words_fit, place_of, bounds_of, AreBounds}
use Rattle.deck.specs.Content.{list_at, deck_of}
use Rattle.deck.specs.Sound.{EachBelow, Rises, counts_in}
use Rattle.deck.specs.Reads.{ListFits, FormFits}
use Rattle.deck.proofs.BelowLaws.{and_left, and_right, all-at, all_of}
use Rattle.deck.proofs.SearchLaws.{Rising}
use Rattle.deck.proofs.TableLaws.{list_length, list_at_lem}
use Rattle.deck.proofs.DeckLaws.{counts-are}

module _ (s : List ℕ) (start count : ℕ) where
  pub row_within : (n : ℕ) → row_shape s start count n ≡ true → start + count ≤ part_count s 6
  row_within n h = leb-true (start + count) (part_count s 6) (and_left (row_fits s start count) _ h)

  row_below : (n : ℕ) → row_shape s start count n ≡ true → EachBelow n (list_at s start count)
  row_below n h i l =
      let c : i < count = omega (arith, list_length s start count) in
      rw (list_at_lem s start count i c) (ltb-true (list_word s (start + i)) n (all-at (word_below s start n) count (and_right (row_fits s start count) _ h) i c))

  pub list-fits : (n : ℕ) → row_shape s start count n ≡ true → ListFits s n (record { start = start; count = count })
  list-fits n h = record { within = row_within n h; below = row_below n h }

  pub fits-list : (n : ℕ) → ListFits s n (record { start = start; count = count }) → row_shape s start count n ≡ true
  fits-list n h =
      rw (le-leb (start + count) (part_count s 6) h.within)
      (all_of (word_below s start n) count
      (λ i l. lt-ltb (list_word s (start + i)) n (rw (list_at_lem s start count i l) at (h.below i (omega (arith, list_length s start count))))))

  -- a row that rises, as a function of the place
  pub row-rising : row_rises s start count ≡ true → Rising (λ i. list_word s (start + i)) count
  row-rising h i l =
      let e : start + i + 1 ≡ start + (i + 1) = omega arith in
      rw e at (ltb-true (list_word s (start + i)) (list_word s (start + i + 1)) (all-at (word_rises s start) (count - 1) h i (omega arith)))

  pub list-rises : row_rises s start count ≡ true → Rises (list_at s start count)
  list-rises h i l =
      let c : i + 1 < count = omega (arith, list_length s start count) in
      rw (list_at_lem s start count i (omega arith), list_at_lem s start count (i + 1) c) (row-rising h i c)

  pub rises-row : Rises (list_at s start count) → row_rises s start count ≡ true
  rises-row h =
      all_of (word_rises s start) (count - 1)
      (λ i l.
      let e : start + i + 1 ≡ start + (i + 1) = omega arith in
      lt-ltb (list_word s (start + i)) (list_word s (start + i + 1))
      (rw (e, ← list_at_lem s start count i (omega arith), ← list_at_lem s start count (i + 1) (omega arith)) (h i (omega (arith, list_length s start count)))))

  -- words below n are below a larger bound
  pub row_more : (n m : ℕ) → n ≤ m → row_shape s start count n ≡ true → row_shape s start count m ≡ true
  row_more n m l h =
      rw (and_left (row_fits s start count) _ h)
      (all_of (word_below s start m) count
      (λ i k. lt-ltb (list_word s (start + i)) m (omega (arith, ltb-true (list_word s (start + i)) n (all-at (word_below s start n) count (and_right (row_fits s start count) _ h) i k)))))

-- a form that fits where concepts are below c fits where they are below a larger d
module _ (s : List ℕ) (c d : ℕ) (l : c ≤ d) where
  bound-more : (kind : Kind) → bound_of (counts_of s) c kind ≤ bound_of (counts_of s) d kind
  bound-more Zero = omega arith
  bound-more Flag = omega arith
  bound-more Class = omega arith
  bound-more RealClass = omega arith
  bound-more Role = omega arith
  bound-more RoleWord = omega arith
  bound-more Concept = l
  bound-more Any = omega arith

  fits_more : (kind : Kind) (w : ℕ) → fits (counts_of s) c kind w ≡ true → fits (counts_of s) d kind w ≡ true
  fits_more kind w h = lt-ltb w (bound_of (counts_of s) d kind) (omega (arith, ltb-true w (bound_of (counts_of s) c kind) h, bound-more kind))

  both : (a b a' b' : Bool) → (a ≡ true → a' ≡ true) → (b ≡ true → b' ≡ true) → a && b ≡ true → a' && b' ≡ true
  both a b a' b' f g h = rw (f (and_left a b h)) (g (and_right a b h))

  pub form-more : (form : Form) (x y z : ℕ) → words_fit s (counts_of s) c form x y z ≡ true → words_fit s (counts_of s) d form x y z ≡ true
  form-more (Fields a b e) x y z h =
      both (fits (counts_of s) c a x) _ _ _ (fits_more a x) (both (fits (counts_of s) c b y) (fits (counts_of s) c e z) _ _ (fits_more b y) (fits_more e z)) h
  form-more (ListField e a) x y z h =
      both (fits (counts_of s) c a z) (row_shape s x y (bound_of (counts_of s) c e)) _ _ (fits_more a z) (row_more s x y _ _ (bound-more e)) h
  form-more (FieldList a e) x y z h =
      both (fits (counts_of s) c a x) (row_shape s y z (bound_of (counts_of s) c e)) _ _ (fits_more a x) (row_more s y z _ _ (bound-more e)) h
  form-more Unknown x y z h = h

-- a bound among those that are lent
pub bound_at : (n : Counts) (c : ℕ) (kind : Kind) → cond (eqb (place_of kind) 6) c (get_or (bounds_of n) (place_of kind) 0) ≡ bound_of n c kind
bound_at n c Zero = refl
bound_at n c Flag = refl
bound_at n c Class = refl
bound_at n c RealClass = refl
bound_at n c Role = refl
bound_at n c RoleWord = refl
bound_at n c Concept = refl
bound_at n c Any = refl

pub are-bounds : (n : Counts) {l : List ℕ} → l ≡ bounds_of n → AreBounds l
are-bounds n h = rw h

module _ (s : List ℕ) (c : ℕ) where
  field_fits : (kind : Kind) (w : ℕ) → fits (counts_of s) c kind w ≡ true → w < bound_of (counts_in (deck_of s)) c kind
  field_fits kind w h = rw (counts-are s) (ltb-true w (bound_of (counts_of s) c kind) h)

  words-fit : (kind : Kind) (start count : ℕ) → row_shape s start count (bound_of (counts_of s) c kind) ≡ true
      → ListFits s (bound_of (counts_in (deck_of s)) c kind) (record { start = start; count = count })
  words-fit kind start count h = rw (counts-are s) (list-fits s start count (bound_of (counts_of s) c kind) h)

  pub form-fits : (form : Form) (x y z : ℕ) → words_fit s (counts_of s) c form x y z ≡ true → FormFits s c form x y z
  form-fits (Fields a b e) x y z h =
      let r = and_right (fits (counts_of s) c a x) _ h in
      (field_fits a x (and_left (fits (counts_of s) c a x) _ h), (field_fits b y (and_left (fits (counts_of s) c b y) _ r), field_fits e z (and_right (fits (counts_of s) c b y) _ r)))
  form-fits (ListField e a) x y z h = (words-fit e x y (and_right (fits (counts_of s) c a z) _ h), field_fits a z (and_left (fits (counts_of s) c a z) _ h))
  form-fits (FieldList a e) x y z h = (field_fits a x (and_left (fits (counts_of s) c a x) _ h), words-fit e y z (and_right (fits (counts_of s) c a x) _ h))
  form-fits Unknown x y z h = let z : ◌≡◌ {A = ℕ} 0 1 = cc in absurd (omega arith)

  -- and the other way: what is in range passes the test
  fits-field : (kind : Kind) (w : ℕ) → w < bound_of (counts_in (deck_of s)) c kind → fits (counts_of s) c kind w ≡ true
  fits-field kind w h = lt-ltb w (bound_of (counts_of s) c kind) (rw (counts-are s) at h)

  fits-words : (kind : Kind) (start count : ℕ) → ListFits s (bound_of (counts_in (deck_of s)) c kind) (record { start = start; count = count })
      → row_shape s start count (bound_of (counts_of s) c kind) ≡ true
  fits-words kind start count h = fits-list s start count (bound_of (counts_of s) c kind) (rw (counts-are s) at h)

  pub fits-form : (form : Form) (x y z : ℕ) → FormFits s c form x y z → words_fit s (counts_of s) c form x y z ≡ true
  fits-form (Fields a b e) x y z h = rw (fits-field a x h.0, fits-field b y h.1.0) (fits-field e z h.1.1)
  fits-form (ListField e a) x y z h = rw (fits-field a z h.1) (fits-words e x y h.0)
  fits-form (FieldList a e) x y z h = rw (fits-field a x h.0) (fits-words e y z h.1)
  fits-form Unknown x y z h = absurd h
