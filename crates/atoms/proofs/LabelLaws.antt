-- Laws of labels and their words.
-- Assumes nothing.
use mathlib.Core.Path.{◌≡◌, refl, sym, ap, ◌∙◌}
use mathlib.Core.Bool.{Bool, true, false}
use mathlib.Core.List.{List, [], ◌∷◌, ◌++◌}
use Prim.Native.Nat.{ℕ, zero, suc, ◌+◌, ◌≤◌, ◌<◌}
use native.Mathlib.Numerals.{add-one}
use native.Mathlib.Omega.{arith}
use lib.ListN.{length, get_or, set, length-set, drop, replicate, length-drop, get_or-replicate, length-replicate}
use lib.Seq.{ext_get_or, get_or-take, get_or-drop, length-take-le, get_or-set_same, get_or-set_other}
use lib.Dec.{eqb}
use lib.Bits.{bit_or}
use borrow.Author.Count.{below_more}
use borrow.Author.Tests.{eqb-true, eq-eqb}
use Rattle.deck.proofs.BelowLaws.{and_left, and_right}
use Rattle.atoms.specs.Rows.{row_at}
use Rattle.atoms.specs.Label.{insert_bit, insert_all, label_of, join_to, joined, same_label}

pub not_so : (b : Bool) → (b ≡ true → ⊥) → b ≡ false
not_so true h = absurd (h refl)
not_so false h = refl

pub same-eq : (a b : List ℕ) → same_label a b ≡ true → a ≡ b
unfolding same_label
same-eq [] [] h = refl
same-eq [] (y ∷ ys) h = cc
same-eq (x ∷ xs) [] h = cc
same-eq (x ∷ xs) (y ∷ ys) h =
    let p : x ≡ y = eqb-true x y (and_left (eqb x y) (same_label xs ys) h) in
    let q : xs ≡ ys = same-eq xs ys (and_right (eqb x y) (same_label xs ys) h) in
    cc

pub same_refl : (a : List ℕ) → same_label a a ≡ true
unfolding same_label
same_refl [] = refl
same_refl (x ∷ xs) = rw (eq-eqb x x refl) (same_refl xs)

pub same_differs : (a b : List ℕ) (i : ℕ) → (get_or a i 0 ≡ get_or b i 0 → ⊥) → same_label a b ≡ false
same_differs a b i h = not_so (same_label a b) (λ (e : same_label a b ≡ true). h (ap (λ (l : List ℕ). get_or l i 0) (same-eq a b e)))

pub length-insert : (l : List ℕ) (k : ℕ) → length (insert_bit l k) ≡ length l
unfolding insert_bit
length-insert l k = length-set l _ _

pub length-insert-all : (l ks : List ℕ) → length (insert_all l ks) ≡ length l
unfolding insert_all
length-insert-all l [] = refl
length-insert-all l (k ∷ ks) = length-insert-all (insert_bit l k) ks ∙ length-insert l k

pub length-join-to : (l f : List ℕ) (n : ℕ) → length (join_to l f n) ≡ length l
unfolding join_to
length-join-to l f zero = refl
length-join-to l f (suc n) = length-set (join_to l f n) _ _ ∙ length-join-to l f n

pub length-joined : (l f : List ℕ) → length (joined l f) ≡ length l
unfolding joined
length-joined l f = length-join-to l f (length l)

pub join-none : (l f : List ℕ) → l ≡ join_to l f 0
unfolding join_to
join-none l f = refl

pub join_more : (l f : List ℕ) (n : ℕ) → join_to l f (n + 1) ≡ set (join_to l f n) n (bit_or (get_or (join_to l f n) n 0) (get_or f n 0))
unfolding join_to
join_more l f n = rw add-one

-- a word of a row
pub row_word : (w : ℕ) (buf : List ℕ) (at k : ℕ) → k < w → get_or (row_at w buf at) k 0 ≡ get_or buf (at + k) 0
row_word w buf at k h = get_or-take w (drop at buf) k 0 h ∙ get_or-drop at buf k 0

-- a row is a label where each word is
pub row_is : (buf l : List ℕ) (at : ℕ) → at + length l ≤ length buf → ((k : ℕ) → k < length l → get_or buf (at + k) 0 ≡ get_or l k 0) → row_at (length l) buf at ≡ l
row_is buf l at h same =
    let e : length (row_at (length l) buf at) ≡ length l = length-take-le (length l) (drop at buf) (omega (arith, length-drop at buf)) in
    ext_get_or 0 (row_at (length l) buf at) l e
    (λ (k : ℕ) (b : k < length (row_at (length l) buf at)). let b' : k < length l = omega (arith, b, e) in row_word (length l) buf at k b' ∙ same k b')

-- a label of zeros
pub zeros : (l : List ℕ) (n : ℕ) → length l ≡ n → ((k : ℕ) → k < n → get_or l k 0 ≡ 0) → l ≡ replicate n 0
zeros l n e z =
    ext_get_or 0 l (replicate n 0) (e ∙ sym (length-replicate n 0))
    (λ (k : ℕ) (b : k < length l). let b' : k < n = omega (arith, b, e) in z k b' ∙ sym (get_or-replicate n k 0 0 b'))

pub zeros-more : (l : List ℕ) (i : ℕ) → i < length l → ((k : ℕ) → k < i → get_or l k 0 ≡ 0) → (k : ℕ) → k < i + 1 → get_or (set l i 0) k 0 ≡ 0
zeros-more l i h z =
    below_more (λ (k : ℕ). get_or (set l i 0) k 0 ≡ 0) i (λ (k : ℕ) (b : k < i). get_or-set_other l i k 0 0 (λ e. omega (arith, b, e)) ∙ z k b)
    (get_or-set_same l i 0 0 h)

pub length-label-of : (w : ℕ) (ks : List ℕ) → length (label_of w ks) ≡ w
unfolding label_of
length-label-of w ks = length-insert-all (replicate w 0) ks ∙ length-replicate w 0

-- several classes after others
pub insert-all-append : (l xs ys : List ℕ) → insert_all l (xs ++ ys) ≡ insert_all (insert_all l xs) ys
unfolding insert_all
insert-all-append l [] ys = refl
insert-all-append l (x ∷ xs) ys = insert-all-append (insert_bit l x) xs ys
