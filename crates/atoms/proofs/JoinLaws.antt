-- A label that takes classes in does not mind repeats and order: `insert-same`. So a walk over marks joins what a walk in order does.
--     takes-start, takes-next, takes-end        what a walk by marks still has to join
use Prim.Native.Nat.{ℕ, zero, suc, ◌+◌, ◌/◌, ◌%◌, ◌^◌, ◌<◌}
use mathlib.Core.Bool.{Bool, true, false, cond, ◌||◌}
use mathlib.Core.Path.{◌≡◌, refl, sym, ap, ◌∙◌}
use mathlib.Core.List.{List, [], ◌∷◌, ◌++◌, flat_map}
use native.Mathlib.Nat.{mod-eq_of_lt, two-pow-succ}
use native.Mathlib.Omega.{arith}
use lib.ListN.{length, get_or}
use lib.Seq.{ext_get_or, get_or-set_same, get_or-set_other}
use lib.Dec.{eqb}
use lib.Bits.{bit_or}
use borrow.Author.Tests.{eq-eqb, ne_eqb, eqb-true}
use Rattle.std.specs.Prelude.{Some, None}
use Rattle.deck.specs.declared.numbers.ConceptId.{ConceptId}
use Rattle.deck.specs.Deck.{Deck, has}
use Rattle.deck.specs.Sound.{Sound}
use Rattle.eval.specs.Lent.{bit}
use Rattle.eval.proofs.LinkLaws.{same_truth}
use Rattle.eval.proofs.Clash.{clash}
use Rattle.atoms.specs.Label.{insert_bit, insert_all}
use Rattle.atoms.specs.Floor.{required_atoms, satisfiable_row, atom_rows}
use Rattle.atoms.specs.Leaves.{leaves, pending, Same, Next}
use Rattle.atoms.proofs.BitLaws.{bit-or, same_low}
use Rattle.atoms.proofs.MemberLaws.{by_cases}
use Rattle.atoms.proofs.LabelLaws.{length-insert, insert-all-append}
use Rattle.atoms.proofs.ListWalks.{flat-same, flat-flat}
use Rattle.atoms.proofs.LeafLaws.{has-append, atoms-leaves}

-- ---- a number is its bits
below-pow : (n : ℕ) → n < 2 ^ n
below-pow zero = omega arith
below-pow (suc n) = omega (arith, below-pow n, two-pow-succ n)

bits-same : (x y : ℕ) → ((j : ℕ) → bit x j ≡ bit y j) → x ≡ y
bits-same x y h =
    let n = x + y in
    let p : x < 2 ^ n = omega (arith, below-pow n) in
    let q : y < 2 ^ n = omega (arith, below-pow n) in
    sym (mod-eq_of_lt p) ∙ same_low x y n (λ j b. h j) ∙ mod-eq_of_lt q

or-last-two : (w p q : ℕ) → bit_or (bit_or w p) q ≡ bit_or (bit_or w q) p
or-last-two w p q = bits-same _ _ (λ j. bit-or (bit_or w p) q j ∙ ap (λ (b : Bool). b || bit q j) (bit-or w p j) ∙ turn (bit w j) (bit p j) (bit q j) ∙ sym (ap (λ (b : Bool). b || bit p j) (bit-or w q j)) ∙ sym (bit-or (bit_or w q) p j))
  where
    turn : (a b c : Bool) → ((a || b) || c) ≡ ((a || c) || b)
    turn true b c = refl
    turn false true true = refl
    turn false true false = refl
    turn false false true = refl
    turn false false false = refl

or-again : (w p : ℕ) → bit_or (bit_or w p) p ≡ bit_or w p
or-again w p = bits-same _ _ (λ j. bit-or (bit_or w p) p j ∙ ap (λ (b : Bool). b || bit p j) (bit-or w p j) ∙ twice (bit w j) (bit p j) ∙ sym (bit-or w p j))
  where
    twice : (a b : Bool) → ((a || b) || b) ≡ (a || b)
    twice true b = refl
    twice false true = refl
    twice false false = refl

-- ---- two classes
word_at : (l : List ℕ) (k i : ℕ) → i < length l → get_or (insert_bit l k) i 0 ≡ cond (eqb (k / 64) i) (bit_or (get_or l i 0) (2 ^ (k % 64))) (get_or l i 0)
unfolding insert_bit
word_at l k i h =
    by_cases (k / 64) i
    (λ (e : k / 64 ≡ i). rw (eq-eqb (k / 64) i e, e) (get_or-set_same l i (bit_or (get_or l i 0) (2 ^ (k % 64))) 0 h))
    (λ n. rw (ne_eqb (k / 64) i n) (get_or-set_other l (k / 64) i (bit_or (get_or l (k / 64) 0) (2 ^ (k % 64))) 0 (λ e. n (sym e))))

insert-swap : (l : List ℕ) (a b : ℕ) → insert_bit (insert_bit l a) b ≡ insert_bit (insert_bit l b) a
insert-swap l a b =
    ext_get_or 0 (insert_bit (insert_bit l a) b) (insert_bit (insert_bit l b) a) (length-insert (insert_bit l a) b ∙ length-insert l a ∙ sym (length-insert (insert_bit l b) a ∙ length-insert l b))
    (λ (i : ℕ) (h : i < length (insert_bit (insert_bit l a) b)).
    let n : i < length l = omega (arith, h, length-insert (insert_bit l a) b, length-insert l a) in
    rw (word_at (insert_bit l a) b i (omega (arith, n, length-insert l a)), word_at (insert_bit l b) a i (omega (arith, n, length-insert l b)), word_at l a i n, word_at l b i n) (go (eqb (a / 64) i) (eqb (b / 64) i) (get_or l i 0)))
  where
    go : (x y : Bool) (w : ℕ) → cond y (bit_or (cond x (bit_or w (2 ^ (a % 64))) w) (2 ^ (b % 64))) (cond x (bit_or w (2 ^ (a % 64))) w) ≡ cond x (bit_or (cond y (bit_or w (2 ^ (b % 64))) w) (2 ^ (a % 64))) (cond y (bit_or w (2 ^ (b % 64))) w)
    go true true w = or-last-two w (2 ^ (a % 64)) (2 ^ (b % 64))
    go true false w = refl
    go false true w = refl
    go false false w = refl

insert-again : (l : List ℕ) (a : ℕ) → insert_bit (insert_bit l a) a ≡ insert_bit l a
insert-again l a =
    ext_get_or 0 (insert_bit (insert_bit l a) a) (insert_bit l a) (length-insert (insert_bit l a) a)
    (λ (i : ℕ) (h : i < length (insert_bit (insert_bit l a) a)).
    let n : i < length l = omega (arith, h, length-insert (insert_bit l a) a, length-insert l a) in
    rw (word_at (insert_bit l a) a i (omega (arith, n, length-insert l a)), word_at l a i n) (go (eqb (a / 64) i) (get_or l i 0)))
  where
    go : (x : Bool) (w : ℕ) → cond x (bit_or (cond x (bit_or w (2 ^ (a % 64))) w) (2 ^ (a % 64))) (cond x (bit_or w (2 ^ (a % 64))) w) ≡ cond x (bit_or w (2 ^ (a % 64))) w
    go true w = or-again w (2 ^ (a % 64))
    go false w = refl

-- ---- many
absorb : (l : List ℕ) (k : ℕ) (xs : List ℕ) → has xs k ≡ true → insert_all (insert_bit l k) xs ≡ insert_all l xs
unfolding insert_all has
absorb l k [] h = clash (cc)
absorb l k (x ∷ xs) h = go (eqb x k) refl h (absorb (insert_bit l x) k xs)
  where
    go : (b : Bool) → eqb x k ≡ b → (b || has xs k) ≡ true → (has xs k ≡ true → insert_all (insert_bit (insert_bit l x) k) xs ≡ insert_all (insert_bit l x) xs) → insert_all (insert_bit (insert_bit l k) x) xs ≡ insert_all (insert_bit l x) xs
    go true e r ih = let q : x ≡ k = eqb-true x k e in rw (← q) (ap (λ (m : List ℕ). insert_all m xs) (insert-again l x))
    go false e r ih = ap (λ (m : List ℕ). insert_all m xs) (insert-swap l k x) ∙ ih r

absorb-all : (l ys xs : List ℕ) → ((k : ℕ) → has ys k ≡ true → has xs k ≡ true) → insert_all (insert_all l ys) xs ≡ insert_all l xs
unfolding insert_all has
absorb-all l [] xs h = refl
absorb-all l (y ∷ ys) xs h = absorb-all (insert_bit l y) ys xs (λ k q. h k (later (eqb y k) q)) ∙ absorb l y xs (h y (rw (eq-eqb y y refl)))
  where
    later : (b : Bool) {a : Bool} → a ≡ true → (b || a) ≡ true
    later true e = refl
    later false e = e

one_later : (l : List ℕ) (k : ℕ) (xs : List ℕ) → insert_all (insert_bit l k) xs ≡ insert_bit (insert_all l xs) k
unfolding insert_all
one_later l k [] = refl
one_later l k (x ∷ xs) = ap (λ (m : List ℕ). insert_all m xs) (insert-swap l k x) ∙ one_later (insert_bit l x) k xs

all-later : (l xs ys : List ℕ) → insert_all (insert_all l xs) ys ≡ insert_all (insert_all l ys) xs
unfolding insert_all
all-later l [] ys = refl
all-later l (x ∷ xs) ys = all-later (insert_bit l x) xs ys ∙ ap (λ (m : List ℕ). insert_all m xs) (one_later l x ys)

pub insert-same : (l xs ys : List ℕ) → Same xs ys → insert_all l xs ≡ insert_all l ys
insert-same l xs ys S = sym (absorb-all l ys xs (λ k q. S k ∙ q)) ∙ all-later l ys xs ∙ absorb-all l xs ys (λ k q. sym (S k) ∙ q)

-- ---- what the members of a list give
flat-some : (f : ℕ → List ℕ) (xs : List ℕ) (j x : ℕ) → has xs x ≡ true → has (f x) j ≡ true → has (flat_map f xs) j ≡ true
unfolding has flat_map
flat-some f [] j x h q = clash (cc)
flat-some f (y ∷ ys) j x h q = has-append (f y) (flat_map f ys) j ∙ go (eqb y x) refl h (flat-some f ys j x)
  where
    go : (b : Bool) → eqb y x ≡ b → (b || has ys x) ≡ true → (has ys x ≡ true → has (f x) j ≡ true → has (flat_map f ys) j ≡ true) → (has (f y) j || has (flat_map f ys) j) ≡ true
    go true e r ih = let p : y ≡ x = eqb-true y x e in rw (p, q)
    go false e r ih = last (has (f y) j) (ih r q)
      where
        last : (b : Bool) {a : Bool} → a ≡ true → (b || a) ≡ true
        last true e = refl
        last false e = e

-- a member of what is given is given by a member
from-flat : (f : ℕ → List ℕ) (xs ys : List ℕ) (j : ℕ) → ((x : ℕ) → has xs x ≡ true → has ys x ≡ true) → has (flat_map f xs) j ≡ true → has (flat_map f ys) j ≡ true
unfolding has flat_map
from-flat f [] ys j S h = clash (cc)
from-flat f (x ∷ xs) ys j S h = go (has (f x) j) refl (sym (has-append (f x) (flat_map f xs) j) ∙ h) (from-flat f xs ys j (λ z q. S z (last (eqb x z) q)))
  where
    last : (b : Bool) {a : Bool} → a ≡ true → (b || a) ≡ true
    last true e = refl
    last false e = e

    go : (b : Bool) → has (f x) j ≡ b → (b || has (flat_map f xs) j) ≡ true → (has (flat_map f xs) j ≡ true → has (flat_map f ys) j ≡ true) → has (flat_map f ys) j ≡ true
    go true e r ih = flat-some f ys j x (S x (rw (eq-eqb x x refl))) e
    go false e r ih = ih r

pub flat-members : (f : ℕ → List ℕ) (xs ys : List ℕ) → Same xs ys → Same (flat_map f xs) (flat_map f ys)
flat-members f xs ys S j = same_truth (has (flat_map f xs) j) (has (flat_map f ys) j) (from-flat f xs ys j (λ x q. sym (S x) ∙ q)) (from-flat f ys xs j (λ x q. S x ∙ q))

-- ---- what a walk by marks still has to join, where each leaf gives a list
module _ (D : Deck) (f : ℕ → List ℕ) where
  abbrev takes : List ℕ → List ℕ → ℕ → List ℕ
  takes label marks i = insert_all label (flat_map f (pending D marks i))

  pub takes-start : (label l was : List ℕ) (i : ℕ) → Same (flat_map (leaves D) l) (pending D was i) → insert_all label (flat_map (λ o. flat_map f (leaves D o)) l) ≡ takes label was i
  takes-start label l was i S =
      ap (insert_all label) (sym (flat-flat f (leaves D) l)) ∙ insert-same label (flat_map f (flat_map (leaves D) l)) (flat_map f (pending D was i)) (flat-members f (flat_map (leaves D) l) (pending D was i) S)

  module _ (label : List ℕ) {was : List ℕ} {i : ℕ} {marks : List ℕ} where
    pub takes-next : {k : ConceptId} → Next D was i marks (Some k) → {next : List ℕ} → next ≡ insert_all label (f k.0) → takes label was i ≡ takes next marks k.0
    unfolding flat_map
    takes-next {k} N {next} e =
        insert-same label (flat_map f (pending D was i)) (f k.0 ++ flat_map f (pending D marks k.0)) (flat-members f (pending D was i) (k.0 ∷ pending D marks k.0) N.same)
        ∙ rw e (insert-all-append label (f k.0) (flat_map f (pending D marks k.0)))

    pub takes-end : Next D was i marks None → takes label was i ≡ label
    unfolding flat_map insert_all
    takes-end N = insert-same label (flat_map f (pending D was i)) [] (flat-members f (pending D was i) [] N.same)

-- ---- rows of required atoms, by the leaves
pub rows-leaves : (D : Deck) → Sound D → (l : List ℕ) → flat_map (atom_rows D) l ≡ flat_map (λ o. flat_map (atom_rows D) (leaves D o)) l
unfolding atom_rows
rows-leaves D W l =
    flat-same (atom_rows D) (λ o. flat_map (atom_rows D) (leaves D o)) l
    (λ o m. ap (flat_map (satisfiable_row D)) (atoms-leaves D W o) ∙ flat-flat (satisfiable_row D) (required_atoms D) (leaves D o))
