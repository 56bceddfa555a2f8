-- What a label has: exactly the classes that it took in, or those of either label that was joined.
-- Assumes nothing.
use mathlib.Core.Path.{◌≡◌, refl, sym, ap, ◌∙◌}
use mathlib.Core.Bool.{Bool, true, false, ◌||◌, or-false}
use mathlib.Core.List.{List, [], ◌∷◌}
use mathlib.Core.Logic.{⊎_elim}
use Prim.Native.Nat.{ℕ, zero, suc, ◌*◌, ◌/◌, ◌%◌, ◌^◌, ◌<◌, ◌≤◌}
use native.Mathlib.Nat.{zero-div, eq-or-lt_of_le}
use native.Mathlib.Omega.{arith}
use lib.ListN.{length, get_or, replicate, set, get_or-replicate, length-replicate, get_or-eq_default}
use lib.Seq.{get_or-set_same, get_or-set_other}
use lib.Dec.{eqb}
use lib.Bits.{bit_or}
use borrow.Author.Tests.{eq-eqb, ne_eqb}
use Rattle.deck.specs.Deck.{has}
use Rattle.deck.proofs.CaseLaws.{lt-or-le}
use Rattle.eval.specs.Lent.{bit, member_in}
use Rattle.atoms.specs.Label.{label_has, insert_bit, insert_all, label_of, join_to, joined}
use Rattle.atoms.proofs.BitLaws.{bit-or, bit-pow}
use Rattle.atoms.specs.Rows.{rows_of}
use Rattle.atoms.proofs.LabelLaws.{length-insert, length-join-to, row_word}
use Rattle.atoms.proofs.RowLaws.{rows_at}

pub by_cases : {C : Type 0} (a b : ℕ) → (a ≡ b → C) → ((a ≡ b → ⊥) → C) → C
by_cases a b f g = ⊎_elim (λ (l : a < b). g (λ e. omega (arith, e, l))) (λ (h : b ≤ a). ⊎_elim (λ (e : b ≡ a). f (sym e)) (λ (l : b < a). g (λ e. omega (arith, e, l))) (eq-or-lt_of_le h)) (lt-or-le a b)

pub or_assoc : (a b c : Bool) → ((a || b) || c) ≡ (a || (b || c))
or_assoc true b c = refl
or_assoc false b c = refl

same_rest : (k j : ℕ) → j / 64 ≡ k / 64 → eqb (k % 64) (j % 64) ≡ eqb k j
same_rest k j e = by_cases (k % 64) (j % 64) (λ (q : k % 64 ≡ j % 64). eq-eqb (k % 64) (j % 64) q ∙ sym (eq-eqb k j (omega arith))) (λ n. ne_eqb (k % 64) (j % 64) n ∙ sym (ne_eqb k j (λ q. n (ap (λ (m : ℕ). m % 64) q))))

-- class j is in the label with k where it was in it, or is k
pub has-insert : (l : List ℕ) (k j : ℕ) → k / 64 < length l → label_has (insert_bit l k) j ≡ (label_has l j || eqb k j)
unfolding label_has insert_bit
has-insert l k j h = by_cases (j / 64) (k / 64) here else
  where
    here : j / 64 ≡ k / 64 → bit (get_or (set l (k / 64) (bit_or (get_or l (k / 64) 0) (2 ^ (k % 64)))) (j / 64) 0) (j % 64) ≡ (bit (get_or l (j / 64) 0) (j % 64) || eqb k j)
    here e =
        rw (e, get_or-set_same l (k / 64) (bit_or (get_or l (k / 64) 0) (2 ^ (k % 64))) 0 h)
        (bit-or (get_or l (k / 64) 0) (2 ^ (k % 64)) (j % 64) ∙ ap (λ (b : Bool). bit (get_or l (k / 64) 0) (j % 64) || b) (bit-pow (k % 64) (j % 64) ∙ same_rest k j e))

    else : (j / 64 ≡ k / 64 → ⊥) → bit (get_or (set l (k / 64) (bit_or (get_or l (k / 64) 0) (2 ^ (k % 64)))) (j / 64) 0) (j % 64) ≡ (bit (get_or l (j / 64) 0) (j % 64) || eqb k j)
    else n = rw (get_or-set_other l (k / 64) (j / 64) (bit_or (get_or l (k / 64) 0) (2 ^ (k % 64))) 0 n, ne_eqb k j (λ e. n (sym (ap (λ (m : ℕ). m / 64) e)))) (sym (or-false (bit (get_or l (j / 64) 0) (j % 64))))

pub has_all : (l ks : List ℕ) (j : ℕ) → ((i : ℕ) → i < length ks → get_or ks i 0 / 64 < length l) → label_has (insert_all l ks) j ≡ (label_has l j || has ks j)
unfolding insert_all has
has_all l [] j fit = sym (or-false (label_has l j))
has_all l (k ∷ ks) j fit =
    has_all (insert_bit l k) ks j (λ (i : ℕ) (b : i < length ks). rw (length-insert l k) (fit (suc i) (omega (arith, b))))
    ∙ ap (λ (x : Bool). x || has ks j) (has-insert l k j (fit zero (omega arith))) ∙ or_assoc (label_has l j) (eqb k j) (has ks j)

pub zero_word : (w i : ℕ) → get_or {A = ℕ} (replicate w 0) i 0 ≡ 0
zero_word w i =
    ⊎_elim (λ (h : i < w). get_or-replicate w i 0 0 h) (λ (h : w ≤ i). get_or-eq_default (replicate w 0) 0 (omega (arith, h, length-replicate {A = ℕ} w 0))) (lt-or-le i w)

pub none_has : (w k : ℕ) → label_has (replicate w 0) k ≡ false
unfolding label_has
none_has w k = rw (zero_word w (k / 64), zero-div (2 ^ (k % 64)))

-- the label of a row has exactly the classes of the row
pub has-label : (w : ℕ) (ks : List ℕ) (j : ℕ) → ((i : ℕ) → i < length ks → get_or ks i 0 / 64 < w) → label_has (label_of w ks) j ≡ has ks j
unfolding label_of
has-label w ks j fit = has_all (replicate w 0) ks j (λ (i : ℕ) (b : i < length ks). rw (length-replicate {A = ℕ} w 0) (fit i b)) ∙ rw (none_has w j)

-- words of a join
join-later : (l f : List ℕ) (n i : ℕ) → n ≤ i → get_or (join_to l f n) i 0 ≡ get_or l i 0
unfolding join_to
join-later l f zero i h = refl
join-later l f (suc n) i h = get_or-set_other (join_to l f n) n i _ 0 (λ e. omega (arith, e, h)) ∙ join-later l f n i (omega (arith, h))

pub join-word : (l f : List ℕ) (n i : ℕ) → i < n → n ≤ length l → get_or (join_to l f n) i 0 ≡ bit_or (get_or l i 0) (get_or f i 0)
unfolding join_to
join-word l f zero i h k = absurd (omega (arith, h))
join-word l f (suc n) i h k =
    by_cases i n
    (λ (e : i ≡ n). rw (e, get_or-set_same (join_to l f n) n (bit_or (get_or (join_to l f n) n 0) (get_or f n 0)) 0 (omega (arith, length-join-to l f n, k)), join-later l f n n (omega arith)))
    (λ d. get_or-set_other (join_to l f n) n i _ 0 d ∙ join-word l f n i (omega (arith, h, d)) (omega (arith, k)))

-- a join has exactly what either has
pub has-joined : (l f : List ℕ) (j : ℕ) → j / 64 < length l → label_has (joined l f) j ≡ (label_has l j || label_has f j)
unfolding label_has joined
has-joined l f j h = rw (join-word l f (length l) (j / 64) h (omega arith)) (bit-or (get_or l (j / 64) 0) (get_or f (j / 64) 0) (j % 64))

-- a label's class, read off the buffer
pub label-member : (w n : ℕ) (buf : List ℕ) (e k : ℕ) → e < n → k / 64 < w → label_has (get_or (rows_of w n buf) e []) k ≡ member_in buf w e k
unfolding label_has member_in
label-member w n buf e k h l = rw (rows_at w n buf e h, row_word w buf (e * w) (k / 64) l)
