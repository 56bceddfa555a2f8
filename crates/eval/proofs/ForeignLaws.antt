-- A lent structure that fits the deck:
--     label_is       the bits of a label at or past N are looked at in one word at once
--     fits           what passes the test fits, as judging asks
-- Assumes nothing.
use Prim.Native.Nat.{ℕ, zero, suc, ◌+◌, ◌-◌, ◌*◌, ◌/◌, ◌%◌, ◌^◌, ◌<◌, ◌≤◌}
use mathlib.Core.Bool.{Bool, true, false, not, ◌&&◌}
use mathlib.Core.Path.{◌≡◌, refl, sym, ap, ◌∙◌}
use mathlib.Core.List.{List, []}
use native.Mathlib.Nat.{zero-div, mod-lt, mul-le-mul}
use native.Mathlib.Numerals.{one-add}
use native.Mathlib.Omega.{arith}
use borrow.Author.Tests.{eq-eqb, ne_eqb, eqb-false, leb-true, ltb-true, not-true}
use lib.Dec.{eqb, leb, ltb}
use lib.ListN.{length, get_or}
use lib.Pow.{pow_pos, shr-shr, shr_lt, split}
use Rattle.deck.specs.Below.{all_below}
use Rattle.deck.specs.Deck.{Deck, class_count, role_count}
use Rattle.deck.specs.Content.{IsAccepted, deck_of}
use Rattle.deck.proofs.BelowLaws.{and_left, and_right, all_none, all_of, all-at}
use Rattle.eval.specs.declared.edges.Edge.{Edge}
use Rattle.eval.specs.declared.shape.Shape.{Shape}
use Rattle.eval.specs.Edges.{edge_of}
use Rattle.eval.specs.Lent.{Fits, EdgeFits, label_width, bit, member_in}
use Rattle.eval.specs.Foreign.{counts_fit, edge_fits, edges_fit, label_fits, structure_fits}
use Rattle.eval.proofs.Clash.{both_ways}

all_same : (p q : ℕ → Bool) (n : ℕ) → ((i : ℕ) → i < n → p i ≡ q i) → all_below p n ≡ all_below q n
unfolding all_below
all_same p q zero h = refl
all_same p q (suc n) h = rw (all_same p q n (λ i l. h i (omega arith)), h n (omega arith))

-- ---- bits
-- bits 0 to n - 1 are not set
abbrev clear : ℕ → ℕ → Bool
clear u n = all_below (λ j. not (bit u j)) n

zero_clear : (n : ℕ) → clear 0 n ≡ true
zero_clear n = all_of (λ j. not (bit 0 j)) n (λ j l. rw zero-div)

even-zero : (q : ℕ) → q < 2 → (q % 2 ≡ 1 → ⊥) → q ≡ 0
even-zero q l h = omega arith

below : (u n : ℕ) → u / 2 ^ n ≡ 0 → u < 2 ^ n
below u n q =
    let e : 0 * 2 ^ n + u % 2 ^ n ≡ u = rw q at (split u n) in
    omega (arith, e, mod-lt u (pow_pos n))

clear_zero : (u n : ℕ) → u < 2 ^ n → clear u n ≡ true → u ≡ 0
unfolding all_below
clear_zero u zero l h = omega arith
clear_zero u (suc n) l h =
    let p : ℕ → Bool = λ j. not (bit u j) in
    let small : u / 2 ^ n < 2 = shr_lt 1 n (rw one-add l) in
    let q : u / 2 ^ n ≡ 0 = even-zero (u / 2 ^ n) small (eqb-false (u / 2 ^ n % 2) 1 (not-true _ (and_right (all_below p n) (p n) h))) in
    clear_zero u n (below u n q) (and_left (all_below p n) (p n) h)

-- a number below 2 ^ n has no bit below n exactly if it is 0
clear-is : (u n : ℕ) → u < 2 ^ n → clear u n ≡ eqb u 0
clear-is u n l = go (clear u n) refl
  where
    go : (b : Bool) → clear u n ≡ b → clear u n ≡ eqb u 0
    go true h = h ∙ sym (eq-eqb u 0 (clear_zero u n l h))
    go false h = h ∙ sym (ne_eqb u 0 (λ e. both_ways (rw e (zero_clear n)) h))

-- ---- labels
-- the words of the labels are few
pub room_small : (n w : ℕ) → n ≤ 65536 → w ≤ 64 → n * w ≤ 4194304
room_small n w l m = mul-le-mul l m

module _ (D : Deck) (labels : List ℕ) (e : ℕ) where
  abbrev N : ℕ
  N = class_count D

  -- where N is a multiple of 64, a label has no bit past N
  pub label-full : N % 64 ≡ 0 → label_fits D labels e ≡ true
  unfolding label_fits
  label-full h =
      let none : 64 * label_width D - N ≡ 0 = omega arith in
      rw none (all_none _)

  -- else they are bits of its last word
  module _ (used : (N % 64 ≡ 0) → ⊥) where
    bit_at : (j : ℕ) → j < 64 - N % 64 → member_in labels (label_width D) e (N + j) ≡ bit (get_or labels (e * label_width D + N / 64) 0 / 2 ^ (N % 64)) j
    unfolding member_in
    bit_at j l =
        let d : (N + j) / 64 ≡ N / 64 = omega arith in
        let m : (N + j) % 64 ≡ N % 64 + j = omega arith in
        rw (d, m, shr-shr)

    pub label_is : get_or labels (e * label_width D + N / 64) 0 < 2 ^ 64 → label_fits D labels e ≡ eqb (get_or labels (e * label_width D + N / 64) 0 / 2 ^ (N % 64)) 0
    unfolding label_fits
    label_is l =
        let w = get_or labels (e * label_width D + N / 64) 0 in
        let b = N % 64 in
        let left : 64 * label_width D - N ≡ 64 - b = omega arith in
        let whole : (64 - b) + b ≡ 64 = omega arith in
        rw left (all_same _ _ (64 - b) (λ j l. ap not (bit_at j l)) ∙ clear-is (w / 2 ^ b) (64 - b) (shr_lt (64 - b) b (rw whole l)))

-- ---- what a structure that passed fits
module _ (D : Deck) (labels : List ℕ) (rows : List (List ℕ)) (shape : Shape) where
  module _ (h : counts_fit D labels rows shape ≡ true) where
    rest : leb (shape.elements * label_width D) (length labels) && leb shape.edges (length rows) ≡ true
    unfolding counts_fit
    rest = and_right (leb shape.elements 65536) _ h

    pub counts-few : shape.elements ≤ 65536
    unfolding counts_fit
    counts-few = leb-true shape.elements 65536 (and_left (leb shape.elements 65536) _ h)

    pub counts-room : shape.elements * label_width D ≤ length labels
    counts-room = leb-true (shape.elements * label_width D) (length labels) (and_left (leb (shape.elements * label_width D) (length labels)) _ rest)

    pub counts-edges : shape.edges ≤ length rows
    counts-edges = leb-true shape.edges (length rows) (and_right (leb (shape.elements * label_width D) (length labels)) _ rest)

edge-fits : (D : Deck) (n : ℕ) (e : Edge) → edge_fits D n e ≡ true → EdgeFits D n e
edge-fits D n e h =
    let role = ltb e.role.0 (role_count D) in
    let from = ltb e.from.0 n in
    let ends = and_right role _ h in
    record {
      role = ltb-true e.role.0 (role_count D) (and_left role _ h);
      from = ltb-true e.from.0 n (and_left from _ ends);
      to = ltb-true e.to.0 n (and_right from _ ends);
    }

pub fits : (s labels : List ℕ) (rows : List (List ℕ)) (shape : Shape) → IsAccepted s → structure_fits (deck_of s) labels rows shape ≡ true → Fits s labels rows shape
unfolding structure_fits edges_fit
fits s labels rows shape a h =
    let D = deck_of s in
    let counts = and_left (counts_fit D labels rows shape) _ h in
    let edges = and_left (edges_fit D rows shape) _ (and_right (counts_fit D labels rows shape) _ h) in
    record {
      accepted = a;
      few = counts-few D labels rows shape counts;
      room = counts-room D labels rows shape counts;
      count = counts-edges D labels rows shape counts;
      ends = λ i l. edge-fits D shape.elements (edge_of (get_or rows i [])) (all-at (λ k. edge_fits D shape.elements (edge_of (get_or rows k []))) shape.edges edges i l);
    }
