-- The facts of the classes that a label has: a count goes from one class with a fact to the next.
--     joined-label                       the classes of the elements
--     facts-few                          a class has few facts
--     held-start, held-skip, held-step   the loop
--     held-enough, held-few              its ends
use Prim.Native.Nat.{ℕ, zero, suc, ◌+◌, ◌-◌, ◌*◌, ◌<◌, ◌≤◌}
use mathlib.Core.Path.{◌≡◌, refl, sym, ap, ◌∙◌}
use mathlib.Core.Bool.{Bool, true, false, cond, ◌&&◌}
use mathlib.Core.List.{List, [], ◌∷◌}
use mathlib.Core.Logic.{⊎_elim}
use native.Mathlib.Omega.{arith}
use lib.ListN.{length, get_or}
use lib.Dec.{eqb, leb}
use borrow.Author.Tests.{eqb-true, le-leb, lt-leb}
use Rattle.deck.specs.Deck.{Deck, class_count, fact_count, fact_at}
use Rattle.deck.proofs.CaseLaws.{lt-or-le}
use Rattle.eval.specs.Lists.{range, keep}
use Rattle.eval.proofs.Clash.{clash}
use Rattle.eval.proofs.ListLaws.{member-at, in-keep, in-range}
use Rattle.eval.proofs.Walks.{range-step, range-end}
use Rattle.atoms.specs.Label.{label_has, joined}
use Rattle.atoms.specs.Rows.{rows_of, row_at}
use Rattle.atoms.specs.Walk.{walk}
use Rattle.atoms.proofs.RowLaws.{rows_at, rows_more}
use Rattle.atoms.proofs.WalkLaws.{walk-keeps, walk-append}
use Rattle.model.specs.FactIndex.{Marked, Passed}
use Rattle.model.specs.FactWalk.{facts_from, and_facts, facts_held}
use Rattle.model.proofs.SkipLaws.{range-skip}

-- the labels of elements taken in: one more
abbrev pub taking : List ℕ → List ℕ → List ℕ
taking label all = joined all label

pub joined-label : (w n e : ℕ) (buf start : List ℕ) {held : List ℕ} → held ≡ walk taking (rows_of w e buf) start → e < n → {label : List ℕ} → label ≡ get_or (rows_of w n buf) e [] → {next : List ℕ} → next ≡ joined held label → next ≡ walk taking (rows_of w (e + 1) buf) start
unfolding walk
joined-label w n e buf start h b q r =
    rw (rows_more w e buf) (r ∙ rw (h, q ∙ rows_at w n buf e b) (sym (walk-append taking (rows_of w e buf) (row_at w buf (e * w) ∷ []) start)))

-- ---- the facts of a class
length-keep : (p : ℕ → Bool) (l : List ℕ) → length (keep p l) ≤ length l
unfolding keep
length-keep p [] = omega arith
length-keep p (x ∷ xs) = by (p x) (length-keep p xs)
  where
    by : (b : Bool) → length (keep p xs) ≤ length xs → length (cond b (x ∷ keep p xs) (keep p xs)) ≤ suc (length xs)
    by true h = omega (arith, h)
    by false h = omega (arith, h)

length-range : (a n : ℕ) → length (range a n) ≡ n
unfolding range
length-range a zero = refl
length-range a (suc n) = ap suc (length-range (suc a) n)

pub facts-few : (D : Deck) (k : ℕ) → length (facts_from D k 0) ≤ fact_count D
facts-few D k = omega (arith, length-keep (λ f. eqb (fact_at D f).from k) (range 0 (fact_count D - 0)), length-range 0 (fact_count D - 0))

-- no fact is of a class without its bit
unmarked : {D : Deck} {mask : List ℕ} → Marked D (fact_count D) mask → (k : ℕ) → label_has mask k ≡ false → length (facts_from D k 0) ≡ 0
unmarked {D} {mask} M k w =
    let l = facts_from D k 0 in
    ⊎_elim
    (λ (h : 0 < length l).
    let i = in-keep (λ f. eqb (fact_at D f).from k) (range 0 (fact_count D - 0)) (get_or l 0 0) (member-at 0 l 0 h) in
    clash (let y = M.marks (get_or l 0 0) (omega (arith, (in-range 0 (fact_count D - 0) (get_or l 0 0) i.0).1)) in let x : label_has mask k ≡ true = rw (eqb-true _ _ i.1) at y in cc))
    (λ (h : length l ≤ 0). let z : length l ≡ 0 = omega (arith, h) in z)
    (lt-or-le 0 (length l))

module _ (D : Deck) (held : List ℕ) where
  -- from class k on so many are counted
  abbrev pub Counted : ℕ → ℕ → Type 0
  Counted k c = walk (and_facts D held) (range 0 (class_count D)) 0 ≡ walk (and_facts D held) (range k (class_count D - k)) c

  pub held-start : Counted 0 0
  held-start = let z : class_count D - 0 ≡ class_count D = omega arith in rw z refl

  -- classes without a fact, or that the label has not, count nothing
  passed : {mask : List ℕ} → Marked D (fact_count D) mask → (k c : ℕ) → (label_has held k && label_has mask k) ≡ false → and_facts D held k c ≡ c
  passed {mask} M k c h = by (label_has held k) h
    where
      by : (b : Bool) → (b && label_has mask k) ≡ false → cond b (c + length (facts_from D k 0)) c ≡ c
      by true w = omega (arith, unmarked M k w)
      by false w = refl

  -- a count only rises
  rises : (l : List ℕ) (c : ℕ) → c ≤ walk (and_facts D held) l c
  rises l c = walk-keeps (λ s. c ≤ s) (and_facts D held) l (λ x i s q. by (label_has held x) s (length (facts_from D x 0)) q) c (omega arith)
    where
      by : (b : Bool) (s m : ℕ) → c ≤ s → c ≤ cond b (s + m) s
      by true s m q = omega (arith, q)
      by false s m q = q

  module _ (k c : ℕ) (W : Counted k c) where
    pub held-skip : {mask : List ℕ} → Marked D (fact_count D) mask → {j : ℕ} → Passed (λ i. label_has held i && label_has mask i) (class_count D) k j → Counted j c
    held-skip M {j} P = W ∙ range-skip (and_facts D held) (class_count D) c k j P.on P.most (λ i l u. passed M i c (P.none i l u))

    pub held-step : k < class_count D → label_has held k ≡ true → {m : ℕ} → m ≡ length (facts_from D k 0) → Counted (k + 1) (c + m)
    unfolding walk
    held-step h y {m} q =
        W ∙ ap (λ (l : List ℕ). walk (and_facts D held) l c) (range-step k (class_count D) h)
        ∙ ap (walk (and_facts D held) (range (k + 1) (class_count D - (k + 1)))) (rw (y, q) refl)

    pub held-enough : (least : ℕ) → least ≤ c → true ≡ leb least (facts_held D held)
    held-enough least h = sym (le-leb least (facts_held D held) (omega (arith, h, W, rises (range k (class_count D - k)) c)))

    pub held-few : (least : ℕ) → class_count D ≤ k → c < least → false ≡ leb least (facts_held D held)
    unfolding walk
    held-few least e h =
        let z : facts_held D held ≡ c = W ∙ ap (λ (l : List ℕ). walk (and_facts D held) l c) (range-end k (class_count D) e) in
        sym (lt-leb least (facts_held D held) (omega (arith, h, z)))
