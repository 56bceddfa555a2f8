-- The table of remembered judgements.
--     fresh-memo      a table of zeros has none
--     blank           zeros are one
--     recalled-right  what a right table has is right
--     stored-right    a right table with one more right judgement is right
use Prim.Native.Nat.{ℕ, zero, suc, ◌+◌, ◌*◌, ◌/◌, ◌%◌, ◌<◌, ◌≤◌}
use mathlib.Core.Bool.{Bool, true, false, cond}
use mathlib.Core.Path.{◌≡◌, refl, sym, ap, ◌∙◌}
use mathlib.Core.Logic.{⊎_elim}
use mathlib.Core.List.{List}
use native.Mathlib.Nat.{div-add-mod', mod-lt, mul-le-mul, eq-or-lt_of_le}
use native.Mathlib.Omega.{arith}
use borrow.Author.Tests.{eqb-true, eq-eqb, ne_eqb, lt-ltb, le-ltb}
use lib.Arith.{digits_div, digits_mod}
use lib.Dec.{eqb, ltb}
use lib.ListN.{length, get_or, set, length-set, replicate, length-replicate}
use lib.Seq.{get_or-set_same, get_or-set_other}
use Rattle.deck.specs.Deck.{Deck}
use Rattle.deck.proofs.CaseLaws.{lt-or-le}
use Rattle.eval.specs.declared.judgement.Construct.TheVariants as construct
use Rattle.eval.specs.declared.judgement.Judgement.{Judgement}
use Rattle.eval.specs.declared.judgement.Judgement.TheVariants.{False, True, Unresolved}
use Rattle.std.proofs.Common.{Option, Some, None}
use Rattle.eval.specs.Equipped.{Blank}
use Rattle.eval.specs.Judge.{judge}
use Rattle.eval.specs.Memo.{judgement_of, code_of, key_of, word_for, recalled, stored, Remembers}
use Rattle.eval.specs.Structure.{Structure}
use Rattle.eval.proofs.Clash.{clash}

by_cases : {C : Type 0} (a b : ℕ) → (a ≡ b → C) → ((a ≡ b → ⊥) → C) → C
by_cases a b f g = ⊎_elim (λ (l : a < b). g (λ e. omega (arith, e, l))) (λ (h : b ≤ a). ⊎_elim (λ (e : b ≡ a). f (sym e)) (λ (l : b < a). g (λ e. omega (arith, e, l))) (eq-or-lt_of_le h)) (lt-or-le a b)

-- ---- keys
-- the key of 32-bit numbers fits 64 bits
pub key_fits : {n c e : ℕ} → n < 4294967296 → c < 4294967296 → e < 4294967296 → c * n + e < 18446744073709551616
key_fits {n} {c} {e} hn hc he =
    let p : c * n ≤ 4294967295 * 4294967295 = mul-le-mul {n₁ = c} {m₁ = n} {n₂ = 4294967295} {m₂ = 4294967295} (omega (arith, hc)) (omega (arith, hn)) in
    omega (arith, p, he)

-- a number is its quotient and its rest
same_number : (m k l : ℕ) → k / m ≡ l / m → k % m ≡ l % m → k ≡ l
same_number m k l q r = sym (div-add-mod' k m) ∙ rw (q, r) (div-add-mod' l m)

key-concept : (n c e d f : ℕ) → e < n → f < n → key_of n c e ≡ key_of n d f → c ≡ d
key-concept n c e d f he hf q = sym (digits_div c he) ∙ ap (λ (x : ℕ). x / n) q ∙ digits_div d hf

key-element : (n c e d f : ℕ) → e < n → f < n → key_of n c e ≡ key_of n d f → e ≡ f
key-element n c e d f he hf q = sym (digits_mod c he) ∙ ap (λ (x : ℕ). x % n) q ∙ digits_mod d hf

-- ---- codes
pub code_fits : (j : Judgement) → code_of j < 16
code_fits False = omega arith
code_fits True = omega arith
code_fits (Unresolved construct.Nominal) = omega arith
code_fits (Unresolved construct.SelfRestriction) = omega arith
code_fits (Unresolved construct.Not) = omega arith
code_fits (Unresolved construct.Or) = omega arith
code_fits (Unresolved construct.InverseSome) = omega arith
code_fits (Unresolved construct.All) = omega arith
code_fits (Unresolved construct.Min) = omega arith
code_fits (Unresolved construct.Max) = omega arith

code_is : (j : Judgement) → judgement_of (code_of j) ≡ Some j
code_is False = refl
code_is True = refl
code_is (Unresolved construct.Nominal) = refl
code_is (Unresolved construct.SelfRestriction) = refl
code_is (Unresolved construct.Not) = refl
code_is (Unresolved construct.Or) = refl
code_is (Unresolved construct.InverseSome) = refl
code_is (Unresolved construct.All) = refl
code_is (Unresolved construct.Min) = refl
code_is (Unresolved construct.Max) = refl

module _ (memo : List ℕ) {k n : ℕ} (is : k ≡ n) where
  pub recalled-miss : (get_or memo (k % length memo) 0 / 16 ≡ k / length memo → ⊥) → None ≡ recalled memo n
  unfolding recalled word_for
  recalled-miss h = rw (← is, ne_eqb (get_or memo (k % length memo) 0 / 16) (k / length memo) h)

  pub recalled-hit : {r : Option Judgement} → get_or memo (k % length memo) 0 / 16 ≡ k / length memo → r ≡ judgement_of (get_or memo (k % length memo) 0 % 16) → r ≡ recalled memo n
  unfolding recalled word_for
  recalled-hit h q = q ∙ rw (← is, eq-eqb (get_or memo (k % length memo) 0 / 16) (k / length memo) h)

module _ (memo : List ℕ) (k d : ℕ) where
  pub stored-none : 4096 ≤ k / length memo → memo ≡ stored memo k d
  unfolding stored
  stored-none h = rw (le-ltb (k / length memo) 4096 h)

  pub stored-put : k / length memo < 4096 → set memo (k % length memo) (k / length memo * 16 + d) ≡ stored memo k d
  unfolding stored
  stored-put h = rw (lt-ltb (k / length memo) 4096 h)

-- ---- the table
-- a table of zeros
same : (z n i : ℕ) → get_or (replicate n z) i z ≡ z
same z zero i = refl
same z (suc n) zero = refl
same z (suc n) (suc i) = same z n i

pub blank : (n : ℕ) → 0 < n → Blank (replicate n 0)
blank n h = record { room = omega (arith, h, length-replicate {A = ℕ} n 0); zero = same 0 n }

pub fresh-memo : (D : Deck) (S : Structure) (memo : List ℕ) → 0 < length memo → ((i : ℕ) → get_or memo i 0 ≡ 0) → Remembers D S memo
unfolding word_for
fresh-memo D S memo h z = record {
  room = h;
  right = λ c e l q p. let k : ℕ = key_of S.size c e in absurd (omega (arith, p, z (k % length memo)));
}

module _ (D : Deck) (S : Structure) {memo : List ℕ} (R : Remembers D S memo) (c e : ℕ) (h : e < S.size) where
  abbrev k : ℕ
  k = key_of S.size c e

  pub recalled-right : (r : Option Judgement) → r ≡ recalled memo k → (j : Judgement) → r ≡ Some j → j ≡ judge D S c e
  unfolding recalled
  recalled-right r p j q = go (eqb (word_for memo k / 16) (k / length memo)) refl (sym q ∙ p)
    where
      go : (a : Bool) → eqb (word_for memo k / 16) (k / length memo) ≡ a → Some j ≡ cond a (judgement_of (word_for memo k % 16)) None → j ≡ judge D S c e
      go true x z = coded (word_for memo k % 16) refl z
        where
          coded : (d : ℕ) → word_for memo k % 16 ≡ d → Some j ≡ judgement_of (word_for memo k % 16) → j ≡ judge D S c e
          coded zero y u = clash (cc (rw y at u))
          coded (suc d) y u = let w = R.right c e h (eqb-true (word_for memo k / 16) (k / length memo) x) (omega (arith, y)) in cc (u, w)
      go false x z = clash (cc)

  module _ (d : ℕ) (fits : d < 16) (right : judgement_of d ≡ Some (judge D S c e)) where
    abbrev m : ℕ
    m = length memo

    abbrev put : List ℕ
    put = set memo (k % m) (k / m * 16 + d)

    put-size : length put ≡ m
    put-size = length-set memo (k % m) (k / m * 16 + d)

    word-here : (x : ℕ) → x % m ≡ k % m → word_for put x ≡ k / m * 16 + d
    unfolding word_for
    word-here x s = rw (put-size, s) (get_or-set_same memo (k % m) (k / m * 16 + d) 0 (mod-lt k R.room))

    word_else : (x : ℕ) → (x % m ≡ k % m → ⊥) → word_for put x ≡ word_for memo x
    unfolding word_for
    word_else x n = rw put-size (get_or-set_other memo (k % m) (x % m) (k / m * 16 + d) 0 n)

    put_right : Remembers D S put
    put_right = record {
      room = rw put-size R.room;
      right = λ a b l q p. by_cases (key_of S.size a b % m) (k % m) (here a b l q) (else a b l q p);
    }
      where
        here : (a b : ℕ) → b < S.size
            → word_for put (key_of S.size a b) / 16 ≡ key_of S.size a b / length put
            → key_of S.size a b % m ≡ k % m
            → judgement_of (word_for put (key_of S.size a b) % 16) ≡ Some (judge D S a b)
        here a b l q s =
            let x : ℕ = key_of S.size a b in
            let w = word-here x s in
            let whole : (k / m * 16 + d) / 16 ≡ k / m = digits_div (k / m) fits in
            let code : word_for put x % 16 ≡ d = ap (λ (y : ℕ). y % 16) w ∙ digits_mod (k / m) fits in
            let same = same_number m x k (sym (sym whole ∙ ap (λ (y : ℕ). y / 16) (sym w) ∙ q ∙ ap (λ (y : ℕ). x / y) put-size)) s in
            ap judgement_of code ∙ right ∙ rw (key-concept S.size a b c e l h same, key-element S.size a b c e l h same)

        else : (a b : ℕ) → b < S.size
            → word_for put (key_of S.size a b) / 16 ≡ key_of S.size a b / length put
            → 0 < word_for put (key_of S.size a b) % 16
            → (key_of S.size a b % m ≡ k % m → ⊥)
            → judgement_of (word_for put (key_of S.size a b) % 16) ≡ Some (judge D S a b)
        else a b l q p n =
            let x : ℕ = key_of S.size a b in
            let w = word_else x n in
            ap (λ (y : ℕ). judgement_of (y % 16)) w ∙ R.right a b l (ap (λ (y : ℕ). y / 16) (sym w) ∙ q ∙ ap (λ (y : ℕ). x / y) put-size) (rw w at p)

    code-stored : Remembers D S (stored memo k d)
    unfolding stored
    code-stored = go (ltb (k / m) 4096)
      where
        go : (b : Bool) → Remembers D S (cond b put memo)
        go true = put_right
        go false = R

  pub stored-right : (j : Judgement) → j ≡ judge D S c e → Remembers D S (stored memo k (code_of j))
  stored-right j q = code-stored (code_of j) (code_fits j) (code_is j ∙ ap (λ (i : Judgement). Some i) q)
