-- Words of bits: the next bit, a word at a time.
--     bit-and, bit-without             a bit of the common part of two words, and of one without the other
--     word-step, word-hit, pass_on     a loop from bit to bit
use Prim.Native.Nat.{ℕ, zero, suc, ◌+◌, ◌-◌, ◌*◌, ◌/◌, ◌%◌, ◌^◌, ◌<◌, ◌≤◌, min}
use mathlib.Core.Path.{◌≡◌, refl, sym, ap, ◌∙◌, subst}
use mathlib.Core.Bool.{Bool, true, false, cond, not, ◌&&◌}
use mathlib.Core.Logic.{⊎_elim}
use native.Mathlib.Nat.{zero-div, div-div-eq-div-mul}
use native.Mathlib.Omega.{arith}
use lib.Pow.{pow-add}
use lib.Bits.{bit_and, bit_xor, differ, and_shr, and_step, xor_shr, xor_step}
use lib.Dec.{eqb}
use borrow.Author.Tests.{ne_eqb, eq-eqb, eqb-true}
use Rattle.deck.proofs.CaseLaws.{lt-or-le}
use Rattle.eval.specs.Lent.{bit}

-- ---- a bit of the common part of two words
and-digit : (p q : ℕ) → p < 2 → q < 2 → eqb (min p q) 1 ≡ (eqb p 1 && eqb q 1)
and-digit zero zero a b = refl
and-digit zero (suc zero) a b = refl
and-digit zero (suc (suc q)) a b = absurd (omega (arith, b))
and-digit (suc zero) zero a b = refl
and-digit (suc zero) (suc zero) a b = refl
and-digit (suc zero) (suc (suc q)) a b = absurd (omega (arith, b))
and-digit (suc (suc p)) q a b = absurd (omega (arith, a))

min-below : (p q n : ℕ) → p < n → q < n → min p q < n
min-below p q n a b = omega arith

last_bit : (h m : ℕ) → m < 2 → (h * 2 + m) % 2 ≡ m
last_bit h m b = omega arith

and_last : (x y : ℕ) → bit_and x y % 2 ≡ min (x % 2) (y % 2)
and_last x y =
    ap (λ (n : ℕ). n % 2) (and_step x y) ∙ last_bit (bit_and (x / 2) (y / 2)) (min (x % 2) (y % 2)) (min-below (x % 2) (y % 2) 2 (omega arith) (omega arith))

pub bit-and : (a b j : ℕ) → bit (bit_and a b) j ≡ (bit a j && bit b j)
bit-and a b j =
    ap (λ (n : ℕ). eqb (n % 2) 1) (and_shr a b j) ∙ ap (λ (n : ℕ). eqb n 1) (and_last (a / 2 ^ j) (b / 2 ^ j))
    ∙ and-digit (a / 2 ^ j % 2) (b / 2 ^ j % 2) (omega arith) (omega arith)

without-digit : (p q : ℕ) → p < 2 → q < 2 → (differ p (min p q) < 2) × (eqb (differ p (min p q)) 1 ≡ (eqb p 1 && not (eqb q 1)))
without-digit zero zero a b = (omega arith, refl)
without-digit zero (suc zero) a b = (omega arith, refl)
without-digit zero (suc (suc q)) a b = absurd (omega (arith, b))
without-digit (suc zero) zero a b = (omega arith, refl)
without-digit (suc zero) (suc zero) a b = (omega arith, refl)
without-digit (suc zero) (suc (suc q)) a b = absurd (omega (arith, b))
without-digit (suc (suc p)) q a b = absurd (omega (arith, a))

without-last : (x y : ℕ) → bit_xor x (bit_and x y) % 2 ≡ differ (x % 2) (min (x % 2) (y % 2))
without-last x y =
    ap (λ (n : ℕ). n % 2) (xor_step x (bit_and x y) ∙ ap (λ (m : ℕ). bit_xor (x / 2) (bit_and x y / 2) * 2 + differ (x % 2) m) (and_last x y))
    ∙ last_bit (bit_xor (x / 2) (bit_and x y / 2)) (differ (x % 2) (min (x % 2) (y % 2))) (without-digit (x % 2) (y % 2) (omega arith) (omega arith)).0

pub bit-without : (a b j : ℕ) → bit (bit_xor a (bit_and a b)) j ≡ (bit a j && not (bit b j))
bit-without a b j =
    ap (λ (n : ℕ). eqb (n % 2) 1) (xor_shr a (bit_and a b) j ∙ ap (bit_xor (a / 2 ^ j)) (and_shr a b j)) ∙ ap (λ (n : ℕ). eqb n 1) (without-last (a / 2 ^ j) (b / 2 ^ j))
    ∙ (without-digit (a / 2 ^ j % 2) (b / 2 ^ j % 2) (omega arith) (omega arith)).1

-- no bit from b on
none_from : (w b d : ℕ) → w / 2 ^ b ≡ 0 → bit w (b + d) ≡ false
none_from w b d z =
    let y : w / 2 ^ (b + d) ≡ 0 = ap (λ (n : ℕ). w / n) (pow-add 2 b d) ∙ sym (div-div-eq-div-mul w (2 ^ b) (2 ^ d)) ∙ ap (λ (n : ℕ). n / 2 ^ d) z ∙ zero-div (2 ^ d) in
    ap (λ (n : ℕ). eqb (n % 2) 1) y

-- ---- from bit to bit: p holds where the bit stands, and from k on it holds nowhere below i
abbrev pub NoneOf : (ℕ → Bool) → ℕ → ℕ → Type 0
NoneOf p k i = (h : ℕ) → k ≤ h → h < i → p h ≡ false

module _ (p : ℕ → Bool) (word : ℕ → ℕ) (is : (i : ℕ) → p i ≡ bit (word (i / 64)) (i % 64)) (k i : ℕ) (N : NoneOf p k i) {rest : ℕ} (q : rest ≡ word (i / 64) / 2 ^ (i % 64)) where
  pub word-hit : rest % 2 ≡ 1 → p i ≡ true
  word-hit o = is i ∙ ap (λ (m : ℕ). eqb (m % 2) 1) (sym q) ∙ eq-eqb (rest % 2) 1 o

  pub word-step : (rest % 2 ≡ 1 → ⊥) → {next : ℕ} → next ≡ cond (eqb rest 0) ((i / 64 + 1) * 64) (i + 1) → NoneOf p k next
  word-step o {next} e h l u = ⊎_elim (λ (a : h < i). N h l a) (λ (a : i ≤ h). by (eqb rest 0) refl a) (lt-or-le h i)
    where
      same : (j : ℕ) → j / 64 ≡ i / 64 → i ≤ j → rest ≡ 0 → p j ≡ false
      same j s b z =
          let d : i % 64 + (j % 64 - i % 64) ≡ j % 64 = omega (arith, s, b) in
          is j ∙ ap (λ (m : ℕ). bit (word m) (j % 64)) s
          ∙ ap (bit (word (i / 64))) (sym d) ∙ none_from (word (i / 64)) (i % 64) (j % 64 - i % 64) (sym q ∙ z)

      own : p i ≡ false
      own = is i ∙ ap (λ (m : ℕ). eqb (m % 2) 1) (sym q) ∙ ne_eqb (rest % 2) 1 o

      by : (b : Bool) → eqb rest 0 ≡ b → i ≤ h → p h ≡ false
      by true z g = let v : h < (i / 64 + 1) * 64 = subst (λ (x : ℕ). h < x) (e ∙ rw z) u in same h (omega (arith, v, g)) g (eqb-true rest 0 z)
      by false z g = let v : h < i + 1 = subst (λ (x : ℕ). h < x) (e ∙ rw z) u in let y : i ≡ h = omega (arith, v, g) in subst (λ (j : ℕ). p j ≡ false) y own

pub pass_on : {rest w : ℕ} → rest ≡ w → (i : ℕ) {next : ℕ} → next ≡ cond (eqb rest 0) ((i / 64 + 1) * 64) (i + 1) → i < next
pass_on {rest} q i p = rw p (by (eqb rest 0))
  where
    by : (b : Bool) → i < cond b ((i / 64 + 1) * 64) (i + 1)
    by true = omega arith
    by false = omega arith
