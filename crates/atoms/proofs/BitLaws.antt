-- Bits of words.
-- Assumes nothing.
use mathlib.Core.Path.{◌≡◌, refl, sym, ap, ◌∙◌, subst}
use mathlib.Core.Bool.{Bool, true, false, ◌||◌, not}
use mathlib.Core.Logic.{⊎_elim}
use Prim.Native.Nat.{ℕ, zero, suc, ◌+◌, ◌*◌, ◌/◌, ◌%◌, ◌^◌, ◌-◌, ◌≤◌, ◌<◌, max}
use native.Mathlib.Nat.{one-mul, mod-eq_of_lt, pow-le-pow_right, one-le-pow, two-pow-succ, div_self, div-eq_of_lt, mul-div_cancel, mul-mod_left, pow-suc, eq-or-lt_of_le, mod-one, mod-add-div, div-div-eq-div-mul, mul-add, mul_assoc, mul-zero, mul-one, add-zero}
use native.Mathlib.Omega.{arith}
use lib.Pow.{pow-add}
use lib.Dec.{eqb}
use lib.Bits.{bit_or, or_shr, or_step}
use borrow.Author.Tests.{eq-eqb, ne_eqb}
use Rattle.deck.specs.Below.{any_below}
use Rattle.deck.proofs.CaseLaws.{lt-or-le}
use Rattle.eval.specs.Lent.{bit}
use Rattle.eval.proofs.Clash.{clash}

pub pow_below : (b n : ℕ) → b < n → 2 ^ b < 2 ^ n
pow_below b n h = omega (arith, two-pow-succ b, one-le-pow b 2 (omega arith), pow-le-pow_right {n = 2} (omega arith) {i = suc b} {j = n} h)

-- a shift that does not wrap
pub shifted : (b : ℕ) → b < 64 → 1 * 2 ^ b % 18446744073709551616 ≡ 2 ^ b
shifted b h = rw (one-mul (2 ^ b)) (mod-eq_of_lt (pow_below b 64 h))

-- ---- a bit of the union of two words
or-bit : (p q : ℕ) → p < 2 → q < 2 → eqb (max p q) 1 ≡ (eqb p 1 || eqb q 1)
or-bit zero zero a b = refl
or-bit zero (suc zero) a b = refl
or-bit zero (suc (suc q)) a b = absurd (omega (arith, b))
or-bit (suc zero) zero a b = refl
or-bit (suc zero) (suc zero) a b = refl
or-bit (suc zero) (suc (suc q)) a b = absurd (omega (arith, b))
or-bit (suc (suc p)) q a b = absurd (omega (arith, a))

max-below : (p q n : ℕ) → p < n → q < n → max p q < n
max-below p q n a b = omega arith

last_bit : (h m : ℕ) → m < 2 → (h * 2 + m) % 2 ≡ m
last_bit h m b = omega arith

or-last : (x y : ℕ) → bit_or x y % 2 ≡ max (x % 2) (y % 2)
or-last x y =
    ap (λ (n : ℕ). n % 2) (or_step x y) ∙ last_bit (bit_or (x / 2) (y / 2)) (max (x % 2) (y % 2)) (max-below (x % 2) (y % 2) 2 (omega arith) (omega arith))

pub bit-or : (a b j : ℕ) → bit (bit_or a b) j ≡ (bit a j || bit b j)
bit-or a b j =
    ap (λ (n : ℕ). eqb (n % 2) 1) (or_shr a b j) ∙ ap (λ (n : ℕ). eqb n 1) (or-last (a / 2 ^ j) (b / 2 ^ j))
    ∙ or-bit (a / 2 ^ j % 2) (b / 2 ^ j % 2) (omega arith) (omega arith)

-- ---- a power of two has one bit
pow-bit-high : (d j : ℕ) → 2 ^ (suc d + j) / 2 ^ j % 2 ≡ 0
pow-bit-high d j =
    ap (λ (n : ℕ). n / 2 ^ j % 2) (pow-add 2 (suc d) j) ∙ ap (λ (n : ℕ). n % 2) (mul-div_cancel (2 ^ suc d) (one-le-pow j 2 (omega arith)))
    ∙ ap (λ (n : ℕ). n % 2) (pow-suc 2 d) ∙ mul-mod_left (2 ^ d) 2

pub bit-pow : (b j : ℕ) → bit (2 ^ b) j ≡ eqb b j
bit-pow b j = ⊎_elim (λ (h : b < j). rw (div-eq_of_lt (pow_below b j h), ne_eqb b j (λ e. omega (arith, e, h)))) low (lt-or-le b j)
  where
    low : j ≤ b → bit (2 ^ b) j ≡ eqb b j
    low h =
        ⊎_elim (λ (e : j ≡ b). rw (e, div_self (one-le-pow b 2 (omega arith)), eq-eqb b b refl))
        (λ (l : j < b).
        let e : suc (b - suc j) + j ≡ b = omega arith in
        ap (λ (n : ℕ). eqb n 1) (subst (λ (m : ℕ). 2 ^ m / 2 ^ j % 2 ≡ 0) e (pow-bit-high (b - suc j) j)) ∙ sym (ne_eqb b j (λ q. omega (arith, q, l))))
        (eq-or-lt_of_le h)

-- ---- a word has a bit below n where its low n bits are not 0
peel : (p w : ℕ) → w % (p * 2) ≡ w % p + p * (w / p % 2)
peel p w =
    let q = w / p in
    let d : w / (p * 2) ≡ q / 2 = sym (div-div-eq-div-mul w p 2) in
    let a : p * 2 * (w / (p * 2)) ≡ p * (2 * (q / 2)) = rw d (mul_assoc p 2 (q / 2)) in
    let b : p * q ≡ p * (2 * (q / 2)) + p * (q % 2) = ap (λ (x : ℕ). p * x) (let e : q ≡ 2 * (q / 2) + q % 2 = omega arith in e) ∙ mul-add p (2 * (q / 2)) (q % 2) in
    omega (arith, mod-add-div w p, mod-add-div w (p * 2), a, b)

two : (m : ℕ) → m < 2 → (m ≡ 0 → ⊥) → m ≡ 1
two m h n = omega (arith, h, n)

-- ---- words whose bits below n agree have the same low part
same-digit : (p q : ℕ) → p < 2 → q < 2 → eqb p 1 ≡ eqb q 1 → p ≡ q
same-digit zero zero a b e = refl
same-digit zero (suc zero) a b e = clash (cc)
same-digit zero (suc (suc q)) a b e = absurd (omega (arith, b))
same-digit (suc zero) zero a b e = clash (cc)
same-digit (suc zero) (suc zero) a b e = refl
same-digit (suc zero) (suc (suc q)) a b e = absurd (omega (arith, b))
same-digit (suc (suc p)) q a b e = absurd (omega (arith, a))

pub same_low : (x y n : ℕ) → ((j : ℕ) → j < n → bit x j ≡ bit y j) → x % 2 ^ n ≡ y % 2 ^ n
same_low x y zero h = mod-one x ∙ sym (mod-one y)
same_low x y (suc n) h =
    let e : x / 2 ^ n % 2 ≡ y / 2 ^ n % 2 = same-digit (x / 2 ^ n % 2) (y / 2 ^ n % 2) (omega arith) (omega arith) (h n (omega arith)) in
    let l : x % 2 ^ n ≡ y % 2 ^ n = same_low x y n (λ j b. h j (omega (arith, b))) in
    rw (pow-suc 2 n, peel (2 ^ n) x, peel (2 ^ n) y, l, e)

pub any-bits : (w n : ℕ) → any_below (bit w) n ≡ not (eqb (w % 2 ^ n) 0)
unfolding any_below
any-bits w zero = rw (mod-one w)
any-bits w (suc n) = rw (any-bits w n, pow-suc 2 n, peel (2 ^ n) w) (go (w % 2 ^ n) (2 ^ n) (w / 2 ^ n % 2) (one-le-pow n 2 (omega arith)) (omega arith))
  where
    go : (r p b : ℕ) → 1 ≤ p → b < 2 → (not (eqb r 0) || eqb b 1) ≡ not (eqb (r + p * b) 0)
    go r p zero h l = rw (mul-zero p, add-zero r) (or-false (not (eqb r 0)))
      where
        or-false : (x : Bool) → (x || false) ≡ x
        or-false true = refl
        or-false false = refl
    go r p (suc zero) h l = rw (mul-one p, ne_eqb (r + p) 0 (λ e. omega (arith, e, h))) (or-true (not (eqb r 0)))
      where
        or-true : (x : Bool) → (x || true) ≡ true
        or-true true = refl
        or-true false = refl
    go r p (suc (suc b)) h l = absurd (omega (arith, l))
