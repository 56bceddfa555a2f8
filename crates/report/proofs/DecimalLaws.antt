-- Laws of `decimal`. Assumes nothing.
--     decimal-small  a number below 10 is its only digit
--     decimal-more   any other of at most ten digits is its tenth part and then its last digit
--     decimal-is     the fewest digits that hold a number are its digits
--     fewest-ten     for a word of 32 bits ten are enough
use mathlib.Core.Path.{◌≡◌, ap}
use mathlib.Core.Logic.{⊎_elim}
use mathlib.Core.List.{List, [], ◌∷◌, ◌++◌}
use Prim.Native.Nat.{ℕ, zero, suc, ◌*◌, ◌-◌, ◌/◌, ◌%◌, ◌^◌, ◌≤◌, ◌<◌}
use native.Mathlib.Nat.{mod-eq_of_lt, pow-suc, pow-le-pow_right, one-le-pow}
use native.Mathlib.Numerals.{sub-one}
use native.Mathlib.Omega.{arith}
use borrow.Author.Tests.{lt-ltb, le-ltb}
use Rattle.deck.proofs.CaseLaws.{lt-or-le}
use Rattle.io.specs.Digits.{last_digits, IsDigitCount}
use Rattle.report.specs.Lines.{digit, spelt, decimal}

-- room for one more digit changes nothing
spelt-same : (k n : ℕ) → n < 10 ^ suc k → spelt (suc k) n ≡ spelt (suc (suc k)) n
unfolding spelt
spelt-same zero n h = let s : n < 10 = omega (arith, h) in rw (lt-ltb n 10 s)
spelt-same (suc k) n h =
    ⊎_elim
    (λ (s : n < 10). rw (lt-ltb n 10 s))
    (λ (s : 10 ≤ n).
    let l : n / 10 < 10 ^ suc k = omega (arith, h, pow-suc 10 (suc k)) in
    rw (le-ltb n 10 s) (ap (λ (x : List ℕ). x ++ (digit (n % 10) ∷ [])) (spelt-same k (n / 10) l)))
    (lt-or-le n 10)

pub decimal-small : (n : ℕ) → n < 10 → decimal n ≡ digit n ∷ []
unfolding spelt decimal
decimal-small n h = rw (lt-ltb n 10 h)

spelt-more : (k n : ℕ) → 10 ≤ n → n < 10 ^ suc (suc k) → spelt (suc (suc k)) n ≡ spelt (suc (suc k)) (n / 10) ++ (digit (n % 10) ∷ [])
unfolding spelt
spelt-more k n h l =
    let s : n / 10 < 10 ^ suc k = omega (arith, l, pow-suc 10 (suc k)) in
    rw (le-ltb n 10 h) (ap (λ (x : List ℕ). x ++ (digit (n % 10) ∷ [])) (spelt-same k (n / 10) s))

pub decimal-more : (n : ℕ) → 10 ≤ n → n < 10000000000 → decimal n ≡ decimal (n / 10) ++ (digit (n % 10) ∷ [])
unfolding decimal
decimal-more n h l = spelt-more 8 n h l

-- the fewest digits that hold a number are its digits, whatever more there is room for
spelt_is : (k m n : ℕ) → IsDigitCount 10 1 n (suc k) → k ≤ m → last_digits 10 (suc k) n ≡ spelt (suc m) n
unfolding spelt
spelt_is zero m n f l = let h : n < 10 = omega (arith, f.1) in rw (mod-eq_of_lt h, lt-ltb n 10 h)
spelt_is (suc k) zero n f l = absurd (omega (arith, l))
spelt_is (suc k) (suc m) n f l =
    let p : 10 ^ suc k ≤ n = rw (sub-one (suc (suc k))) at (f.2 (omega arith)) in
    let q : 10 ^ suc k ≡ 10 ^ k * 10 = pow-suc 10 k in
    let q' : 10 ^ suc (suc k) ≡ 10 ^ suc k * 10 = pow-suc 10 (suc k) in
    let one : 1 ≤ 10 ^ k = one-le-pow k 10 (omega arith) in
    let h : 10 ≤ n = omega arith in
    let e = spelt_is k m (n / 10) (omega arith, omega (arith, f.1), λ s. rw (sub-one (suc k)) (omega arith)) (omega arith) in
    rw (lt-ltb (n % 10) 10 (omega arith), le-ltb n 10 h) (ap (λ (x : List ℕ). x ++ (digit (n % 10) ∷ [])) e)

-- a word of 32 bits has at most ten
pub fewest-ten : (k n : ℕ) → IsDigitCount 10 1 n k → n < 4294967296 → k ≤ 10
fewest-ten k n f h =
    ⊎_elim
    (λ (s : k < 11). omega arith)
    (λ (s : 11 ≤ k).
    let p : 10 ^ (k - 1) ≤ n = f.2 (omega arith) in
    let q : 10 ^ 10 ≤ 10 ^ (k - 1) = pow-le-pow_right {n = 10} (omega arith) {i = 10} {j = k - 1} (omega arith) in
    omega arith)
    (lt-or-le k 11)

pub decimal-is : (k n : ℕ) → IsDigitCount 10 1 n k → n < 4294967296 → last_digits 10 k n ≡ decimal n
unfolding decimal
decimal-is zero n f h = absurd (omega (arith, f.0))
decimal-is (suc k) n f h = spelt_is k 9 n f (omega (arith, fewest-ten (suc k) n f h))
