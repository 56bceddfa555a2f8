-- From hypotheses that clash, anything: `clash (cc)`.
use Prim.Native.Nat.{ℕ}
use mathlib.Core.Bool.{Bool, true, false, ◌&&◌}
use mathlib.Core.Path.{◌≡◌, refl}
use native.Mathlib.Omega.{arith}

pub clash : {X : Type 0} → ◌≡◌ {A = ℕ} 0 1 → X
clash e = absurd (omega arith)

-- a test that is true and false
pub both_ways : {b : Bool} → b ≡ true → b ≡ false → ⊥
both_ways p q = clash (cc)

-- two tests that are both true, and not
pub both_true : (a b : Bool) → (a && b) ≡ true → (a ≡ true) × (b ≡ true)
both_true true true e = (refl, refl)
both_true true false e = clash (cc)
both_true false b e = clash (cc)

pub not-both : (a b : Bool) → (a && b) ≡ false → a ≡ true → b ≡ true → ⊥
not-both true true e p q = clash (cc)
not-both true false e p q = clash (cc)
not-both false b e p q = clash (cc)
