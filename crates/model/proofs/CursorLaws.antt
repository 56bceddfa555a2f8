-- Where the search for the highest element not taken begins: what it need not look at again.
use Prim.Native.Nat.{ℕ, zero, suc, ◌/◌, ◌<◌, ◌≤◌}
use mathlib.Core.Path.{◌≡◌, refl, sym, ap, ◌∙◌, subst}
use mathlib.Core.Bool.{Bool, true, false, cond, or-true}
use mathlib.Core.List.{List}
use native.Mathlib.Omega.{arith}
use lib.ListN.{length}
use lib.Dec.{eqb}
use borrow.Author.Tests.{eq-eqb, eqb-true}
use Rattle.eval.proofs.Clash.{clash}
use Rattle.atoms.specs.Label.{label_has, insert_bit}
use Rattle.model.specs.Expand.{highest}
use Rattle.atoms.proofs.MemberLaws.{has-insert}

pub cond-true : {A : Type 0} (b : Bool) (x y : A) → b ≡ true → cond b x y ≡ x
cond-true true x y h = refl
cond-true false x y h = clash (cc)

pub cond-false : {A : Type 0} (b : Bool) (x y : A) → b ≡ false → cond b x y ≡ y
cond-false true x y h = clash (cc)
cond-false false x y h = refl

pub has-own : (l : List ℕ) (k : ℕ) → k / 64 < length l → label_has (insert_bit l k) k ≡ true
has-own l k h = has-insert l k k h ∙ rw (eq-eqb k k refl) (or-true (label_has l k))

-- once it is taken, all from it on are
pub highest-after : (taken : List ℕ) (n e : ℕ) → e / 64 < length taken → highest taken n ≡ suc e → highest (insert_bit taken e) n ≡ highest (insert_bit taken e) e
unfolding highest
highest-after taken zero e b h = absurd (omega (arith, h))
highest-after taken (suc n) e b h = by (label_has taken n) refl (λ q. highest-after taken n e b q) h
  where
    by : (t : Bool) → label_has taken n ≡ t → (highest taken n ≡ suc e → highest (insert_bit taken e) n ≡ highest (insert_bit taken e) e) → cond t (highest taken n) (suc n) ≡ suc e
        → cond (label_has (insert_bit taken e) n) (highest (insert_bit taken e) n) (suc n) ≡ highest (insert_bit taken e) e
    by true q f h' = cond-true (label_has (insert_bit taken e) n) _ (suc n) (has-insert taken e n b ∙ rw q) ∙ f h'
    by false q f h' =
        let s : e ≡ n = omega (arith, h') in
        subst (λ (k : ℕ). cond (label_has (insert_bit taken e) k) (highest (insert_bit taken e) k) (suc k) ≡ highest (insert_bit taken e) e) s (cond-true (label_has (insert_bit taken e) e) _ (suc e) (has-own taken e b))

-- where the next search begins: at the last element taken, or above the elements that were added
pub highest-resume : (taken : List ℕ) (e before after : ℕ) → e / 64 < length taken → highest taken before ≡ suc e → {now : List ℕ} → now ≡ insert_bit taken e → {from : ℕ} → from ≡ cond (eqb before after) e after → highest now from ≡ highest now after
highest-resume taken e before after b q {now} p {from} r =
    ap (highest now) r ∙ ap (λ (l : List ℕ). highest l (cond (eqb before after) e after)) p ∙ by (eqb before after) refl ∙ ap (λ (l : List ℕ). highest l after) (sym p)
  where
    by : (t : Bool) → eqb before after ≡ t → highest (insert_bit taken e) (cond t e after) ≡ highest (insert_bit taken e) after
    by true w = sym (highest-after taken before e b q) ∙ ap (highest (insert_bit taken e)) (eqb-true before after w)
    by false w = refl

pub resume-below : (e before after : ℕ) → e < before → before ≤ after → {from : ℕ} → from ≡ cond (eqb before after) e after → from ≤ after
resume-below e before after h l q = rw q (by (eqb before after))
  where
    by : (t : Bool) → cond t e after ≤ after
    by true = omega (arith, h, l)
    by false = omega arith
