-- What a verdict claims of its axiom, and the breaks that the checks find.
use Prim.Native.Nat.{ℕ, zero, suc, ◌<◌}
use mathlib.Core.Bool.{Bool, true, false}
use mathlib.Core.Path.{◌≡◌, refl}
use mathlib.Core.List.Sublistᴰ
use mathlib.Core.List.{List, [], ◌∷◌}
use native.Mathlib.Omega.{arith}
use Rattle.eval.proofs.Clash.{clash}
use lib.ListN.{get_or}
use Rattle.deck.specs.Deck.{Deck, Role, Axiom}
use Rattle.eval.specs.declared.judgement.Judgement.{Judgement}
use Rattle.eval.specs.declared.judgement.Judgement.TheVariants.{False, True, Unresolved}
use Rattle.eval.specs.declared.verdict.Verdict.{Verdict}
use Rattle.eval.specs.declared.verdict.Verdict.TheVariants.{Holds, Fails, UnhandledAxiom, UnhandledConcept, GuardedRoleHasEdges}
use Rattle.eval.specs.Structure.{Structure, has_pair}
use Rattle.eval.specs.Judge.{Right, decided}
use Rattle.eval.specs.Verdict.{implies, witnesses_of}
use Rattle.eval.specs.Truth.{Choice, AtOne, AtTwo, AtThree, AtChain, Break, True as IsTrue, FalseAt}

-- what a verdict claims: Holds, the axiom is true; Fails, it is false at the witnesses
abbrev pub Claims : Deck → Structure → Choice → Axiom → Verdict → Type 0
Claims D S χ a Holds = IsTrue D S χ a
Claims D S χ a (Fails w) = FalseAt D S χ a (witnesses_of w)
Claims D S χ a (UnhandledAxiom tag part) = Unit {0}
Claims D S χ a (UnhandledConcept tag) = Unit {0}
Claims D S χ a (GuardedRoleHasEdges r) = Unit {0}

-- ---- an implication that is True has no break, and one that is False is one
pub implies_true : (a b : Judgement) (x y : Bool) → Right a x → Right b y → implies a b ≡ True → x ≡ true → y ≡ false → ⊥
implies_true a True x y r t h p q = clash (cc)
implies_true False False x y r t h p q = clash (cc)
implies_true True False x y r t h p q = clash (cc)
implies_true (Unresolved v) False x y r t h p q = clash (cc)
implies_true False (Unresolved u) x y r t h p q = clash (cc)
implies_true True (Unresolved u) x y r t h p q = clash (cc)
implies_true (Unresolved v) (Unresolved u) x y r t h p q = clash (cc)

pub implies-false : (a b : Judgement) (x y : Bool) → Right a x → Right b y → implies a b ≡ False → (x ≡ true) × (y ≡ false)
implies-false a True x y r t h = clash (cc)
implies-false False False x y r t h = clash (cc)
implies-false True False x y r t h = (r, t)
implies-false (Unresolved v) False x y r t h = clash (cc)
implies-false False (Unresolved u) x y r t h = clash (cc)
implies-false True (Unresolved u) x y r t h = clash (cc)
implies-false (Unresolved v) (Unresolved u) x y r t h = clash (cc)

pub implies-decided : (a b : Judgement) → decided a ≡ true → decided b ≡ true → decided (implies a b) ≡ true
implies-decided a True d e = refl
implies-decided False False d e = refl
implies-decided True False d e = refl
implies-decided (Unresolved v) False d e = d
implies-decided False (Unresolved u) d e = refl
implies-decided True (Unresolved u) d e = e
implies-decided (Unresolved v) (Unresolved u) d e = e

-- ---- what a right judgement says
pub right-true : {j : Judgement} {b : Bool} → Right j b → j ≡ True → b ≡ true
right-true {j} {b} r e = let h : Right True b = rw e at r in h

pub right-false : {j : Judgement} {b : Bool} → Right j b → j ≡ False → b ≡ false
right-false {j} {b} r e = let h : Right False b = rw e at r in h

-- ---- breaks at one element, at two, at three
pub at_one : {n : ℕ} {P : ℕ → Type 0} (x : ℕ) → x < n → P x → AtOne n P (x ∷ [])
at_one x h p = record { x = x; is = refl; x-in = h; breaks = p }

pub at-two : {n : ℕ} {P : ℕ → ℕ → Type 0} (x y : ℕ) → x < n → y < n → P x y → AtTwo n P (x ∷ y ∷ [])
at-two x y h k p = record { x = x; y = y; is = refl; x-in = h; y-in = k; breaks = p }

pub at-three : {n : ℕ} {P : ℕ → ℕ → ℕ → Type 0} (x y z : ℕ) → x < n → y < n → z < n → P x y z → AtThree n P (x ∷ y ∷ z ∷ [])
at-three x y z h k l p = record { x = x; y = y; z = z; is = refl; x-in = h; y-in = k; z-in = l; breaks = p }

-- along a chain of two links
pub at-chain : (D : Deck) (S : Structure) (a b sup : Role) (x y z : ℕ) → x < S.size → y < S.size → z < S.size
    → has_pair D S a x y ≡ true → has_pair D S b y z ≡ true → has_pair D S sup x z ≡ false → AtChain D S (a ∷ b ∷ []) sup (x ∷ y ∷ z ∷ [])
at-chain D S a b sup x y z h k l p q r = record { long = refl; all_in = all; linked = link; ends = r }
  where
    all : (i : ℕ) → i < 3 → get_or (x ∷ y ∷ z ∷ []) i 0 < S.size
    all zero g = h
    all (suc zero) g = k
    all (suc (suc zero)) g = l
    all (suc (suc (suc i))) g = absurd (omega arith)

    link : (i : ℕ) → i < 2 → has_pair D S (get_or (a ∷ b ∷ []) i (Role.Named 0)) (get_or (x ∷ y ∷ z ∷ []) i 0) (get_or (x ∷ y ∷ z ∷ []) (suc i) 0) ≡ true
    link zero g = p
    link (suc zero) g = q
    link (suc (suc i)) g = absurd (omega arith)

-- ---- an axiom is false at its break, and at a part of it
module _ (D : Deck) (S : Structure) (χ : Choice) (a : Axiom) where
  pub false-at : (ws : List ℕ) → Break D S χ a ws → FalseAt D S χ a ws
  false-at ws b = record { elements = ws; break = b; stand = Sublistᴰ.refl ws }

  pub false-from : (x y : ℕ) → Break D S χ a (x ∷ y ∷ []) → FalseAt D S χ a (x ∷ [])
  false-from x y b = record { elements = x ∷ y ∷ []; break = b; stand = Sublistᴰ.cons-cons refl (Sublistᴰ.cons Sublistᴰ.slnil) }

  pub false-to : (x y : ℕ) → Break D S χ a (x ∷ y ∷ []) → FalseAt D S χ a (y ∷ [])
  false-to x y b = record { elements = x ∷ y ∷ []; break = b; stand = Sublistᴰ.cons (Sublistᴰ.cons-cons refl Sublistᴰ.slnil) }
