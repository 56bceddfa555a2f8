-- An axiom that was read, by its tag: what its fields are, and what its verdict says.
use Prim.Native.Nat.{ℕ, ◌+◌, ◌-◌, ◌<◌, ◌≤◌}
use mathlib.Core.Path.{◌≡◌, refl, ap, ◌∙◌}
use mathlib.Core.List.{List}
use native.Mathlib.Omega.{arith}
use Rattle.deck.specs.declared.axioms.AxiomRecord.{AxiomRecord}
use Rattle.deck.specs.Deck.{Deck, axiom_at, concept_count}
use Rattle.deck.specs.Records.{axiom_form}
use Rattle.deck.specs.Content.{deck_of, axiom_of, make_axiom}
use Rattle.deck.specs.Reads.{AxiomRead, FormFits}
use Rattle.deck.proofs.CaseLaws.{Cases, case_at}
use Rattle.deck.proofs.SoundLaws.{sound}
use Rattle.eval.specs.declared.shape.Shape.{Shape}
use Rattle.eval.specs.declared.verdict.Verdict.{Verdict}
use Rattle.eval.specs.declared.verdict.Unhandled.TheVariants.{Variety}
use Rattle.eval.specs.declared.verdict.Verdict.TheVariants.{Holds, UnhandledAxiom}
use Rattle.eval.specs.Structure.{Structure}
use Rattle.eval.specs.Lent.{Fits, structure_of}
use Rattle.eval.specs.Verdict.{verdict}
use Rattle.eval.specs.Justified.{Justified}
use Rattle.eval.proofs.JustifiedLaws.{justified}

-- ---- tags that no check is made for
module _ (D : Deck) (S : Structure) (s : List ℕ) (x y z : ℕ) where
  -- the tag k above a first one
  Left : ℕ → Type 0
  Left k = UnhandledAxiom (13 + k) Variety ≡ verdict D S (axiom_of s (13 + k) x y z)

  left_open : Cases Left 10
  unfolding Left axiom_of make_axiom verdict
  left_open = ((((((((((tt, refl), refl), refl), refl), refl), refl), refl), refl), refl), refl)

  pub unhandled : (tag : ℕ) → 13 ≤ tag → tag < 23 → UnhandledAxiom tag Variety ≡ verdict D S (axiom_of s tag x y z)
  unfolding Left
  unhandled tag h k = let e : 13 + (tag - 13) ≡ tag = omega arith in rw e at (case_at Left 10 (tag - 13) left_open (omega arith))

  Declared : ℕ → Type 0
  Declared k = Holds ≡ verdict D S (axiom_of s (23 + k) x y z)

  all-declared : Cases Declared 3
  unfolding Declared axiom_of make_axiom verdict
  all-declared = (((tt, refl), refl), refl)

  pub declaration : (tag : ℕ) → 23 ≤ tag → tag < 26 → Holds ≡ verdict D S (axiom_of s tag x y z)
  unfolding Declared
  declaration tag h k = let e : 23 + (tag - 23) ≡ tag = omega arith in rw e at (case_at Declared 3 (tag - 23) all-declared (omega arith))

-- ---- what was read, where its tag is known
module _ (s : List ℕ) (r : AxiomRecord) (k : ℕ) (e : r.tag ≡ k) where
  pub fits-at : FormFits s (concept_count (deck_of s)) (axiom_form r.tag) r.first r.second r.third → FormFits s (concept_count (deck_of s)) (axiom_form k) r.first r.second r.third
  fits-at f = rw e at f

  pub verdict-at : (S : Structure) {v : Verdict} → v ≡ verdict (deck_of s) S (axiom_of s k r.first r.second r.third) → v ≡ verdict (deck_of s) S (axiom_of s r.tag r.first r.second r.third)
  verdict-at S p = rw e p

-- of the tags 4 to 12, the one that no arm names
from-seven : (n : ℕ) → 4 ≤ n → (n ≡ 4 → ⊥) → (n ≡ 5 → ⊥) → (n ≡ 6 → ⊥) → 7 ≤ n
from-seven n h a b c = omega (arith, a, b, c)

below-ten : (n : ℕ) → n < 13 → (n ≡ 10 → ⊥) → (n ≡ 11 → ⊥) → (n ≡ 12 → ⊥) → n < 10
below-ten n h a b c = omega (arith, a, b, c)

between : (n : ℕ) → 7 ≤ n → n < 10 → (n ≡ 8 → ⊥) → (n ≡ 9 → ⊥) → n ≡ 7
between n h k a b = omega (arith, a, b)

pub only-seven : (n : ℕ) → 4 ≤ n → n < 13 → (n ≡ 4 → ⊥) → (n ≡ 5 → ⊥) → (n ≡ 6 → ⊥) → (n ≡ 8 → ⊥) → (n ≡ 9 → ⊥) → (n ≡ 10 → ⊥) → (n ≡ 11 → ⊥) → (n ≡ 12 → ⊥) → n ≡ 7
only-seven n h k a b c d e f g i = between n (from-seven n h a b c) (below-ten n k f g i) d e

module _ (s labels : List ℕ) (rows : List (List ℕ)) (shape : Shape) (F : Fits s labels rows shape) (a : ℕ) {r : AxiomRecord} (R : AxiomRead s a r) where
  abbrev D : Deck
  D = deck_of s

  abbrev S : Structure
  S = structure_of D labels rows shape

  -- a verdict of what was read is the axiom's, and justified
  pub answer : {v : Verdict} → v ≡ verdict D S (axiom_of s r.tag r.first r.second r.third) → (v ≡ verdict D S (axiom_at D a)) × Justified D S (axiom_at D a) v
  answer p = let q = p ∙ ap (verdict D S) R.is in (q, rw q (justified D (sound s F.accepted) S (axiom_at D a)))
