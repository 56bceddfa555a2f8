-- Demand 3 in the sense of W3C OWL 2 Direct Semantics.
--     confirmed-satisfied     a confirmed run's structure satisfies every axiom, whatever elements the individuals are
-- Assumes nothing.
use Prim.Native.Nat.{ℕ}
use mathlib.Core.Path.{refl}
use mathlib.Core.List.{List}
use Rattle.deck.specs.Deck.{Deck}
use Rattle.eval.specs.Structure.{Structure}
use Rattle.eval.specs.Standard.{standard, AllSatisfied}
use Rattle.model.specs.declared.outcome.Outcome.TheVariants.{Confirmed}
use Rattle.model.specs.Trust.{Trusted}

pub confirmed-satisfied : {D : Deck} {S : Structure} {words : List ℕ} → Trusted D S words Confirmed → (ι : ℕ → ℕ) → AllSatisfied D S ι
confirmed-satisfied {D} {S} T ι k h = T.confirmed refl k h (standard D S ι)
