-- Demand 3 for one verdict, under every choice: Holds only for a true axiom, Fails only for one false at its witnesses, exact on the plain part.
use Rattle.std.specs.Prelude.{true, ◌≡◌, ◌⊎◌}
use Rattle.deck.specs.Deck.{Deck, Axiom}
use Rattle.eval.specs.declared.verdict.Witnesses.{Witnesses}
use Rattle.eval.specs.declared.verdict.Verdict.{Verdict}
use Rattle.eval.specs.declared.verdict.Verdict.TheVariants.{Holds, Fails}
use Rattle.eval.specs.Structure.{Structure}
use Rattle.eval.specs.Verdict.{witnesses_of}
use Rattle.eval.specs.Truth.{Choice, True, FalseAt, plain_axiom}

pub record Justified (D : Deck) (S : Structure) (a : Axiom) (v : Verdict) : Type 0 where
  pub holds : v ≡ Holds → (χ : Choice) → True D S χ a
  pub fails : (w : Witnesses) → v ≡ Fails w → (χ : Choice) → FalseAt D S χ a (witnesses_of w)
  -- a plain axiom gets Holds or Fails: Holds exactly if it is true, Fails exactly if it is not
  pub decided : plain_axiom D a ≡ true → (v ≡ Holds) ⊎ ((w : Witnesses) × (v ≡ Fails w))
  pub true-holds : plain_axiom D a ≡ true → (χ : Choice) → True D S χ a → v ≡ Holds
  pub false-fails : plain_axiom D a ≡ true → (χ : Choice) → (True D S χ a → ⊥) → (w : Witnesses) × (v ≡ Fails w)
