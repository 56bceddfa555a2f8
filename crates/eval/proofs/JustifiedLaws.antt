-- Every verdict is justified: `justified`, from soundness and exactness.
use mathlib.Core.Path.{◌≡◌, refl}
use mathlib.Core.Logic.{◌⊎◌, inl, inr}
use Rattle.deck.specs.Deck.{Deck, Axiom}
use Rattle.deck.specs.Sound.{Sound}
use Rattle.eval.specs.declared.verdict.Witnesses.{Witnesses}
use Rattle.eval.specs.declared.verdict.Verdict.{Verdict}
use Rattle.eval.specs.declared.verdict.Verdict.TheVariants.{Holds, Fails}
use Rattle.eval.specs.Structure.{Structure}
use Rattle.eval.specs.Verdict.{verdict}
use Rattle.eval.specs.Justified.{Justified}
use Rattle.eval.proofs.Soundness.{holds-true, fails-false}
use Rattle.eval.proofs.Exactness.{Decided, decided-plain, holds-iff, fails-iff}

either : {v : Verdict} → Decided v → (v ≡ Holds) ⊎ ((w : Witnesses) × (v ≡ Fails w))
either Decided.it-holds = inl refl
either (Decided.it-fails w) = inr (w, refl)

pub justified : (D : Deck) → Sound D → (S : Structure) (a : Axiom) → Justified D S a (verdict D S a)
justified D W S a = record {
  holds = λ e χ. holds-true D W S χ a e;
  fails = λ w e χ. fails-false D W S χ a w e;
  decided = λ p. either (decided-plain D W S a p);
  true-holds = λ p χ. (holds-iff D W S χ a p).1;
  false-fails = λ p χ. (fails-iff D W S χ a p).1;
}
