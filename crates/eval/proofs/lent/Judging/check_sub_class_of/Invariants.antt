use Prim.Native.Nat.{ℕ}
use Rattle.eval.specs.Verdict.{implies}
use Rattle.eval.specs.declared.judgement.Judgement.{Judgement}
use Rattle.eval.specs.Judge.{judge}
use Rattle.eval.specs.InLent.{deck_in, structure, Remembered}
use Rattle.eval.proofs.ElementLoops.{Passed}
use Rattle.eval.proofs.lent.Judging.check_sub_class_of.Given as goal

abbrev pub invariant-loop-e : goal.invariant-loop-e
invariant-loop-e l = let j : ℕ → ℕ → Judgement = judge (deck_in l.self.lent) (structure l.self.lent) in
    Passed (λ x. implies (j l.sub.0 x) (j l.sup.0 x)) l.self.lent.shape.elements l.e l.standing × Remembered l.self.lent l.memo
