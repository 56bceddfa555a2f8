use Prim.Native.Nat.{◌-◌, ◌<◌}
use mathlib.Core.Path.{◌≡◌}
use Rattle.std.specs.Prelude.{IfSome}
use Rattle.deck.specs.Deck.{axiom_at}
use Rattle.eval.specs.InLent.{deck_in, structure, Remembered}
use Rattle.eval.specs.Verdict.{verdict}
use Rattle.model.proofs.JudgingLaws.{Judging}
use Rattle.model.proofs.judging.judge_each.Given as goal

abbrev pub invariant-loop-i : goal.invariant-loop-i
invariant-loop-i l =
    Remembered l.judging.lent l.memo × Judging (deck_in l.judging.lent) (structure l.judging.lent) l.initial.verdicts l.i l.verdicts l.worst
    × IfSome l.before (λ v. (0 < l.i) × (v ≡ verdict (deck_in l.judging.lent) (structure l.judging.lent) (axiom_at (deck_in l.judging.lent) (l.i - 1))))
