use mathlib.Core.Path.{◌∙◌}
use native.Mathlib.Omega.{arith}
use Rattle.model.specs.Outcome.{outcome_at}
use Rattle.model.proofs.JudgingLaws.{worse-max, judging-start, judging-next, judged-words, judged-worst, last-next}
use Rattle.model.proofs.judging.judge_each.Goals as goal

pub loop-i-init : goal.loop-i-init
loop-i-init c = (c.requires.remembered, judging-start _ _ _ c.requires.deck_in_bounds, tt)

pub loop-i-preserved : goal.loop-i-preserved
loop-i-preserved c =
    let v = c.judge_next-verdict in
    (v.ensures.kept, judging-next _ _ c.loop-i.invariant.1 (omega (arith, c.axiom_count-i-end.ensures.is)) v.result v.ensures.is c.store.ensures (rw c.from.ensures at c.max-worst.ensures ∙ worse-max c.loop-i.worst (outcome_at v.result)), (omega arith, last-next _ _ c.loop-i.i v.ensures.is))

pub returns : goal.returns
returns c =
    let n = c.axiom_count-i-end.ensures.is in
    record { words = judged-words _ _ c.loop-i.invariant.1 (omega (arith, n)); worst = judged-worst _ _ c.loop-i.invariant.1 (omega (arith, n)) }
