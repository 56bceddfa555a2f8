use mathlib.Core.Path.{◌∙◌}
use Rattle.eval.proofs.index.fill.Goals as goal

pub loop-i-preserved : goal.loop-i-preserved
loop-i-preserved c =
    (c.enter.ensures.size ∙ c.loop-i.invariant.0, c.enter.ensures.built _ c.in-Some.is)
