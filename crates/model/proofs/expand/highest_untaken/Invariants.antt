use mathlib.Core.Path.{◌≡◌}
use Rattle.model.specs.Expand.{highest}
use Rattle.model.proofs.expand.highest_untaken.Given as goal

abbrev pub invariant-loop-i : goal.invariant-loop-i
invariant-loop-i l = highest l.taken l.i ≡ highest l.taken l.n
