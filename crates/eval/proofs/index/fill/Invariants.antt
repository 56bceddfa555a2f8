use mathlib.Core.Path.{◌≡◌}
use lib.ListN.{length}
use Rattle.eval.specs.Index.{Built}
use Rattle.eval.proofs.index.fill.Given as goal

abbrev pub invariant-loop-i : goal.invariant-loop-i
invariant-loop-i l = (length l.index ≡ length l.initial.index) × Built l.edges l.elements l.count l.i l.used l.index
