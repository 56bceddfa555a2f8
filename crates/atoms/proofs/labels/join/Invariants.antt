use mathlib.Core.Path.{◌≡◌}
use Rattle.atoms.specs.Label.{join_to}
use Rattle.atoms.proofs.labels.join.Given as goal

abbrev pub invariant-loop-i : goal.invariant-loop-i
invariant-loop-i l = l.label ≡ join_to l.initial.label l.other l.i
