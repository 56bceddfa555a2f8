use mathlib.Core.Path.{◌≡◌}
use lib.ListN.{drop}
use Rattle.deck.specs.Reads.{list_of}
use Rattle.atoms.specs.Label.{insert_all}
use Rattle.atoms.proofs.marks.mark_operands.Given as goal

abbrev pub invariant-loop-i : goal.invariant-loop-i
invariant-loop-i l = insert_all l.initial.marks (drop l.first (list_of l.deck.bytes.now l.list)) ≡ insert_all l.marks (drop l.i (list_of l.deck.bytes.now l.list))
