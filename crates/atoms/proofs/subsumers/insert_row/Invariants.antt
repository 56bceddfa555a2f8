use mathlib.Core.Path.{◌≡◌}
use lib.ListN.{drop}
use Rattle.deck.specs.Reads.{list_of}
use Rattle.atoms.specs.Label.{insert_all}
use Rattle.atoms.proofs.subsumers.insert_row.Given as goal

abbrev pub invariant-loop-i : goal.invariant-loop-i
invariant-loop-i l = insert_all l.initial.label (list_of l.deck.bytes.now l.row) ≡ insert_all l.label (drop l.i (list_of l.deck.bytes.now l.row))
