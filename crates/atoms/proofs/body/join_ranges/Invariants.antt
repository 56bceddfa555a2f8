use Rattle.atoms.specs.Body.{row_of_class}
use Rattle.atoms.specs.Label.{insert_all}
use Rattle.deck.specs.Reads.{list_of}
use Rattle.deck.specs.Content.{deck_of}
use lib.ListN.{drop}
use mathlib.Core.List.{flat_map}
use mathlib.Core.Path.{◌≡◌}
use Rattle.atoms.proofs.body.join_ranges.Given as goal

abbrev pub invariant-loop-i : goal.invariant-loop-i
invariant-loop-i l = insert_all l.initial.label (flat_map (row_of_class (deck_of l.deck.bytes.now)) (list_of l.deck.bytes.now l.list)) ≡ insert_all l.label (flat_map (row_of_class (deck_of l.deck.bytes.now)) (drop l.i (list_of l.deck.bytes.now l.list)))
