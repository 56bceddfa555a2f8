use mathlib.Core.Path.{◌≡◌}
use mathlib.Core.List.{flat_map}
use lib.ListN.{drop}
use Rattle.deck.specs.Content.{deck_of}
use Rattle.deck.specs.Reads.{list_of}
use Rattle.atoms.specs.Label.{insert_all}
use Rattle.atoms.specs.Floor.{member_rows}
use Rattle.atoms.proofs.floor.join_members.Given as goal

abbrev pub invariant-loop-i : goal.invariant-loop-i
invariant-loop-i l = insert_all l.initial.label (flat_map (member_rows (deck_of l.deck.bytes.now)) (list_of l.deck.bytes.now l.list)) ≡ insert_all l.label (flat_map (member_rows (deck_of l.deck.bytes.now)) (drop l.i (list_of l.deck.bytes.now l.list)))
