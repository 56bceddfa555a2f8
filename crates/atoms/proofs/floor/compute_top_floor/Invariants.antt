use mathlib.Core.Path.{◌≡◌}
use mathlib.Core.List.{flat_map}
use lib.ListN.{drop}
use Rattle.deck.specs.Content.{deck_of}
use Rattle.atoms.specs.Label.{insert_all}
use Rattle.atoms.specs.Floor.{floor_of}
use Rattle.atoms.proofs.floor.compute_top_floor.Given as goal

abbrev pub invariant-loop-i : goal.invariant-loop-i
invariant-loop-i l = insert_all l.initial.floor (flat_map (floor_of (deck_of l.deck.bytes.now)) (deck_of l.deck.bytes.now).axioms) ≡ insert_all l.floor (flat_map (floor_of (deck_of l.deck.bytes.now)) (drop l.i (deck_of l.deck.bytes.now).axioms))
