use mathlib.Core.Path.{◌≡◌}
use mathlib.Core.List.{flat_map}
use lib.ListN.{drop}
use Rattle.deck.specs.Content.{deck_of}
use Rattle.deck.specs.Reads.{list_of}
use Rattle.atoms.specs.Floor.{required_atoms}
use Rattle.atoms.proofs.occurrences.first_in.Given as goal

abbrev pub invariant-loop-i : goal.invariant-loop-i
invariant-loop-i l = flat_map (required_atoms (deck_of l.deck.bytes.now)) (list_of l.deck.bytes.now l.list) ≡ flat_map (required_atoms (deck_of l.deck.bytes.now)) (drop l.i (list_of l.deck.bytes.now l.list))
