use mathlib.Core.Path.{◌≡◌}
use mathlib.Core.List.{flat_map}
use lib.ListN.{length, drop}
use Rattle.deck.specs.Content.{deck_of}
use Rattle.atoms.specs.Label.{insert_all}
use Rattle.build.specs.Seed.{ends_of}
use Rattle.build.proofs.seed.load_facts.Given as goal

abbrev pub invariant-loop-i : goal.invariant-loop-i
invariant-loop-i l = (length l.words ≡ length l.initial.words) × (insert_all l.initial.words (flat_map ends_of (deck_of l.deck.bytes.now).facts) ≡ insert_all l.words (flat_map ends_of (drop l.i (deck_of l.deck.bytes.now).facts)))
