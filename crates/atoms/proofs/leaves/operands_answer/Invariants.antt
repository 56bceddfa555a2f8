use mathlib.Core.Path.{◌≡◌}
use mathlib.Core.List.{map}
use lib.ListN.{drop}
use Rattle.deck.specs.Content.{deck_of}
use Rattle.deck.specs.Reads.{list_of}
use Rattle.eval.specs.Lists.{every}
use Rattle.atoms.specs.Leaves.{every_leaf}
use Rattle.atoms.proofs.leaves.operands_answer.Given as goal

abbrev pub invariant-loop-i : goal.invariant-loop-i
invariant-loop-i l = let p = every_leaf (deck_of l.deck.bytes.now) l.question in
    every (map p (list_of l.deck.bytes.now l.list)) ≡ every (map p (drop l.i (list_of l.deck.bytes.now l.list)))
