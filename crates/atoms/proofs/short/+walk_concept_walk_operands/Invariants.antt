use Prim.Native.Nat.{◌+◌, ◌*◌}
use mathlib.Core.Path.{◌≡◌}
use mathlib.Core.List.{map}
use lib.ListN.{drop}
use Rattle.deck.specs.Content.{deck_of}
use Rattle.deck.specs.Reads.{list_of}
use Rattle.eval.specs.Lists.{every}
use Rattle.atoms.specs.Leaves.{every_leaf}
use Rattle.atoms.proofs.short.+walk_concept_walk_operands.Given as goal

abbrev pub decreases-walk_concept : goal.decreases-walk_concept
decreases-walk_concept l = l.concept.0 * 2 + 1

abbrev pub decreases-walk_operands : goal.decreases-walk_operands
decreases-walk_operands l = l.owner.0 * 2

abbrev pub invariant-walk_operands-loop-i : goal.invariant-walk_operands-loop-i
invariant-walk_operands-loop-i l = let p = every_leaf (deck_of l.deck.bytes.now) l.question in
    every (map p (list_of l.deck.bytes.now l.list)) ≡ every (map p (drop l.i (list_of l.deck.bytes.now l.list)))
