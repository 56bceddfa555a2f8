use mathlib.Core.Path.{◌≡◌}
use Rattle.deck.specs.Content.{deck_of}
use mathlib.Core.List.{map}
use Rattle.eval.specs.Lists.{every}
use Rattle.atoms.specs.Leaves.{answer, pending}
use Rattle.atoms.proofs.leaves.rest_answer.Given as goal

abbrev pub invariant-loop-leaf : goal.invariant-loop-leaf
invariant-loop-leaf l =
    let D = deck_of l.deck.bytes.now in
    record {
      deck : l.leaf-iterator.deck.bytes.now ≡ l.deck.bytes.now;
      goes : every (map (answer D l.question) (pending D l.initial.leaf-iterator.marks l.initial.leaf-iterator.below)) ≡ every (map (answer D l.question) (pending D l.leaf-iterator.marks l.leaf-iterator.below));
    }
