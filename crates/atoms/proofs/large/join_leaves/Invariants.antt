use mathlib.Core.Path.{◌≡◌}
use Rattle.deck.specs.Content.{deck_of}
use Rattle.atoms.specs.Large.{gathered}
use Rattle.atoms.proofs.LargeLaws.{coming}
use Rattle.atoms.proofs.large.join_leaves.Given as goal

abbrev pub invariant-loop-leaf : goal.invariant-loop-leaf
invariant-loop-leaf l =
    let D = deck_of l.deck.bytes.now in
    record {
      deck : l.leaf-iterator.deck.bytes.now ≡ l.deck.bytes.now;
      goes : coming D l.r.0 l.initial.leaf-iterator.marks l.initial.leaf-iterator.below (gathered l.initial.label l.initial.seen) ≡ coming D l.r.0 l.leaf-iterator.marks l.leaf-iterator.below (gathered l.label l.seen);
    }
