use mathlib.Core.Path.{◌≡◌}
use Rattle.deck.specs.Content.{deck_of}
use mathlib.Core.List.{flat_map}
use Rattle.atoms.specs.Label.{insert_all}
use Rattle.atoms.specs.Floor.{atom_rows}
use Rattle.atoms.specs.Leaves.{pending}
use Rattle.atoms.proofs.floor.join_rest.Given as goal

abbrev pub invariant-loop-leaf : goal.invariant-loop-leaf
invariant-loop-leaf l =
    let D = deck_of l.deck.bytes.now in
    record {
      deck : l.leaf-iterator.deck.bytes.now ≡ l.deck.bytes.now;
      goes : insert_all l.initial.label (flat_map (atom_rows D) (pending D l.initial.leaf-iterator.marks l.initial.leaf-iterator.below)) ≡ insert_all l.label (flat_map (atom_rows D) (pending D l.leaf-iterator.marks l.leaf-iterator.below));
    }
