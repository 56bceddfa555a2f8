use Rattle.deck.specs.Content.{deck_of}
use Rattle.atoms.proofs.LeafLaws.{Walking}
use Rattle.atoms.proofs.marks.next_leaf.Given as goal

abbrev pub invariant-loop-k : goal.invariant-loop-k
invariant-loop-k l = Walking (deck_of l.deck.bytes.now) l.initial.marks l.i l.marks l.below

abbrev pub decreases-loop-k : goal.decreases-loop-k
decreases-loop-k l = l.below
