use Prim.Native.Nat.{◌-◌, ◌≤◌}
use Rattle.deck.specs.Content.{deck_of}
use Rattle.deck.specs.Deck.{class_count}
use Rattle.model.specs.Recall.{Knows}
use Rattle.model.proofs.recall.Printed.recall_targets.Given as goal

abbrev pub invariant-loop-class : goal.invariant-loop-class
invariant-loop-class l = (l.from ≤ class_count (deck_of l.self.plan.deck.bytes.now)) × Knows l.self l.known

abbrev pub decreases-loop-class : goal.decreases-loop-class
decreases-loop-class l = class_count (deck_of l.self.plan.deck.bytes.now) - l.from
