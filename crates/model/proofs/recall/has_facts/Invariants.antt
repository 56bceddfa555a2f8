use Prim.Native.Nat.{◌-◌, ◌≤◌, ◌<◌}
use Rattle.deck.specs.Content.{deck_of}
use Rattle.deck.specs.Deck.{class_count}
use Rattle.model.proofs.HeldLaws.{Counted}
use Rattle.model.proofs.recall.has_facts.Given as goal

abbrev pub invariant-loop-class : goal.invariant-loop-class
invariant-loop-class l =
    let D = deck_of l.facts.deck.bytes.now in
    (l.from ≤ class_count D) × (l.count < l.least) × Counted D l.held l.from l.count

abbrev pub decreases-loop-class : goal.decreases-loop-class
decreases-loop-class l = class_count (deck_of l.facts.deck.bytes.now) - l.from
