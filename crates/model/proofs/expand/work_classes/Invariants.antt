use Prim.Native.Nat.{◌-◌, ◌≤◌}
use Rattle.deck.specs.Deck.{class_count}
use Rattle.eval.specs.Lists.{range}
use Rattle.build.specs.Building.{deck_in}
use Rattle.build.proofs.BuildingLaws.{Walking}
use Rattle.model.specs.Recall.{Recalls}
use Rattle.model.proofs.PassLaws.{classes_of}
use Rattle.model.proofs.expand.work_classes.Given as goal

abbrev pub invariant-loop-k : goal.invariant-loop-k
invariant-loop-k l =
    let S = l.initial.b in
    let n = class_count (deck_in S) in
    (l.from ≤ n) × Walking S (classes_of l.e.0) (range 0 n) (range l.from (n - l.from)) l.b × Recalls S l.b l.known

abbrev pub decreases-loop-k : goal.decreases-loop-k
decreases-loop-k l = class_count (deck_in l.initial.b) - l.from
