use Rattle.std.proofs.Common.{◌-◌, ◌≤◌, drop, length}
use Rattle.deck.specs.Content.{deck_of}
use Rattle.build.specs.Building.{deck_in}
use Rattle.build.proofs.BuildingLaws.{Walking}
use Rattle.model.specs.Rounds.{fire_axiom}
use Rattle.model.proofs.rounds.visit.Given as goal

abbrev pub invariant-loop-axiom : goal.invariant-loop-axiom
invariant-loop-axiom l =
    let S = l.initial.b in
    let xs = (deck_in S).axioms in
    (l.first ≤ length l.triggers) × Walking S (λ p. fire_axiom (deck_of p.deck.bytes.now) p.floor.now p.bounds l.e.0) xs (drop l.first xs) l.b

abbrev pub decreases-loop-axiom : goal.decreases-loop-axiom
decreases-loop-axiom l = length l.triggers - l.first
