use Rattle.std.proofs.Common.{◌-◌}
use Rattle.deck.specs.Content.{deck_of}
use Rattle.eval.specs.Lists.{range}
use Rattle.build.proofs.BuildingLaws.{Walking}
use Rattle.model.specs.Rounds.{visit}
use Rattle.model.proofs.rounds.round.Given as goal

abbrev pub invariant-loop-i : goal.invariant-loop-i
invariant-loop-i l =
    let S = l.initial.b in
    let n = S.tally.elements in
    Walking S (λ p. visit (deck_of p.deck.bytes.now) p.floor.now p.bounds) (range 0 (n - 0)) (range l.i (n - l.i)) l.b
