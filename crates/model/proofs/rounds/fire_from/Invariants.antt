use lib.ListN.{drop}
use Rattle.deck.specs.Content.{deck_of}
use Rattle.deck.specs.Reads.{list_of}
use Rattle.build.proofs.BuildingLaws.{Walking}
use Rattle.model.specs.Rounds.{fire_pair}
use Rattle.model.proofs.rounds.fire_from.Given as goal

abbrev pub invariant-loop-i : goal.invariant-loop-i
invariant-loop-i l =
    let S = l.initial.b in
    let os = list_of S.plan.deck.bytes.now l.list in
    Walking S (λ p. fire_pair (deck_of p.deck.bytes.now) p.floor.now p.bounds l.e.0 l.ante.0) os (drop l.i os) l.b
