use lib.ListN.{drop}
use Rattle.deck.specs.Content.{deck_of}
use Rattle.deck.specs.Reads.{list_of}
use Rattle.build.specs.Building.{deck_in, model_by}
use Rattle.build.proofs.BuildingLaws.{Walking}
use Rattle.model.specs.Rounds.{fire_from}
use Rattle.model.specs.Still.{Stands}
use Rattle.model.proofs.rounds.fire_equivalent.Given as goal

abbrev pub invariant-loop-i : goal.invariant-loop-i
invariant-loop-i l =
    let S = l.initial.b in
    let os = list_of S.plan.deck.bytes.now l.list in
    Walking S (λ p. fire_from (deck_of p.deck.bytes.now) p.floor.now p.bounds l.e.0 (list_of p.deck.bytes.now l.list)) os (drop l.i os) l.b × Stands (deck_in S) S.plan.floor.now S.plan.bounds l.e.0 os l.still (model_by S l.b)
