use lib.ListN.{length, drop}
use Rattle.build.specs.Building.{deck_in}
use Rattle.build.proofs.BuildingLaws.{Walking}
use Rattle.model.specs.FactWalk.{facts_from}
use Rattle.model.specs.Recall.{Recalls}
use Rattle.model.proofs.FactIndexLaws.{facts_of}
use Rattle.model.proofs.expand.work_facts.Given as goal

abbrev pub invariant-loop-fact : goal.invariant-loop-fact
invariant-loop-fact l =
    let S = l.initial.b in
    let all = facts_from (deck_in S) l.fn.k.0 0 in
    Walking S (facts_of l.e.0 l.fn.k.0) all (drop (length l.yielded) all) l.b × Recalls S l.b l.known
