use Rattle.std.proofs.Common.{◌≡◌, ◌+◌, ◌*◌, length, drop}
use Rattle.build.proofs.ExistsLaws.{Descending}
use Rattle.deck.specs.Content.{deck_of}
use Rattle.build.proofs.BuildingLaws.{Walking}
use Rattle.build.specs.Building.{Same, deck_in, buffers, model_by}
use Rattle.build.specs.Again.{Right}
use Rattle.build.specs.Exists.{work}
use Rattle.deck.specs.Reads.{list_of}
use Rattle.build.proofs.building.Build.+work_concept_work_operands.Given as goal

abbrev pub decreases-work_concept : goal.decreases-work_concept
decreases-work_concept l = l.concept.0 * 2 + 1

abbrev pub decreases-work_operands : goal.decreases-work_operands
decreases-work_operands l = l.owner.0 * 2

abbrev pub invariant-work_concept-loop-l : goal.invariant-work_concept-loop-l
invariant-work_concept-loop-l l =
    let S = l.initial.self in
    Same S l.self × (length l.memo ≡ length l.initial.memo) × Descending (deck_in S) S.plan.floor.now S.plan.bounds (buffers S) S.tally l.initial.c.0 l.initial.e.0 (buffers l.self) l.self.label.now l.self.tally l.c.0 l.e.0
    × Right (deck_in S) S.plan.floor.now S.plan.bounds l.memo (model_by S l.self)

abbrev pub decreases-work_concept-loop-l : goal.decreases-work_concept-loop-l
decreases-work_concept-loop-l l = l.c.0

abbrev pub invariant-work_operands-loop-i : goal.invariant-work_operands-loop-i
invariant-work_operands-loop-i l =
    let S = l.initial.self in
    let os = list_of S.plan.deck.bytes.now l.list in
    (length l.memo ≡ length l.initial.memo) × Walking S (λ p o. work (deck_of p.deck.bytes.now) p.floor.now p.bounds o l.e.0) os (drop l.i os) l.self × Right (deck_in S) S.plan.floor.now S.plan.bounds l.memo (model_by S l.self)
