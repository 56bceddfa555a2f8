use Rattle.std.proofs.Common.{ap, ◌∙◌, length}
use Rattle.build.specs.Building.{deck_in}
use Rattle.build.proofs.BuildLaws.{reach-linked}
use Rattle.build.proofs.BuildingLaws.{same-trans}
use Rattle.atoms.proofs.FloorLaws.{length-floored}
use Rattle.build.proofs.building.Build.reach.Goals as goal

pub returns-clause-holds : goal.returns-clause-holds
returns-clause-holds c =
    let P = c.requires.ready in
    let i = c.intern-to.ensures in
    let p = c.link.ensures in
    let S = c.args.self.now in
    let w = length-floored (deck_in S) S.plan.floor.now S.label.now ∙ P.label-wide in
    record { same = same-trans i.same p.same; built = rw (p.label, p.labels) (reach-linked P w i.placed (ap length i.label ∙ w) _ _ (rw (i.same.plan, i.edges, i.log, i.tally) at p.left)) }
