use Rattle.std.proofs.Common.{refl, sym, ◌∙◌}
use Rattle.build.proofs.BuildingLaws.{holds-is, holds-same}
use Rattle.model.proofs.StandLaws.{from-passed, stands_after}
use Rattle.model.proofs.TriggerLaws.{from-idle}
use Rattle.model.proofs.rounds.fire_member.Goals.{then-passes-via-then-passes, then-passes-via-else-passes+then-not-fires}
use Rattle.model.proofs.rounds.fire_member.Goals as goal

pub returns-then-passes-clause-holds : goal.returns-then-passes-clause-holds
returns-then-passes-clause-holds c =
    elim c.then-passes.branch [
      | then-passes-via-then-passes w ↦ holds-is (holds-same c.requires.ready) (from-passed _ _ _ _ _ c.requires.stands c.args.ante (sym c.passes.ensures ∙ w.if-passes.true))
      | then-passes-via-else-passes+then-not-fires w ↦ holds-is (holds-same c.requires.ready) (from-idle _ _ _ _ _ _ _ w.fires.ensures w.if-not-fires.true)
    ]

pub returns-clause-stands : goal.returns-clause-stands
returns-clause-stands c =
    rw c.after.ensures (stands_after c.requires.ready _ _ c.args.ante c.in_ok-fire_from.ensures.built refl c.requires.stands (sym c.passes.ensures ∙ c.if-passes.false) c.fires.ensures c.if-not-fires.false c.eq.ensures)
