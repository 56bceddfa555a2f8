use Rattle.build.proofs.BuildingLaws.{holds-is, holds-same}
use Rattle.model.proofs.RoundLaws.{fire-yes, fire-no}
use Rattle.model.proofs.rounds.fire.Goals as goal

pub returns-then-fires : goal.returns-then-fires
returns-then-fires c =
    holds-is c.materialise_exists.ensures (fire-yes _ _ _ _ _ _ _ c.fires.ensures c.if-fires.true)

pub returns : goal.returns
returns c =
    holds-is (holds-same c.requires.ready) (fire-no _ _ _ _ _ _ _ c.fires.ensures c.if-fires.false)
