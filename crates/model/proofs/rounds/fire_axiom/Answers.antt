use native.Mathlib.Omega.{arith}
use Rattle.build.proofs.BuildingLaws.{holds-is, holds-same}
use Rattle.model.proofs.RoundLaws.{sub-class-fires, equivalent-fires, other-fires}
use Rattle.model.proofs.rounds.fire_axiom.Goals as goal

pub returns-in-0 : goal.returns-in-0
returns-in-0 c =
    holds-is c.fire.ensures (sub-class-fires c.axiom_at-record.ensures _ _ _ _ c.in-0.is)

pub returns-in-1 : goal.returns-in-1
returns-in-1 c =
    holds-is c.fire_equivalent.ensures (equivalent-fires c.axiom_at-record.ensures _ _ _ _ c.in-1.is)

pub returns-in_default : goal.returns-in_default
returns-in_default c =
    holds-is (holds-same c.requires.ready) (other-fires c.axiom_at-record.ensures _ _ _ _ (omega arith))
