use native.Mathlib.Omega.{arith}
use Rattle.atoms.proofs.FloorLaws.{axiom-sub-class, axiom-equivalent}
use Rattle.model.proofs.TriggerLaws.{trigger-is, trigger-other}
use Rattle.model.proofs.triggers.trigger_of.Goals as goal

pub returns-in-0 : goal.returns-in-0
returns-in-0 c =
    trigger-is _ _ (axiom-sub-class _ _ c.axiom_at-record.ensures c.in-0.is) c.sub_class_trigger.ensures

pub returns-in-1 : goal.returns-in-1
returns-in-1 c =
    trigger-is _ _ (axiom-equivalent _ _ c.axiom_at-record.ensures c.in-1.is) c.equivalent_trigger.ensures

pub returns-in_default : goal.returns-in_default
returns-in_default c =
    trigger-other c.axiom_at-record.ensures (omega arith)
