use mathlib.Core.Path.{sym, ◌∙◌}
use Rattle.model.proofs.TriggerLaws.{sub-adds-nothing, sub-no-rule, sub-needs}
use Rattle.model.proofs.triggers.sub_class_trigger.Goals.{then-not-may_add-via-then-not-may_add, then-not-may_add-via-else-not-may_add+then-not-is_rule}
use Rattle.model.proofs.triggers.sub_class_trigger.Goals as goal

pub returns-then-not-may_add : goal.returns-then-not-may_add
returns-then-not-may_add c =
    elim c.then-not-may_add.branch [
      | then-not-may_add-via-then-not-may_add w ↦ sub-adds-nothing _ _ _ (sym c.may_add.ensures ∙ w.if-not-may_add.true)
      | then-not-may_add-via-else-not-may_add+then-not-is_rule w ↦ sub-no-rule _ _ _ (sym w.is_rule.ensures ∙ w.if-not-is_rule.true)
    ]

pub returns-in-Some : goal.returns-in-Some
returns-in-Some c =
    sub-needs _ _ _ c.in-Some.ensures
