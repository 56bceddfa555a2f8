use mathlib.Core.Path.{sym, ◌∙◌}
use Rattle.model.proofs.TriggerLaws.{members-add-nothing, members-no-rule}
use Rattle.model.proofs.triggers.members_trigger.Goals.{else-any_adds-via-then-any_adds+else-any_rule, else-any_adds-via-else-any_adds}
use Rattle.model.proofs.triggers.members_trigger.Goals as goal

pub returns : goal.returns
returns c =
    elim c.else-any_adds.branch [
      | else-any_adds-via-then-any_adds+else-any_rule w ↦ members-no-rule _ _ (sym w.any_rule.ensures ∙ w.if-any_rule.false)
      | else-any_adds-via-else-any_adds w ↦ members-add-nothing _ _ (sym c.any_adds.ensures ∙ w.if-any_adds.false)
    ]
