use borrow.Enum.Refused.{opened}
use mathlib.Core.Path.{◌∙◌}
use Rattle.model.proofs.TriggerLaws.{adds-and, adds-other}
use Rattle.model.proofs.triggers.may_add.Goals as goal

pub returns-in-And : goal.returns-in-And
returns-in-And c =
    c.any_builds.ensures ∙ adds-and _ c.args.deck.now.accepted c.args.concept.0 c.concept_at.ensures _ c.in-And.is

pub returns-in_default : goal.returns-in_default
returns-in_default c =
    c.goes_on.ensures ∙ adds-other _ c.args.deck.now.accepted c.args.concept.0 c.concept_at.ensures (opened c.in_default.in_default-own.keys2)
