use mathlib.Core.Path.{sym}
use Rattle.deck.proofs.SoundLaws.{sound}
use Rattle.build.proofs.BuildingLaws.{pushed-same}
use Rattle.model.proofs.CloseLaws.{axiom-by, axiom-none}
use Rattle.model.proofs.EdgeSteps.{pushed-is}
use Rattle.model.proofs.RuleLaws.{rule-fits-as}
use Rattle.model.proofs.closing.close_axiom.Goals as goal

pub close_rule-requires-clause-rule_fits : goal.close_rule-requires-clause-rule_fits
close_rule-requires-clause-rule_fits c =
    rule-fits-as _ (sound _ c.requires.closes.accepted) _ c.requires.axiom_bound (sym c.in-Some.ensures)

pub returns-in-Some : goal.returns-in-Some
returns-in-Some c =
    pushed-is c.close_rule.ensures (axiom-by _ _ _ _ _ (sym c.in-Some.ensures))

pub returns-in-None : goal.returns-in-None
returns-in-None c =
    pushed-is (pushed-same c.requires.closes.space) (axiom-none _ _ _ _ _ (sym c.in-None.ensures))
