use Rattle.build.proofs.BuildingLaws.{pushed-same}
use Rattle.model.proofs.EdgeSteps.{pushed-is}
use Rattle.model.proofs.KeyLaws.{rule-none}
use Rattle.model.proofs.closing.close_rule.Goals as goal

pub returns-then-pairs-eq0 : goal.returns-then-pairs-eq0
returns-then-pairs-eq0 c =
    let R = c.requires.closes in
    pushed-is (pushed-same R.space) (rule-none _ _ _ R.few _ R.fits _ _ _ (c.count_pairs-pairs.ensures c.if-pairs-eq0.true))
