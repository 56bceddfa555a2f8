use Rattle.model.proofs.NextLaws.{nearest-first}
use Rattle.model.proofs.pairs.Pairs.next.Goals as goal

pub returns-then-few : goal.returns-then-few
returns-then-few c =
    nearest-first _ _ _ c.requires _ c.scan.ensures

pub returns : goal.returns
returns c =
    nearest-first _ _ _ c.requires _ c.walk.ensures
