use Rattle.model.proofs.SweepLaws.{ready-from}
use Rattle.model.proofs.closing.refresh.Goals as goal

pub make_index-requires-clause-by_index : goal.make_index-requires-clause-by_index
make_index-requires-clause-by_index c =
    ready-from c.requires.closes
