use Rattle.model.proofs.SweepLaws.{ready-from}
use Rattle.model.proofs.closing.close_in_room.Goals as goal

pub make_index-requires-clause-by_index : goal.make_index-requires-clause-by_index
make_index-requires-clause-by_index g c =
    ready-from c.requires.closes
