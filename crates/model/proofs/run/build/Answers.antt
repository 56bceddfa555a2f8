use native.Mathlib.Omega.{arith}
use Rattle.model.proofs.NeedLaws.{bounds-in}
use Rattle.model.proofs.RunLaws.{top_small}
use Rattle.model.proofs.run.build.Goals as goal

pub construct-requires-clause-top_bound : goal.construct-requires-clause-top_bound
construct-requires-clause-top_bound c =
    let T = c.args.task.now in
    top_small _ T.bounds T.deck.accepted (bounds-in _ _ T.within).elements

pub construct-requires-clause-room : goal.construct-requires-clause-room
construct-requires-clause-room c =
    record { bound = omega arith; room = c.requires.edges_len; most = (bounds-in _ _ c.args.task.now.within).edges }
