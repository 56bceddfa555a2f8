use Rattle.eval.specs.InLent.{deck_in, structure}
use Rattle.eval.proofs.MemoLaws.{blank, fresh-memo}
use Rattle.eval.proofs.lent.Lent.axiom_in_room.Goals as goal

pub check_axiom-requires-clause-remembered : goal.check_axiom-requires-clause-remembered
check_axiom-requires-clause-remembered g c =
    let L = c.args.self.now in
    let zeros = blank _ c.requires.room.table_some in
    rw c.indexed.ensures (fresh-memo (deck_in L) (structure L) _ zeros.room zeros.zero)
