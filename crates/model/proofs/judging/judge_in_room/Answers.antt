use Rattle.eval.specs.InLent.{deck_in, structure}
use Rattle.eval.proofs.MemoLaws.{blank, fresh-memo}
use Rattle.model.proofs.judging.judge_in_room.Goals as goal

pub judge_each-requires-clause-remembered : goal.judge_each-requires-clause-remembered
judge_each-requires-clause-remembered r c =
    let L = c.args.lent.now in
    let z = blank r.row.M c.requires.room.table_some in
    rw c.indexed.ensures (fresh-memo (deck_in L) (structure L) _ z.room z.zero)
