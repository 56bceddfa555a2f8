use Rattle.eval.specs.InLent.{deck_in, structure}
use Rattle.eval.proofs.MemoLaws.{blank, fresh-memo}
use Rattle.eval.proofs.lent.Lent.concept_in_room.Goals as goal

pub eval_concept-requires-clause-remembered : goal.eval_concept-requires-clause-remembered
eval_concept-requires-clause-remembered g c =
    let L = c.args.self.now in
    let zeros = blank _ c.requires.room.table_some in
    rw c.indexed.ensures (fresh-memo (deck_in L) (structure L) _ zeros.room zeros.zero)
