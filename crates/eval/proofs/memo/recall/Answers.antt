use Rattle.eval.proofs.MemoLaws.{recalled-miss, recalled-hit}
use Rattle.eval.proofs.memo.recall.Goals as goal

pub returns-then-w-k : goal.returns-then-w-k
returns-then-w-k c =
    recalled-miss _ c.key-k.ensures c.if-w-k.true

pub returns : goal.returns
returns c =
    recalled-hit _ c.key-k.ensures c.if-w-k.false c.judgement_of.ensures
