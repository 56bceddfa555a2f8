use Rattle.eval.proofs.MemoLaws.{stored-none, stored-put}
use Rattle.eval.proofs.memo.store.Goals as goal

pub returns-then-whole-ge4096 : goal.returns-then-whole-ge4096
returns-then-whole-ge4096 c =
    stored-none _ c.args.k _ c.if-whole-ge4096.true

pub returns : goal.returns
returns c =
    stored-put _ c.args.k _ c.if-whole-ge4096.false
