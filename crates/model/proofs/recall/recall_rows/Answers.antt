use native.Mathlib.Omega.{arith}
use Rattle.build.proofs.PrintLaws.{chained-zeros}
use Rattle.model.proofs.recall.recall_rows.Goals as goal

pub chain_labels-requires-clause-chained : goal.chain_labels-requires-clause-chained
chain_labels-requires-clause-chained c =
    chained-zeros 4096 _ (omega arith)
