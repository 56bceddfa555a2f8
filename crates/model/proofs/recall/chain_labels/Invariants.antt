use Rattle.deck.specs.Content.{deck_of}
use Rattle.eval.specs.Lent.{label_width}
use Rattle.atoms.specs.Rows.{rows_of}
use Rattle.build.specs.Prints.{Chained}
use Rattle.model.proofs.recall.chain_labels.Given as goal

abbrev pub invariant-loop-e : goal.invariant-loop-e
invariant-loop-e l = Chained (rows_of (label_width (deck_of l.deck.bytes.now)) l.e l.labels) l.heads l.links
