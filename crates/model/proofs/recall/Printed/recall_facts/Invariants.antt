use Rattle.model.specs.Recall.{Knows}
use Rattle.model.proofs.recall.Printed.recall_facts.Given as goal

abbrev pub invariant-loop-fact : goal.invariant-loop-fact
invariant-loop-fact l = Knows l.self l.known
