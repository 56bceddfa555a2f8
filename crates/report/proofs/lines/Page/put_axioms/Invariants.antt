use Rattle.report.specs.Writes.{Puts}
use Rattle.report.specs.Text.{axiom_lines}
use Rattle.report.proofs.lines.Page.put_axioms.Given as goal

abbrev pub invariant-loop-k : goal.invariant-loop-k
invariant-loop-k l = Puts l.initial.self l.self (axiom_lines l.verdicts l.k)
