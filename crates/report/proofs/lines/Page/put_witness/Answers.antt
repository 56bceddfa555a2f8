use native.Mathlib.Omega.{arith}
use borrow.Author.Tests.{eq-eqb, ne_eqb}
use Rattle.report.specs.Lines.{witness}
use Rattle.report.proofs.WriteLaws.{puts-none}
use Rattle.report.proofs.lines.Page.put_witness.Goals as goal

pub returns-then-w-eq4294967295 : goal.returns-then-w-eq4294967295
unfolding witness
returns-then-w-eq4294967295 c =
    rw (eq-eqb c.args.w 4294967295 c.if-w-eq4294967295.true) (puts-none (omega arith))

pub returns : goal.returns
unfolding witness
returns c =
    rw (ne_eqb c.args.w 4294967295 c.if-w-eq4294967295.false) c.put_field.ensures
