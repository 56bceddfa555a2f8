use mathlib.Core.Path.{◌≡◌}
use native.Mathlib.Numerals.{add-one}
use native.Mathlib.Omega.{arith}
use Rattle.report.specs.Text.{axiom_line, axiom_lines}
use Rattle.report.proofs.LengthLaws.{axioms-most}
use Rattle.report.proofs.WriteLaws.{puts-none, puts-more, wrote-length}
use Rattle.report.proofs.lines.Page.put_axioms.Goals as goal

pub loop-k-init : goal.loop-k-init
unfolding axiom_lines
loop-k-init c = puts-none (omega arith)

pub put_axiom-requires : goal.put_axiom-requires
put_axiom-requires c =
    let W = c.loop-k.invariant.wrote in
    omega (arith, wrote-length W, W.end, axioms-most c.args.verdicts.now c.loop-k.k)

pub loop-k-preserved : goal.loop-k-preserved
unfolding axiom_lines axiom_line
loop-k-preserved c =
    rw add-one (puts-more c.loop-k.invariant (rw c.words_at.ensures at c.put_axiom.ensures))

pub returns : goal.returns
returns c =
    let e : c.loop-k.k ≡ c.args.axioms = omega (arith, c.loop-k.auto) in
    rw e at c.loop-k.invariant
