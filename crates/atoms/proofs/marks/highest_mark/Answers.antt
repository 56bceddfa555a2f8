use mathlib.Core.Path.{sym, ◌∙◌}
use native.Mathlib.Omega.{arith}
use Rattle.atoms.proofs.LeafLaws.{mark-none, mark-skip, mark-here, mark-skip-word}
use Rattle.atoms.proofs.marks.highest_mark.Goals as goal

pub loop-k-preserved-then-marks-k-eq0 : goal.loop-k-preserved-then-marks-k-eq0
loop-k-preserved-then-marks-k-eq0 c =
    let w = c.loop-k in
    (omega (arith, w.invariant.0), w.invariant.1 ∙ mark-skip-word _ w.k (omega arith) c.if-k-eq0.true c.if-marks-k-eq0.true)

pub returns-then-has_bit : goal.returns-then-has_bit
returns-then-has_bit c =
    let w = c.loop-k in
    sym (w.invariant.1 ∙ mark-here _ w.k (omega arith) (sym c.has_bit.ensures ∙ c.if-has_bit.true))

pub loop-k-preserved : goal.loop-k-preserved
loop-k-preserved c =
    let w = c.loop-k in
    (omega (arith, w.invariant.0), w.invariant.1 ∙ mark-skip _ w.k (omega arith) (sym c.has_bit.ensures ∙ c.if-has_bit.false))

pub returns : goal.returns
returns c =
    sym (c.loop-k.invariant.1 ∙ mark-none _ c.loop-k.k (omega arith))
