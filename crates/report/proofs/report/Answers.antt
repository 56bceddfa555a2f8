use mathlib.Core.Path.{ap, ◌∙◌}
use native.Mathlib.Omega.{arith}
use lib.ListN.{length}
use Rattle.report.specs.Lines.{outcome_word}
use Rattle.report.proofs.WriteLaws.{wrote-length}
use Rattle.report.proofs.TextLaws.{wrote-put, wrote-text, report-short, report-done, report-copied, confirms}
use Rattle.report.proofs.report.Goals as goal

pub returns-then-out-ge204864 : goal.returns-then-out-ge204864
returns-then-out-ge204864 c =
    record { is = report-done _ c.write_text.ensures; confirmed = λ h. confirms _ (rw (wrote-text c.write_text.ensures) at h) }

pub returns-then-out-n : goal.returns-then-out-n
unfolding outcome_word
returns-then-out-n c =
    record { is = report-short _ _ (omega (arith, (wrote-put c.write_text-n.ensures).1, c.if-out-n.true)); confirmed = λ h. absurd (omega (arith, ap length h)) }

pub slice_bounds-text-end : goal.slice_bounds-text-end
slice_bounds-text-end c =
    omega (arith, c.write_text-n.ensures.end, c.write_text-n.ensures.fits, wrote-length c.write_text-n.ensures)

pub returns : goal.returns
returns c =
    let T = c.write_text-n.ensures in
    let r = report-copied c.args.input.now c.args.out.now (c.copy_from_slice.ensures.after ∙ wrote-text T) (wrote-put T).1 c.if-out-n.false in
    record { is = r.0; confirmed = λ h. confirms _ (rw r.1 at h) }
