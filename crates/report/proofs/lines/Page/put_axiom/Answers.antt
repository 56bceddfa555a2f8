use native.Mathlib.Omega.{arith}
use Rattle.report.specs.Lines.{verdict_line}
use Rattle.report.proofs.LengthLaws.{decimal-most, verdict-most}
use Rattle.report.proofs.WriteLaws.{puts-more, room-after}
use Rattle.report.proofs.lines.Page.put_axiom.Goals as goal

pub put_verdict-requires : goal.put_verdict-requires
put_verdict-requires c =
    omega (arith, room-after 10 40 c.requires c.put_number.ensures (decimal-most _))

pub put-requires : goal.put-requires
put-requires c =
    room-after 39 1 (room-after 10 40 c.requires c.put_number.ensures (decimal-most _)) c.put_verdict.ensures (verdict-most _ _ _ _)

pub returns : goal.returns
unfolding verdict_line
returns c = puts-more (puts-more c.put_number.ensures c.put_verdict.ensures) c.put.ensures
