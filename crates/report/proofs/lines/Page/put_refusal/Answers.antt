use native.Mathlib.Omega.{arith}
use Rattle.report.specs.Lines.{refusal_line}
use Rattle.report.proofs.LengthLaws.{field-most}
use Rattle.report.proofs.WriteLaws.{puts-more, room-after}
use Rattle.report.proofs.lines.Page.put_refusal.Goals as goal

pub put-requires-2 : goal.put-requires-2
put-requires-2 c = omega (arith, room-after 11 46 (room-after 7 57 c.requires c.put.ensures (omega arith)) c.put_field.ensures (field-most _))

pub returns : goal.returns
unfolding refusal_line
returns c = puts-more (puts-more c.put.ensures c.put_field.ensures) c.put-2.ensures
