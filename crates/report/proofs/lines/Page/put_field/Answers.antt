use native.Mathlib.Omega.{arith}
use Rattle.report.specs.Lines.{field}
use Rattle.report.proofs.WriteLaws.{puts-more, room-after}
use Rattle.report.proofs.lines.Page.put_field.Goals as goal

pub put_number-requires : goal.put_number-requires
put_number-requires c = room-after 1 10 c.requires c.put.ensures (omega arith)

pub returns : goal.returns
unfolding field
returns c = puts-more c.put.ensures c.put_number.ensures
