use native.Mathlib.Omega.{arith}
use Rattle.report.specs.Lines.{summary_line}
use Rattle.report.proofs.LengthLaws.{field-most, outcome-most}
use Rattle.report.proofs.WriteLaws.{puts-more, room-after}
use Rattle.report.proofs.lines.Page.put_summary.Goals as goal

pub put_field-requires : goal.put_field-requires
put_field-requires c =
    let a = room-after 9 55 c.requires c.put_outcome.ensures (outcome-most _) in
    omega (arith, a)

pub put_field-requires-2 : goal.put_field-requires-2
put_field-requires-2 c =
    let a = room-after 9 55 c.requires c.put_outcome.ensures (outcome-most _) in
    omega (arith, room-after 11 44 a c.put_field.ensures (field-most _))

pub put_field-requires-3 : goal.put_field-requires-3
put_field-requires-3 c =
    let a = room-after 9 55 c.requires c.put_outcome.ensures (outcome-most _) in
    let b = room-after 11 44 a c.put_field.ensures (field-most _) in
    omega (arith, room-after 11 33 b c.put_field-2.ensures (field-most _))

pub put-requires : goal.put-requires
put-requires c =
    let a = room-after 9 55 c.requires c.put_outcome.ensures (outcome-most _) in
    let b = room-after 11 44 a c.put_field.ensures (field-most _) in
    let d = room-after 11 33 b c.put_field-2.ensures (field-most _) in
    omega (arith, room-after 11 22 d c.put_field-3.ensures (field-most _))

pub returns : goal.returns
unfolding summary_line
returns c =
    puts-more (puts-more (puts-more (puts-more c.put_outcome.ensures c.put_field.ensures) c.put_field-2.ensures) c.put_field-3.ensures) c.put.ensures
