-- the room for the text has room for any, so what stands at its start, as long as `report` says, is the text of the input
use Rattle.std.proofs.Common.{ap, arith, length, length-take}
use Rattle.report.proofs.TextLaws.{report-whole}
use Rattle.verify.proofs.main.Goals as goal

pub slice_bounds-text-end : goal.slice_bounds-text-end
slice_bounds-text-end c =
    let w = report-whole _ _ (omega (arith, c.text_room-text.ensures.value_2)) c.report-n.ensures.is in
    omega (arith, w.0, simp length-take at (ap length w.1))

pub slice_bounds-write_text-end : goal.slice_bounds-write_text-end
slice_bounds-write_text-end c =
    let w = report-whole _ _ (omega (arith, c.text_room-text.ensures.value_2)) c.report-n.ensures.is in
    omega (arith, w.0, ap length w.1)

pub write_text-requires : goal.write_text-requires
write_text-requires c =
    (report-whole _ _ (omega (arith, c.text_room-text.ensures.value_2)) c.report-n.ensures.is).1
