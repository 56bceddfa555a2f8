use native.Mathlib.Omega.{arith}
use borrow.Author.Tests.{ne_eqb}
use mathlib.Core.Path.{◌≡◌}
use Prim.Native.Nat.{◌<◌}
use lib.ListN.{get_or}
use Rattle.report.specs.Lines.{verdict_text}
use Rattle.report.proofs.LengthLaws.{witness-most, field-most}
use Rattle.report.proofs.WriteLaws.{puts-more, room-after}
use Rattle.report.proofs.lines.Page.put_verdict.Goals as goal

pub put_witness-requires-in-1 : goal.put_witness-requires-in-1
put_witness-requires-in-1 c =
    let a = room-after 6 33 c.requires c.put-in-1.ensures (omega arith) in
    omega (arith, room-after 11 22 a c.put_witness.ensures (witness-most _))

pub put_witness-requires-in-1-2 : goal.put_witness-requires-in-1-2
put_witness-requires-in-1-2 c =
    let a = room-after 6 33 c.requires c.put-in-1.ensures (omega arith) in
    room-after 11 11 (room-after 11 22 a c.put_witness.ensures (witness-most _)) c.put_witness-in-1.ensures (witness-most _)

pub put_field-requires-in_default : goal.put_field-requires-in_default
put_field-requires-in_default c =
    let a = room-after 5 34 c.requires c.put-in_default.ensures (omega arith) in
    omega (arith, room-after 11 23 a c.put_field.ensures (field-most _))

pub put_field-requires-in_default-2 : goal.put_field-requires-in_default-2
put_field-requires-in_default-2 c =
    let a = room-after 5 34 c.requires c.put-in_default.ensures (omega arith) in
    omega (arith, room-after 11 12 (room-after 11 23 a c.put_field.ensures (field-most _)) c.put_field-in_default.ensures (field-most _))

pub returns-in-0 : goal.returns-in-0
unfolding verdict_text
returns-in-0 c =
    let e : get_or c.args.words 0 0 ≡ 0 = omega arith in
    rw e c.put.ensures

pub returns-in-1 : goal.returns-in-1
unfolding verdict_text
returns-in-1 c =
    let e : get_or c.args.words 0 0 ≡ 1 = omega arith in
    rw e (puts-more (puts-more (puts-more c.put-in-1.ensures c.put_witness.ensures) c.put_witness-in-1.ensures) c.put_witness-in-1-2.ensures)

pub returns-in_default : goal.returns-in_default
unfolding verdict_text
returns-in_default c =
    let l : 1 < get_or c.args.words 0 0 = omega arith in
    let w = get_or c.args.words 0 0 in
    rw (ne_eqb w 0 (λ (e : w ≡ 0). omega (arith, l, e)), ne_eqb w 1 (λ (e : w ≡ 1). omega (arith, l, e)))
    (puts-more (puts-more (puts-more c.put-in_default.ensures c.put_field.ensures) c.put_field-in_default.ensures) c.put_field-in_default-2.ensures)
