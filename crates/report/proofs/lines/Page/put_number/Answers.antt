use mathlib.Core.Path.{◌≡◌, ◌∙◌}
use Prim.Native.Nat.{◌<◌}
use native.Mathlib.Omega.{arith}
use lib.ListN.{take}
use Rattle.report.specs.Lines.{decimal}
use Rattle.report.proofs.DecimalLaws.{decimal-is, fewest-ten}
use Rattle.report.proofs.WriteLaws.{puts-is}
use Rattle.report.proofs.lines.Page.put_number.Goals as goal

pub put-requires : goal.put-requires
put-requires c =
    let n = c.args.n in
    let small : n < 4294967296 = omega arith in
    omega (arith, c.decimal-k.ensures.in_bounds.1, fewest-ten _ n c.decimal-k.ensures.len small)

pub returns : goal.returns
returns c =
    let n = c.args.n in
    let small : n < 4294967296 = omega arith in
    let e : take c.decimal-k.result c.decimal-k.new.out ≡ decimal n = c.decimal-k.ensures.digits ∙ decimal-is _ n c.decimal-k.ensures.len small in
    puts-is c.put.ensures e
