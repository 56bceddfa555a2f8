use Prim.Native.Nat.{◌+◌, ◌*◌, ◌-◌}
use mathlib.Core.Path.{◌≡◌, sym}
use native.Mathlib.Omega.{arith}
use Rattle.atoms.proofs.RowLaws.{rows_at}
use Rattle.atoms.proofs.labels.label_at.Goals as goal

pub returns : goal.returns
returns c =
    let w = c.label_width-width.result in
    let e = c.args.e.0 in
    let q : e * w + w - e * w ≡ w = omega arith in
    rw (q, c.label_width-width.ensures.0) (sym (rows_at _ _ _ e c.requires.e_lt_elements))
