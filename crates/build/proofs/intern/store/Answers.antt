use mathlib.Core.Path.{◌≡◌, refl}
use native.Mathlib.Omega.{arith}
use native.Mathlib.Numerals.{add-one}
use lib.ListN.{length, length-set}
use lib.Seq.{paste-zero, paste-suc}
use Rattle.build.proofs.intern.store.Goals as goal

pub loop-i-init : goal.loop-i-init
loop-i-init c =
    (paste-zero c.args.labels.now c.args.at c.args.label.now, refl)

pub loop-i-preserved : goal.loop-i-preserved
loop-i-preserved c =
    let a = c.args in
    (rw (c.loop-i.invariant.0, add-one) (paste-suc a.labels.now a.at a.label.now c.loop-i.i 0 (omega arith) (omega arith)), simp length-set (omega arith))

pub returns : goal.returns
returns c =
    let e : c.loop-i.i ≡ length c.args.label.now = omega arith in
    rw e at c.loop-i.invariant.0
