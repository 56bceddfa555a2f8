use mathlib.Core.Path.{◌≡◌, sym}
use native.Mathlib.Omega.{arith}
use lib.ListN.{length}
use Rattle.atoms.specs.Label.{joined}
use Rattle.atoms.proofs.LabelLaws.{join-none, join_more}
use Rattle.atoms.proofs.labels.join.Goals as goal

pub loop-i-init : goal.loop-i-init
loop-i-init c =
    join-none _ _

pub loop-i-preserved : goal.loop-i-preserved
loop-i-preserved c =
    rw c.loop-i.invariant (sym (join_more _ _ c.loop-i.i))

pub returns : goal.returns
unfolding joined
returns c =
    let e : c.loop-i.i ≡ length c.args.label.now = omega (arith, c.loop-i.auto) in
    rw e at c.loop-i.invariant
