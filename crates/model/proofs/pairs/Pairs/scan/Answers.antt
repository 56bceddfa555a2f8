use native.Mathlib.Omega.{arith}
use mathlib.Core.Path.{◌≡◌}
use Rattle.model.proofs.NextLaws.{near-start, near_step, key-start, key-next, nearest-of}
use Rattle.model.proofs.pairs.Pairs.scan.Goals as goal

pub loop-i-init : goal.loop-i-init
loop-i-init c =
    near-start _ _ _ (λ u. key-start _ _ _ _)

pub loop-i-preserved : goal.loop-i-preserved
loop-i-preserved c =
    let s = c.args.self.now in
    rw (c.nearer-best.ensures, c.edge_at.ensures) (near_step _ _ _ _ _ _ _ (key-next _ _ s.seen _ (omega (arith, s.within, s.all.within)) s.ends_fit c.loop-i.i (omega arith)) c.loop-i.invariant)

pub returns : goal.returns
returns c =
    let s = c.args.self.now in
    let e : c.loop-i.i ≡ s.seen = omega (arith, c.loop-i.auto) in
    rw c.then_some.ensures (nearest-of _ _ _ _ (rw e at c.loop-i.invariant))
