use Rattle.model.proofs.SweepLaws.{rows_none, rows-nothing}
use Rattle.model.specs.PairWalks.{hits}
use native.Mathlib.Omega.{arith}
use Rattle.model.proofs.pairs.Pairs.walk.Goals as goal

pub loop-x-init : goal.loop-x-init
loop-x-init c =
    rows_none (hits c.args.self.now) c.args.after 0 _ (omega arith)

pub returns : goal.returns
returns c =
    rows-nothing _ _ _ c.loop-x.x (omega (arith, c.loop-x.auto, c.requires)) c.loop-x.invariant
