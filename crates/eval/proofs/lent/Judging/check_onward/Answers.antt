use Rattle.eval.proofs.PairLaws.{onward-fail, onward-hold}
use Rattle.eval.proofs.lent.Judging.check_onward.Goals as goal

pub returns-in-Some : goal.returns-in-Some
returns-in-Some c =
    onward-fail _ _ _ _ c.args.self.now.lent.fits c.args.b.0 c.args.sup.0 c.args.x.0 c.args.y.0 c.lowest_onward-lowest.ensures _ c.in-Some.is

pub returns-in-None : goal.returns-in-None
returns-in-None c =
    onward-hold _ _ _ _ c.args.self.now.lent.fits c.args.b.0 c.args.sup.0 c.args.x.0 c.args.y.0 c.lowest_onward-lowest.ensures c.in-None.is
