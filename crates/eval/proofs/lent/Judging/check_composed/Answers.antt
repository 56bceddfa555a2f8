use mathlib.Core.Path.{◌∙◌}
use Rattle.eval.proofs.LentLaws.{edge-fits}
use Rattle.eval.proofs.PairLaws.{composed-fail, composed-hold}
use Rattle.eval.proofs.lent.Judging.check_composed.Goals as goal

pub returns-in-Some : goal.returns-in-Some
returns-in-Some c =
    c.check_onward.ensures ∙ composed-fail _ _ _ _ c.args.self.now.lent.fits c.args.a.0 c.args.b.0 c.args.sup.0 c.lowest_composed-lowest.ensures _ c.in-Some.is

pub returns-in-None : goal.returns-in-None
returns-in-None c =
    composed-hold _ _ _ _ c.args.self.now.lent.fits c.args.a.0 c.args.b.0 c.args.sup.0 c.lowest_composed-lowest.ensures c.in-None.is

pub check_onward-requires-clause-x_lt_elements : goal.check_onward-requires-clause-x_lt_elements
check_onward-requires-clause-x_lt_elements c =
    let L = c.args.self.now.lent in
    (edge-fits L.deck.bytes.now L.labels.now L.edges.now L.shape L.fits c.in-Some.e (c.lowest_composed-lowest.ensures.fails _ c.in-Some.is).met.member).from

pub check_onward-requires-clause-y_lt_elements : goal.check_onward-requires-clause-y_lt_elements
check_onward-requires-clause-y_lt_elements c =
    let L = c.args.self.now.lent in
    (edge-fits L.deck.bytes.now L.labels.now L.edges.now L.shape L.fits c.in-Some.e (c.lowest_composed-lowest.ensures.fails _ c.in-Some.is).met.member).to
