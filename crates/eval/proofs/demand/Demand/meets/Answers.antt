use Rattle.eval.specs.InLent.{deck_in}
use Rattle.eval.proofs.PairLaws.{meets-within}
use Rattle.eval.proofs.demand.Demand.meets.Goals as goal

pub returns-in-Within-clause-is : goal.returns-in-Within-clause-is
returns-in-Within-clause-is c =
    let a = c.args in meets-within (deck_in a.judging.now.lent) a.judging.now.lent.labels.now a.judging.now.lent.edges.now a.judging.now.lent.shape a.e.from.0 a.e.to.0 _ c.in-Within.is c.from.ensures c.has_pair.ensures
