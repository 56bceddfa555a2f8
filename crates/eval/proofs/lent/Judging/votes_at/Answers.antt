use native.Mathlib.Omega.{arith}
use mathlib.Core.Path.{sym, ◌∙◌}
use Rattle.deck.specs.Reads.{list_of}
use Rattle.deck.proofs.TableLaws.{list_length}
use Rattle.eval.proofs.Walks.{votes-end, votes-step, vote-adds}
use Rattle.eval.proofs.lent.Judging.votes_at.Goals as goal

pub loop-i-preserved : goal.loop-i-preserved
loop-i-preserved c =
    let l = c.args.list in
    let w = c.loop-i in
    let h = list_length c.args.self.now.lent.deck.bytes.now l.start l.count in
    (omega (arith, vote-adds w.votes c.eval_concept.result c.vote-votes.ensures), w.invariant.1 ∙ votes-step _ w.votes (list_of c.args.self.now.lent.deck.bytes.now l) w.i (omega (arith, h)) (rw c.item.ensures at c.eval_concept.ensures.is) c.vote-votes.ensures, c.eval_concept.ensures.kept)

pub returns-clause-counted : goal.returns-clause-counted
returns-clause-counted c =
    let l = c.args.list in
    let w = c.loop-i in
    let h = list_length c.args.self.now.lent.deck.bytes.now l.start l.count in
    votes-end _ w.votes (list_of c.args.self.now.lent.deck.bytes.now l) w.i (omega (arith, h)) ∙ sym w.invariant.1

pub eval_concept-requires-clause-concept_bound : goal.eval_concept-requires-clause-concept_bound
eval_concept-requires-clause-concept_bound c =
    let l = c.args.list in
    omega (arith, c.requires.list_fits.below c.loop-i.i (omega (arith, list_length c.args.self.now.lent.deck.bytes.now l.start l.count)), c.item.ensures)
