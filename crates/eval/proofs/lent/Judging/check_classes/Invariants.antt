use mathlib.Core.List.{map}
use Rattle.deck.specs.Reads.{list_of}
use Rattle.eval.specs.Judge.{judge}
use Rattle.eval.specs.Verdict.{no_votes, votes}
use Rattle.eval.specs.Relation.{outcome}
use Rattle.eval.specs.InLent.{deck_in, structure, Remembered}
use Rattle.eval.proofs.ElementLoops.{Passed}
use Rattle.eval.proofs.lent.Judging.check_classes.Given as goal

abbrev pub invariant-loop-e : goal.invariant-loop-e
invariant-loop-e l = Passed (λ x. outcome l.relation (votes no_votes (map (λ m. judge (deck_in l.self.lent) (structure l.self.lent) m x) (list_of l.self.lent.deck.bytes.now l.list)))) l.self.lent.shape.elements l.e l.standing × Remembered l.self.lent l.memo
