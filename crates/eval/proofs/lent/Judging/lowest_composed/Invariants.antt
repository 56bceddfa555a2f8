use Rattle.eval.specs.Edges.{under}
use Rattle.eval.specs.Judge.{truth}
use Rattle.eval.specs.Verdict.{is_holds, onward}
use Rattle.eval.specs.InLent.{deck_in, structure, edges_in}
use Rattle.eval.proofs.SeenLaws.{SeenTo}
use Rattle.eval.proofs.lent.Judging.lowest_composed.Given as goal

abbrev pub invariant-loop-i : goal.invariant-loop-i
invariant-loop-i l = SeenTo (under (deck_in l.self.lent) l.a.0) (λ e. truth (is_holds (onward (deck_in l.self.lent) (structure l.self.lent) l.b.0 l.sup.0 e.from.0 e.to.0))) (edges_in l.self.lent) l.i l.lowest
