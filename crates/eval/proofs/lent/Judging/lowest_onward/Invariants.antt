use lib.ListN.{length}
use Rattle.eval.specs.Edges.{leaves}
use Rattle.eval.specs.Judge.{truth}
use Rattle.eval.specs.Leaving.{leaving}
use Rattle.eval.specs.Structure.{has_edge}
use Rattle.eval.specs.InLent.{deck_in, structure, edges_in}
use Rattle.eval.proofs.SeenLaws.{SeenTo}
use Rattle.eval.proofs.lent.Judging.lowest_onward.Given as goal

abbrev pub invariant-loop-e : goal.invariant-loop-e
invariant-loop-e l = SeenTo (leaves (deck_in l.self.lent) l.b.0 l.y.0) (λ e. truth (has_edge (deck_in l.self.lent) (structure l.self.lent) l.sup.0 l.x.0 e.to.0)) (leaving l.y.0 (edges_in l.self.lent)) (length l.yielded) l.lowest
