use Rattle.deck.specs.Deck.{role_of, role_id}
use Rattle.eval.specs.Demand.{demand_at}
use Rattle.eval.specs.Edges.{edges_by, under}
use Rattle.eval.specs.Structure.{pair}
use Rattle.eval.specs.InLent.{deck_in, structure, edges_in, Remembered}
use Rattle.eval.proofs.SeenLaws.{SeenTo}
use Rattle.eval.proofs.lent.Judging.lowest_failing.Given as goal

abbrev pub invariant-loop-i : goal.invariant-loop-i
invariant-loop-i l = let w = role_of l.role.0 in
    SeenTo (under (deck_in l.self.lent) (role_id w)) (λ e. demand_at (deck_in l.self.lent) (structure l.self.lent) l.demand (pair e.from.0 e.to.0)) (edges_by w (edges_in l.self.lent)) l.i l.lowest × Remembered l.self.lent l.memo
