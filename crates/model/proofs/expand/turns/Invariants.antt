use Prim.Native.Nat.{◌≤◌}
use mathlib.Core.Path.{◌≡◌}
use Rattle.eval.specs.Edges.{edges_of}
use Rattle.model.specs.Expand.{highest}
use Rattle.model.specs.Recall.{Recalls}
use Rattle.model.proofs.ApartLaws.{Since}
use Rattle.model.proofs.ExpandLaws.{untaken, Taking}
use Rattle.model.proofs.expand.turns.Given as goal

abbrev pub invariant-loop-e : goal.invariant-loop-e
invariant-loop-e l =
    let S = l.initial.b in
    let n = l.b.tally.elements in
    Taking S l.b l.taken × (l.from ≤ n) × (highest l.taken l.from ≡ highest l.taken n) × Since l.first (edges_of l.b.edges.now l.b.tally.edges) l.taken × Recalls S l.b l.known

abbrev pub decreases-loop-e : goal.decreases-loop-e
decreases-loop-e l = untaken l.taken 65536
