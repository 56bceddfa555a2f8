use Prim.Native.Nat.{◌-◌, ◌≤◌}
use Rattle.eval.specs.Index.{Ahead, Gap}
use Rattle.eval.proofs.index.EdgeIndex.step.Given as goal

abbrev pub invariant-loop-w : goal.invariant-loop-w
invariant-loop-w l = (l.fn.walk.at ≤ l.w.at) × (l.w.at ≤ l.self.count) × Gap l.self.edges.now l.x.0 l.fn.walk.at l.w.at × Ahead l.self.edges.now l.self.elements l.self.index.now l.x.0 l.w.at l.w.run

abbrev pub decreases-loop-w : goal.decreases-loop-w
decreases-loop-w l = l.self.count - l.w.at
