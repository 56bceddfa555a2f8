use Rattle.model.proofs.SweepLaws.{Sweep}
use Rattle.model.specs.Pairs.{link_key}
use Rattle.eval.specs.Index.{Ahead}
use Rattle.eval.specs.Edges.{edges_of}
use Rattle.deck.specs.Content.{deck_of}
use Prim.Native.Nat.{ℕ, ◌≤◌, ◌-◌}
use Rattle.model.proofs.pairs.Pairs.next_from.Given as goal

abbrev pub invariant-loop-w : goal.invariant-loop-w
invariant-loop-w l =
    let s = l.self in
    record {
      within : l.w.at ≤ s.all.count;
      ahead : Ahead s.all.edges.now s.all.elements s.all.index.now l.x.0 l.w.at l.w.run;
      sweep : Sweep (λ (i : ℕ). link_key (deck_of s.deck.bytes.now) (edges_of s.all.edges.now i) s.role.0) s.seen l.after l.end l.w.at l.best;
    }

abbrev pub decreases-loop-w : goal.decreases-loop-w
decreases-loop-w l = l.self.all.count - l.w.at
