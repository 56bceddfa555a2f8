use Prim.Native.Nat.{◌-◌, ◌*◌}
use Rattle.eval.specs.Index.{Indexed}
use Rattle.build.specs.Building.{deck_in}
use Rattle.model.specs.Closing.{close_from, Closes}
use Rattle.model.specs.Pairs.{pair_of}
use Rattle.model.proofs.GoingLaws.{Going}
use Rattle.model.proofs.closing.close_pairs.Given as goal

abbrev pub invariant-loop-k : goal.invariant-loop-k
invariant-loop-k l =
    let S = l.initial.b in
    record {
      going : Going S (λ k. close_from (deck_in S) S.tally.elements S.plan.bounds.max_edges l.rule.second.0 l.rule.third.0 (pair_of k)) l.rule.first.0 (S.tally.elements * 65536) l.b l.after;
      closes : Closes l.b;
      indexed : Indexed l.b.edges.now l.b.tally.elements l.b.tally.edges l.index;
    }

abbrev pub decreases-loop-k : goal.decreases-loop-k
decreases-loop-k l = l.elements * 65536 - l.after
