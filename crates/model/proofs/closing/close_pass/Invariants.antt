use lib.ListN.{drop}
use Rattle.build.specs.Building.{deck_in}
use Rattle.model.specs.Closing.{close_axiom, Closes}
use Rattle.model.proofs.EdgeSteps.{OnBuild}
use Rattle.model.proofs.closing.close_pass.Given as goal

abbrev pub invariant-loop-i : goal.invariant-loop-i
invariant-loop-i l =
    let S = l.initial.b in
    record {
      on : OnBuild S (close_axiom (deck_in S) S.tally.elements S.plan.bounds.max_edges) (deck_in S).axioms (drop l.i (deck_in S).axioms) l.b;
      closes : Closes l.b;
    }
