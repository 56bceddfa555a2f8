use mathlib.Core.Path.{◌≡◌}
use lib.ListN.{length}
use Rattle.eval.specs.Lent.{label_width}
use Rattle.build.specs.Building.{Same, deck_in}
use Rattle.build.specs.Intern.{Held}
use Rattle.build.specs.Model.{among}
use Rattle.build.specs.Prints.{Chained}
use Rattle.build.specs.Seed.{seeds, last_label}
use Rattle.build.proofs.building.Build.seed_classes.Given as goal

abbrev pub invariant-loop-k : goal.invariant-loop-k
invariant-loop-k l =
    let S = l.initial.self in
    let B = l.self in
    Same S B × (length B.label.now ≡ length S.label.now) × (B.label.now ≡ last_label (deck_in S) S.plan.floor.now S.label.now l.k) × Held (label_width (deck_in S)) S.labels.now B.labels.now B.tally.elements (seeds (deck_in S) S.plan.floor.now l.k)
    × Chained (seeds (deck_in S) S.plan.floor.now l.k) l.heads l.links × (B.edges ≡ S.edges) × (B.log ≡ S.log) × (B.tally ≡ among B.tally.elements S.tally)
