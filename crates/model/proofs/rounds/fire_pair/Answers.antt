use Rattle.std.proofs.Common.{sym, ◌∙◌}
use borrow.Author.Tests.{eqb-true, eqb-false}
use Rattle.build.proofs.BuildingLaws.{holds-is, holds-same}
use Rattle.model.proofs.RoundLaws.{pair_same, pair-differs}
use Rattle.model.proofs.TriggerLaws.{pair-idle}
use Rattle.model.proofs.rounds.fire_pair.Goals.{then-eq-via-then-eq, then-eq-via-else-eq+then-not-may_add}
use Rattle.model.proofs.rounds.fire_pair.Goals as goal

pub returns-then-eq : goal.returns-then-eq
returns-then-eq c =
    elim c.then-eq.branch [
      | then-eq-via-then-eq w ↦ holds-is (holds-same c.requires.ready) (pair_same _ _ _ _ _ _ _ (eqb-true _ _ (sym c.eq.ensures ∙ w.if-eq.true)))
      | then-eq-via-else-eq+then-not-may_add w ↦ holds-is (holds-same c.requires.ready) (pair-idle _ _ _ _ _ _ _ (sym w.may_add.ensures ∙ w.if-not-may_add.true))
    ]

pub returns : goal.returns
returns c =
    holds-is c.fire.ensures (pair-differs _ _ _ _ _ _ _ (eqb-false _ _ (sym c.eq.ensures ∙ c.if-eq.false)))
