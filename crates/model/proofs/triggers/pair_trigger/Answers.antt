use mathlib.Core.Path.{sym, ◌∙◌}
use borrow.Author.Tests.{eqb-true}
use Rattle.model.proofs.TriggerLaws.{pair-backward, pair-forward, pair-both}
use Rattle.model.proofs.triggers.pair_trigger.Goals as goal

pub returns-in-Never-default : goal.returns-in-Never-default
returns-in-Never-default c =
    pair-backward _ _ _ _ (rw c.in-Never-default.is-0 at c.sub_class_trigger-forward.ensures) c.sub_class_trigger-backward.ensures

pub returns-in-Needs-Needs : goal.returns-in-Needs-Needs
returns-in-Needs-Needs c =
    let w = c.in-Needs-Needs in
    rw w.is-0 (pair-both _ _ _ w.j w.k (rw w.is-0 at c.sub_class_trigger-forward.ensures) (rw w.is-1 at c.sub_class_trigger-backward.ensures) (eqb-true w.j.0 w.k.0 (rw (w.is-0, w.is-1) at (sym c.eq.ensures ∙ c.if-eq.true))))

pub returns-in_default-Never : goal.returns-in_default-Never
returns-in_default-Never c =
    pair-forward _ _ _ _ c.sub_class_trigger-forward.ensures (rw c.in_default-Never.is-1 at c.sub_class_trigger-backward.ensures)
