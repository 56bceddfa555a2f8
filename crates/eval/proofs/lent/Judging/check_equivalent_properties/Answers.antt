use mathlib.Core.Path.{sym, ◌∙◌}
use Rattle.eval.specs.Verdict.{verdict}
use Rattle.eval.proofs.lent.Judging.check_equivalent_properties.Goals as goal

pub returns-then-any_inverse-clause-is : goal.returns-then-any_inverse-clause-is
unfolding verdict
returns-then-any_inverse-clause-is c =
    rw (sym c.any_inverse.ensures ∙ c.if-any_inverse.true)

pub returns-clause-is : goal.returns-clause-is
unfolding verdict
returns-clause-is c =
    rw (sym c.any_inverse.ensures ∙ c.if-any_inverse.false) c.check_members.ensures.is
