use mathlib.Core.Path.{sym, ◌∙◌}
use mathlib.Core.List.{[]}
use Rattle.eval.proofs.RoleLaws.{inverse-first, named-last}
use Rattle.eval.proofs.lent.Judging.check_ends.Goals as goal

pub returns-then-is_inverse-clause-is : goal.returns-then-is_inverse-clause-is
returns-then-is_inverse-clause-is c =
    inverse-first c.args.tag c.args.role.0 [] _ (sym c.is_inverse.ensures ∙ c.if-is_inverse.true)

pub returns-clause-is : goal.returns-clause-is
returns-clause-is c =
    c.check_pairs.ensures.is ∙ named-last c.args.tag c.args.role.0 _ (sym c.is_inverse.ensures ∙ c.if-is_inverse.false)
