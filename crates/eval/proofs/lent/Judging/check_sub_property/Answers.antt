use mathlib.Core.Path.{sym, ◌∙◌}
use mathlib.Core.List.{[], ◌∷◌}
use Rattle.deck.specs.Deck.{role_of}
use Rattle.eval.specs.Verdict.{verdict, within}
use Rattle.eval.proofs.RoleLaws.{inverse-first, named-first, named-last}
use Rattle.eval.proofs.lent.Judging.check_sub_property.Goals as goal

pub returns-then-is_inverse-clause-is : goal.returns-then-is_inverse-clause-is
unfolding verdict
returns-then-is_inverse-clause-is c =
    let a = c.args in inverse-first 4 a.sub.0 (role_of a.sup.0 ∷ []) _ (sym c.is_inverse.ensures ∙ c.if-is_inverse.true)

pub returns-then-is_inverse-2-clause-is : goal.returns-then-is_inverse-2-clause-is
unfolding verdict
returns-then-is_inverse-2-clause-is c =
    let a = c.args in inverse-first 4 a.sup.0 [] _ (sym c.is_inverse-2.ensures ∙ c.if-is_inverse-2.true) ∙ sym (named-first 4 a.sub.0 (role_of a.sup.0 ∷ []) _ (sym c.is_inverse.ensures ∙ c.if-is_inverse.false))

pub returns-clause-is : goal.returns-clause-is
unfolding verdict within
returns-clause-is c =
    let a = c.args in
    c.check_pairs.ensures.is
    ∙ named-last 4 a.sup.0 _ (sym c.is_inverse-2.ensures ∙ c.if-is_inverse-2.false)
    ∙ sym (named-first 4 a.sub.0 (role_of a.sup.0 ∷ []) _ (sym c.is_inverse.ensures ∙ c.if-is_inverse.false))
