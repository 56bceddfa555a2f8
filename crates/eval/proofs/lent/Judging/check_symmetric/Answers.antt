use Rattle.eval.specs.InLent.{deck_in, structure}
use Rattle.eval.proofs.RoleLaws.{inverse-one, named-one}
use mathlib.Core.Path.{sym, ◌∙◌}
use Rattle.eval.specs.Verdict.{verdict, guarded}
use Rattle.eval.proofs.lent.Judging.check_symmetric.Goals as goal

pub returns-then-is_inverse : goal.returns-then-is_inverse
unfolding verdict
returns-then-is_inverse c =
    let D = deck_in c.args.self.now.lent in
    let S = structure c.args.self.now.lent in
    inverse-one 12 c.args.role.0 (guarded D S) (sym c.is_inverse.ensures ∙ c.if-is_inverse.true)

pub returns : goal.returns
unfolding verdict
returns c =
    let D = deck_in c.args.self.now.lent in
    let S = structure c.args.self.now.lent in
    rw c.role_id.ensures at c.check_guarded.ensures ∙ named-one 12 c.args.role.0 (guarded D S) (sym c.is_inverse.ensures ∙ c.if-is_inverse.false)
