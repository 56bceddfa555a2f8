use Rattle.eval.specs.InLent.{deck_in, structure}
use Rattle.eval.proofs.RoleLaws.{inverse-three, inverse-three-2, inverse-three-3, named-three}
use mathlib.Core.Path.{sym, ◌∙◌}
use Rattle.eval.specs.Verdict.{composed}
use Rattle.eval.proofs.lent.Judging.check_links.Goals as goal

pub returns-then-is_inverse : goal.returns-then-is_inverse
returns-then-is_inverse c =
    let D = deck_in c.args.self.now.lent in
    let S = structure c.args.self.now.lent in
    inverse-three 5 c.args.a.0 c.args.b.0 c.args.sup.0 (composed D S) (sym c.is_inverse.ensures ∙ c.if-is_inverse.true)

pub returns-then-is_inverse-2 : goal.returns-then-is_inverse-2
returns-then-is_inverse-2 c =
    let D = deck_in c.args.self.now.lent in
    let S = structure c.args.self.now.lent in
    inverse-three-2 5 c.args.a.0 c.args.b.0 c.args.sup.0 (composed D S) (sym c.is_inverse.ensures ∙ c.if-is_inverse.false) (sym c.is_inverse-2.ensures ∙ c.if-is_inverse-2.true)

pub returns-then-is_inverse-3 : goal.returns-then-is_inverse-3
returns-then-is_inverse-3 c =
    let D = deck_in c.args.self.now.lent in
    let S = structure c.args.self.now.lent in
    inverse-three-3 5 c.args.a.0 c.args.b.0 c.args.sup.0 (composed D S) (sym c.is_inverse.ensures ∙ c.if-is_inverse.false) (sym c.is_inverse-2.ensures ∙ c.if-is_inverse-2.false) (sym c.is_inverse-3.ensures ∙ c.if-is_inverse-3.true)

pub returns : goal.returns
returns c =
    let D = deck_in c.args.self.now.lent in
    let S = structure c.args.self.now.lent in
    rw (c.role_id.ensures, c.role_id-2.ensures, c.role_id-3.ensures) at c.check_composed.ensures
    ∙ named-three 5 c.args.a.0 c.args.b.0 c.args.sup.0 (composed D S) (sym c.is_inverse.ensures ∙ c.if-is_inverse.false) (sym c.is_inverse-2.ensures ∙ c.if-is_inverse-2.false) (sym c.is_inverse-3.ensures ∙ c.if-is_inverse-3.false)
