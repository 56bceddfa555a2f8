use Prim.Native.Nat.{◌/◌}
use Rattle.eval.specs.InLent.{deck_in, structure}
use Rattle.eval.proofs.RoleLaws.{inverse-two, inverse-two-2, named-two, else-first, else-second}
use mathlib.Core.Path.{sym, ap, ◌∙◌}
use Rattle.eval.specs.Verdict.{verdict, guarded, or_else}
use Rattle.eval.proofs.lent.Judging.check_inverse_properties.Goals as goal

pub returns-then-is_inverse : goal.returns-then-is_inverse
unfolding verdict
returns-then-is_inverse c =
    let D = deck_in c.args.self.now.lent in
    let S = structure c.args.self.now.lent in
    inverse-two 8 c.args.p.0 c.args.q.0 (λ a b. or_else (guarded D S a) (guarded D S b)) (sym c.is_inverse.ensures ∙ c.if-is_inverse.true)

pub returns-then-is_inverse-2 : goal.returns-then-is_inverse-2
unfolding verdict
returns-then-is_inverse-2 c =
    let D = deck_in c.args.self.now.lent in
    let S = structure c.args.self.now.lent in
    inverse-two-2 8 c.args.p.0 c.args.q.0 (λ a b. or_else (guarded D S a) (guarded D S b)) (sym c.is_inverse.ensures ∙ c.if-is_inverse.false) (sym c.is_inverse-2.ensures ∙ c.if-is_inverse-2.true)

pub returns-then-not-holds : goal.returns-then-not-holds
unfolding verdict
returns-then-not-holds c =
    let D = deck_in c.args.self.now.lent in
    let S = structure c.args.self.now.lent in
    let first = rw c.role_id.ensures at c.check_guarded-first.ensures in
    else-first c.check_guarded-first.result (guarded D S (c.args.q.0 / 2)) (sym c.holds.ensures ∙ c.if-not-holds.true) ∙ ap (λ v. or_else v (guarded D S (c.args.q.0 / 2))) first
    ∙ named-two 8 c.args.p.0 c.args.q.0 (λ a b. or_else (guarded D S a) (guarded D S b)) (sym c.is_inverse.ensures ∙ c.if-is_inverse.false) (sym c.is_inverse-2.ensures ∙ c.if-is_inverse-2.false)

pub returns : goal.returns
unfolding verdict
returns c =
    let D = deck_in c.args.self.now.lent in
    let S = structure c.args.self.now.lent in
    let first = rw c.role_id.ensures at c.check_guarded-first.ensures in
    rw c.role_id-2.ensures at c.check_guarded.ensures
    ∙ else-second c.check_guarded-first.result (guarded D S (c.args.q.0 / 2)) (sym c.holds.ensures ∙ c.if-not-holds.false) ∙ ap (λ v. or_else v (guarded D S (c.args.q.0 / 2))) first
    ∙ named-two 8 c.args.p.0 c.args.q.0 (λ a b. or_else (guarded D S a) (guarded D S b)) (sym c.is_inverse.ensures ∙ c.if-is_inverse.false) (sym c.is_inverse-2.ensures ∙ c.if-is_inverse-2.false)
