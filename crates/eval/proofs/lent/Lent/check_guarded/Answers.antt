use mathlib.Core.Path.{sym, ◌∙◌}
use Rattle.eval.proofs.PairLaws.{guarded-hit, guarded-free}
use Rattle.eval.proofs.lent.Lent.check_guarded.Goals as goal

pub returns-then-has_any : goal.returns-then-has_any
returns-then-has_any c =
    guarded-hit _ _ _ _ c.args.self.now.fits c.args.r.0 (sym c.has_any.ensures ∙ c.if-has_any.true)

pub returns : goal.returns
returns c =
    guarded-free _ _ _ _ c.args.self.now.fits c.args.r.0 (sym c.has_any.ensures ∙ c.if-has_any.false)
