use mathlib.Core.Path.{sym, ◌∙◌}
use Rattle.build.proofs.PushLaws.{left-known, left-new}
use Rattle.build.proofs.push.push_edge.Goals as goal

pub returns-then-is_known : goal.returns-then-is_known
returns-then-is_known c =
    left-known _ _ _ _ _ c.requires.room (sym c.is_known.ensures ∙ c.if-is_known.true)

pub returns : goal.returns
returns c =
    left-new _ _ _ _ _ c.requires.room (sym c.is_known.ensures ∙ c.if-is_known.false) c.add_edge.ensures
