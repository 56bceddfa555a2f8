use mathlib.Core.Path.{sym, ◌∙◌}
use Rattle.atoms.proofs.FloorLaws.{floor-off, floor-on}
use Rattle.atoms.proofs.floor.apply_floor.Goals as goal

pub returns-then-has_real : goal.returns-then-has_real
returns-then-has_real c =
    sym (floor-off _ _ _ (sym c.has_real.ensures ∙ c.if-has_real.true))

pub returns : goal.returns
returns c =
    c.join.ensures ∙ sym (floor-on _ _ _ (sym c.has_real.ensures ∙ c.if-has_real.false))
