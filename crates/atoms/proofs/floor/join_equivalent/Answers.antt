use mathlib.Core.Path.{sym, ◌∙◌}
use Rattle.atoms.specs.Label.{insert_all}
use Rattle.atoms.specs.Floor.{floor_of}
use Rattle.atoms.proofs.floor.join_equivalent.Goals as goal

pub returns-then-any_universal : goal.returns-then-any_universal
unfolding floor_of
returns-then-any_universal c =
    rw (sym c.any_universal.ensures ∙ c.if-any_universal.true) c.join_members.ensures

pub returns-else-any_universal : goal.returns-else-any_universal
unfolding floor_of insert_all
returns-else-any_universal c =
    rw (sym c.any_universal.ensures ∙ c.if-any_universal.false)
