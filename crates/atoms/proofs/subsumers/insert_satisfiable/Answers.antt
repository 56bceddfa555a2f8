use mathlib.Core.Path.{sym, ◌∙◌}
use Rattle.atoms.specs.Label.{insert_all}
use Rattle.atoms.specs.Floor.{satisfiable_row}
use Rattle.atoms.proofs.subsumers.insert_satisfiable.Goals as goal

pub returns-then-is_unsatisfiable : goal.returns-then-is_unsatisfiable
unfolding satisfiable_row insert_all
returns-then-is_unsatisfiable c =
    rw (sym c.is_unsatisfiable.ensures ∙ c.if-is_unsatisfiable.true)

pub returns : goal.returns
unfolding satisfiable_row
returns c =
    rw (sym c.is_unsatisfiable.ensures ∙ c.if-is_unsatisfiable.false) c.insert_subsumers.ensures
