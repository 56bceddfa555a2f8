use mathlib.Core.Path.{sym, ◌∙◌}
use Rattle.atoms.specs.Label.{insert_all}
use Rattle.atoms.specs.Floor.{floor_of}
use Rattle.atoms.proofs.floor.join_sub_class.Goals as goal

pub returns-then-is_universal_antecedent : goal.returns-then-is_universal_antecedent
unfolding floor_of
returns-then-is_universal_antecedent c =
    rw (sym c.is_universal_antecedent.ensures ∙ c.if-is_universal_antecedent.true) c.join_required_atoms.ensures

pub returns-else-is_universal_antecedent : goal.returns-else-is_universal_antecedent
unfolding floor_of insert_all
returns-else-is_universal_antecedent c =
    rw (sym c.is_universal_antecedent.ensures ∙ c.if-is_universal_antecedent.false)
