use mathlib.Core.Path.{sym, ◌∙◌}
use Rattle.atoms.specs.Label.{insert_all}
use Rattle.atoms.specs.Floor.{member_rows}
use Rattle.atoms.proofs.floor.join_member.Goals as goal

pub returns-then-is_universal_antecedent : goal.returns-then-is_universal_antecedent
unfolding member_rows insert_all
returns-then-is_universal_antecedent c =
    rw (sym c.is_universal_antecedent.ensures ∙ c.if-is_universal_antecedent.true)

pub returns : goal.returns
unfolding member_rows
returns c =
    rw (sym c.is_universal_antecedent.ensures ∙ c.if-is_universal_antecedent.false) c.join_required_atoms.ensures
