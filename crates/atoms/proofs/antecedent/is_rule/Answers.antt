use mathlib.Core.Path.{sym, ◌∙◌}
use Rattle.atoms.proofs.AntecedentLaws.{rule-atom, rule-universal}
use Rattle.atoms.proofs.antecedent.is_rule.Goals as goal

pub returns-then-has_atom : goal.returns-then-has_atom
returns-then-has_atom c =
    let e = sym c.has_atom.ensures ∙ c.if-has_atom.true in
    c.if-has_atom.true ∙ rule-atom _ _ e

pub returns-else-has_atom : goal.returns-else-has_atom
returns-else-has_atom c =
    c.is_universal_antecedent.ensures ∙ rule-universal _ _ (sym c.has_atom.ensures ∙ c.if-has_atom.false)
