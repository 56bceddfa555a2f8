use Rattle.std.proofs.Common.{sym, ◌∙◌}
use Rattle.atoms.proofs.RowLaws.{rows_at}
use Rattle.model.proofs.rounds.label_of.Goals as goal

pub returns-clause-is : goal.returns-clause-is
returns-clause-is c =
    rw c.requires.ready.label-wide at c.row.ensures.words ∙ sym (rows_at _ _ _ _ c.requires.e_lt_elements)
