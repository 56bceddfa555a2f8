use Rattle.atoms.proofs.OccurrenceLaws.{count-row, count-delta, count-open}
use Rattle.atoms.proofs.occurrences.atom_count.Goals as goal

pub returns-in-Row : goal.returns-in-Row
returns-in-Row c =
    count-row _ _ _ c.target_label-by.ensures.value _ c.in-Row.is

pub returns-in-Delta : goal.returns-in-Delta
returns-in-Delta c =
    count-delta _ _ _ c.target_label-by.ensures.value _ c.in-Delta.is

pub returns-in-NotClosed : goal.returns-in-NotClosed
returns-in-NotClosed c =
    count-open _ _ _ c.target_label-by.ensures.value c.in-NotClosed.is
