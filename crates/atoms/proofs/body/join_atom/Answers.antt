use Rattle.atoms.proofs.BodyLaws.{joined-row, joined-delta, joined-open}
use Rattle.atoms.proofs.body.join_atom.Goals as goal

pub returns-in-Row : goal.returns-in-Row
returns-in-Row c =
    joined-row _ _ _ c.join_target.ensures.value _ _ _ c.with-met.ensures c.join_target.ensures.taken _ c.in-Row.is

pub returns-in-Delta : goal.returns-in-Delta
returns-in-Delta c =
    joined-delta _ _ _ c.join_target.ensures.value _ _ _ c.with-met.ensures c.join_target.ensures.taken _ c.in-Delta.is c.note-reasons.ensures.0 c.note-reasons.ensures.1

pub returns-in-NotClosed : goal.returns-in-NotClosed
returns-in-NotClosed c =
    joined-open _ _ _ c.join_target.ensures.value _ _ _ c.with-met.ensures c.join_target.ensures.taken c.in-NotClosed.is
