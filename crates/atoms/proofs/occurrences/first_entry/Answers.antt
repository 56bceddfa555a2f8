use borrow.Enum.Refused.{opened}
use native.Mathlib.Omega.{arith}
use Rattle.deck.proofs.SoundLaws.{limited}
use Rattle.atoms.proofs.FloorLaws.{fits_read}
use Rattle.atoms.proofs.OccurrenceLaws.{first-atomic, first-and, first-other}
use Rattle.atoms.proofs.occurrences.first_entry.Goals as goal

pub returns-in-Atomic : goal.returns-in-Atomic
returns-in-Atomic c =
    first-atomic _ c.args.deck.now.accepted c.args.concept.0 c.concept_at-expr.ensures _ c.in-Atomic.is (omega (arith, fits_read _ c.args.deck.now.accepted c.args.concept.0 c.concept_at-expr.ensures _ c.in-Atomic.is, (limited _ c.args.deck.now.accepted).classes))

pub returns-in-And : goal.returns-in-And
returns-in-And c =
    first-and _ c.args.deck.now.accepted c.args.concept.0 c.concept_at-expr.ensures _ c.in-And.is _ c.first_in.ensures

pub returns-in_default : goal.returns-in_default
returns-in_default c =
    first-other _ c.args.deck.now.accepted c.args.concept.0 c.concept_at-expr.ensures (opened c.in_default.in_default-own.keys3)
