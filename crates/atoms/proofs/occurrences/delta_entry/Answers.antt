use borrow.Enum.Refused.{opened}
use mathlib.Core.Path.{◌∙◌}
use Rattle.atoms.proofs.FloorLaws.{fits_read}
use Rattle.atoms.proofs.OccurrenceLaws.{count-atomic, count-and, count-other}
use Rattle.atoms.proofs.occurrences.delta_entry.Goals as goal

pub returns-in-Atomic : goal.returns-in-Atomic
returns-in-Atomic c =
    c.atom_count.ensures ∙ count-atomic _ c.args.deck.now.accepted c.args.concept.0 c.concept_at-expr.ensures _ _ c.in-Atomic.is

pub returns-in-And : goal.returns-in-And
returns-in-And c =
    let f = fits_read _ c.args.deck.now.accepted c.args.concept.0 c.concept_at-expr.ensures _ c.in-And.is in
    c.sum_entries.ensures ∙ count-and _ c.args.deck.now.accepted c.args.concept.0 c.concept_at-expr.ensures _ _ c.in-And.is f c.args.table.now c.requires.deltas_to

pub returns-in_default : goal.returns-in_default
returns-in_default c =
    count-other _ c.args.deck.now.accepted c.args.concept.0 c.concept_at-expr.ensures _ (opened c.in_default.in_default-own.keys3)
