use native.Mathlib.Omega.{arith}
use Rattle.deck.proofs.SoundLaws.{limited}
use Rattle.atoms.proofs.LargeLaws.{quiet-deltas}
use Rattle.atoms.proofs.StandingLaws.{places-none}
use Rattle.atoms.proofs.large.note_counted.Goals as goal

pub returns-then-not-delta : goal.returns-then-not-delta
returns-then-not-delta c =
    quiet-deltas _ _ _ c.requires.delta_value c.if-not-delta.true _

pub overflow_add-concept : goal.overflow_add-concept
overflow_add-concept c =
    omega (arith, c.requires.concept_bound, (limited _ c.args.deck.now.accepted).concepts)

pub note_deltas-requires-clause-concept_in_bounds : goal.note_deltas-requires-clause-concept_in_bounds
note_deltas-requires-clause-concept_in_bounds c =
    (omega (arith, c.fill_deltas.auto.table, c.requires.concept_in_bounds), omega (arith, c.requires.concept_bound, (limited _ c.args.deck.now.accepted).concepts))

pub note_deltas-requires-clause-places : goal.note_deltas-requires-clause-places
note_deltas-requires-clause-places c =
    places-none _ _ _ _ 16384
