use Rattle.model.proofs.TriggerLaws.{needs-atomic}
use Rattle.model.proofs.triggers.atom_of.Goals as goal

pub returns-in-Atomic : goal.returns-in-Atomic
returns-in-Atomic c =
    needs-atomic _ c.args.deck.now.accepted c.args.concept.0 c.concept_at.ensures _ c.in-Atomic.is
