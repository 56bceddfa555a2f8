use Rattle.model.proofs.TriggerLaws.{needs-and}
use Rattle.model.proofs.triggers.class_needed.Goals as goal

pub returns-in-And : goal.returns-in-And
returns-in-And c =
    needs-and _ c.args.deck.now.accepted c.args.concept.0 c.concept_at.ensures _ c.in-And.is _ c.first_atom.ensures
