use Rattle.atoms.proofs.FloorLaws.{rows-and}
use Rattle.atoms.proofs.floor.join_required_atoms.Goals as goal

pub returns-in-And : goal.returns-in-And
returns-in-And c =
    rw (rows-and _ c.args.deck.now.accepted c.args.concept.0 c.concept_at-expr.ensures _ c.in-And.is) at c.join_operands.ensures
