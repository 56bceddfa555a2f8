use mathlib.Core.Path.{ap, ◌∙◌}
use native.Mathlib.Omega.{arith}
use Rattle.deck.proofs.SoundLaws.{limited}
use Rattle.atoms.specs.Reasons.{noted}
use Rattle.atoms.proofs.LargeLaws.{first-noted}
use Rattle.atoms.proofs.large.note_open.Goals as goal

pub overflow_add-concept : goal.overflow_add-concept
overflow_add-concept c =
    omega (arith, c.requires.concept_bound, (limited _ c.args.deck.now.accepted).concepts)

pub returns : goal.returns
returns c =
    let f = c.fill_firsts.ensures c.args.concept.0 (omega arith) in
    (c.note.ensures.0 ∙ ap (noted c.args.log.now c.args.total) (first-noted _ _ _ f c.requires.concept_value), c.note.ensures.1)
