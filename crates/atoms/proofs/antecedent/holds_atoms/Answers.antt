use mathlib.Core.Path.{sym, ◌∙◌}
use Rattle.deck.proofs.SoundLaws.{sound}
use Rattle.atoms.proofs.LeafLaws.{holds-leaves}
use Rattle.atoms.proofs.antecedent.holds_atoms.Goals as goal

pub returns : goal.returns
returns c =
    c.answer_soon.ensures ∙ sym (holds-leaves _ (sound _ c.args.deck.now.accepted) c.args.label c.args.concept.0)
