use mathlib.Core.Path.{sym, ◌∙◌}
use Rattle.deck.proofs.SoundLaws.{sound}
use Rattle.atoms.proofs.LeafLaws.{every-leaf-one, universal-leaves}
use Rattle.atoms.proofs.floor.is_universal_antecedent.Goals as goal

pub returns-then-is_and : goal.returns-then-is_and
returns-then-is_and c =
    c.every_leaf.ensures ∙ sym (universal-leaves _ (sound _ c.args.deck.now.accepted) c.args.concept.0)

pub returns : goal.returns
returns c =
    c.leaf_answer.ensures ∙ every-leaf-one _ _ _ (c.is_and.ensures.alone c.if-is_and.false) ∙ sym (universal-leaves _ (sound _ c.args.deck.now.accepted) c.args.concept.0)
