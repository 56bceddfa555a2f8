use borrow.Enum.Refused.{opened}
use mathlib.Core.Path.{◌∙◌}
use Rattle.atoms.proofs.LeafLaws.{every-leaf-and, every-leaf-other}
use Rattle.atoms.proofs.leaves.every_leaf.Goals as goal

pub returns-in-And : goal.returns-in-And
returns-in-And c =
    c.operands_answer.ensures ∙ every-leaf-and _ c.args.deck.now.accepted c.args.concept.0 c.concept_at-expr.ensures _ _ c.in-And.is

pub returns-in_default : goal.returns-in_default
returns-in_default c =
    c.leaf_answer.ensures ∙ every-leaf-other _ c.args.deck.now.accepted c.args.concept.0 c.concept_at-expr.ensures _ (opened c.in_default.in_default-own.keys2)
