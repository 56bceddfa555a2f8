use borrow.Enum.Refused.{opened}
use mathlib.Core.Path.{◌∙◌}
use Rattle.atoms.proofs.LargeLaws.{leaf-atom, leaf-other}
use Rattle.atoms.proofs.large.join_leaf.Goals as goal

pub returns-in-Atomic : goal.returns-in-Atomic
returns-in-Atomic c =
    c.join_by.ensures ∙ leaf-atom _ c.args.deck.now.accepted c.args.concept.0 c.concept_at-expr.ensures _ _ _ c.in-Atomic.is

pub returns-in_default : goal.returns-in_default
returns-in_default c =
    leaf-other _ c.args.deck.now.accepted c.args.concept.0 c.concept_at-expr.ensures _ _ (opened c.in_default.in_default-own.keys2) c.requires.leaf
