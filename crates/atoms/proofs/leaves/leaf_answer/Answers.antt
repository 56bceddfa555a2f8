use borrow.Enum.Refused.{opened}
use mathlib.Core.Path.{◌∙◌}
use Rattle.atoms.proofs.LeafLaws.{answer-top, answer-atom, answer-other}
use Rattle.atoms.proofs.leaves.leaf_answer.Goals as goal

pub returns-in-Top : goal.returns-in-Top
returns-in-Top c =
    answer-top _ c.args.deck.now.accepted c.args.concept.0 c.concept_at-expr.ensures _ c.in-Top.is

pub returns-in-Atomic : goal.returns-in-Atomic
returns-in-Atomic c =
    c.holds_atom.ensures ∙ answer-atom _ c.args.deck.now.accepted c.args.concept.0 c.concept_at-expr.ensures _ _ c.in-Atomic.is

pub returns-in_default : goal.returns-in_default
returns-in_default c =
    c.allows.ensures ∙ answer-other _ c.args.deck.now.accepted c.args.concept.0 c.concept_at-expr.ensures _ (opened c.in_default.in_default-own.keys3)
