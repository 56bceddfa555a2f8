use mathlib.Core.Path.{◌∙◌}
use Rattle.atoms.proofs.LeafLaws.{every-leaf-one}
use Rattle.atoms.proofs.short.answer_soon.Goals as goal

pub returns : goal.returns
returns c =
    c.leaf_answer.ensures ∙ every-leaf-one _ _ _ (c.is_and.ensures.alone c.if-is_and.false)
