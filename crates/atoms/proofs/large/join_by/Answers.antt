use mathlib.Core.Bool.{Bool, ◌||◌}
use mathlib.Core.Path.{ap, ◌∙◌}
use Rattle.atoms.specs.Body.{open_by}
use Rattle.atoms.specs.Large.{delta_from}
use Rattle.atoms.proofs.LargeLaws.{took-one}
use Rattle.atoms.proofs.large.join_by.Goals as goal

pub returns : goal.returns
returns c =
    let z = c.args.seen in
    let t = c.join_target-target.ensures.value in
    took-one _ _ c.args.a.0 _ z c.join_target-target.ensures.taken (ap (λ (b : Bool). z.unclosed || b) (c.is_open.ensures ∙ ap open_by t)) (ap (λ (b : Bool). z.delta || b) (c.is_delta.ensures ∙ ap delta_from t))
