use mathlib.Core.Path.{sym, ◌∙◌}
use Rattle.build.proofs.BuildingLaws.{holds-is, holds-same}
use Rattle.model.proofs.FactIndexLaws.{turns-idle}
use Rattle.model.proofs.expand.expand.Goals as goal

pub returns-then-facts-eq0 : goal.returns-then-facts-eq0
returns-then-facts-eq0 c =
    λ d. holds-is (holds-same c.requires) (sym (turns-idle _ _ _ (sym c.fact_count-facts.ensures.is ∙ c.if-facts-eq0.true) _ _ _))
