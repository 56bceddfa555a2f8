-- The code's value for a concept, by tag.
use Rattle.std.specs.Prelude.{ℕ, List, [], ◌∷◌, get_or}
use Rattle.deck.specs.declared.concepts.ConceptExpr.{ConceptExpr}
use Rattle.deck.specs.declared.concepts.ConceptExpr.TheVariants.{Top, Bot, Atomic, Nominal, SelfRestriction, Not, And, Or, Some, All, Min, Max}

-- of three fields
abbrev pub exprs : ℕ → ℕ → ℕ → List ConceptExpr
exprs x y z =
    Top ∷
    Bot ∷
    Atomic (record { 0 = x }) ∷
    Nominal (record { 0 = x }) ∷
    SelfRestriction (record { 0 = x }) ∷
    Not (record { 0 = x }) ∷
    And (record { start = x; count = y }) ∷
    Or (record { start = x; count = y }) ∷
    Some (record { 0 = x }) (record { 0 = y }) ∷
    All (record { 0 = x }) (record { 0 = y }) ∷
    Min x (record { 0 = y }) (record { 0 = z }) ∷
    Max x (record { 0 = y }) (record { 0 = z }) ∷
    []

-- what stands for an unknown tag is never asked for
unfoldable pub expr_at : ℕ → ℕ → ℕ → ℕ → ConceptExpr
expr_at tag x y z = get_or (exprs x y z) tag Top
