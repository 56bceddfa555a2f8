-- Lists taken one by one: "in axiom order", "operand by operand", "in order".
use Rattle.std.specs.Prelude.{List, [], ◌∷◌}

-- a list taken one by one, first to last, with a state
unfoldable pub walk : {A S : Type 0} → (A → S → S) → List A → S → S
walk f [] s = s
walk f (x ∷ xs) s = walk f xs (f x s)
