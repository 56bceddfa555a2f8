-- A rule's antecedent: document 01, section 3, "A rule fires on its antecedent's required atoms only".
use Rattle.std.specs.Prelude.{ℕ, Bool, true, false, ◌||◌, List, [], ◌∷◌, map}
use Rattle.deck.specs.Deck.{Deck}
use Rattle.eval.specs.Lists.{every}
use Rattle.atoms.specs.Label.{label_has}
use Rattle.atoms.specs.Floor.{universal, required_atoms}

-- is there one in the list?
abbrev pub some_in : List ℕ → Bool
some_in [] = false
some_in (x ∷ xs) = true

-- "has required atoms"
unfoldable pub has_atom : Deck → ℕ → Bool
has_atom D c = some_in (required_atoms D c)

-- "if the antecedent has required atoms or is universal"
unfoldable pub is_rule : Deck → ℕ → Bool
is_rule D c = has_atom D c || universal D c

-- "A rule fires on its antecedent's required atoms only"
unfoldable pub holds_atoms : Deck → List ℕ → ℕ → Bool
holds_atoms D label c = every (map (label_has label) (required_atoms D c))
