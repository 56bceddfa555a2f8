-- Lists of numbers and of truth values.
use Rattle.std.specs.Prelude.{ℕ, zero, suc, Bool, true, false, cond, ◌||◌, ◌&&◌, List, [], ◌∷◌}

-- a, a + 1, …: n of them
unfoldable pub range : ℕ → ℕ → List ℕ
range a zero = []
range a (suc n) = a ∷ range (suc a) n

-- those of a list that pass a test, in order
unfoldable pub keep : (ℕ → Bool) → List ℕ → List ℕ
keep p [] = []
keep p (x ∷ xs) = cond (p x) (x ∷ keep p xs) (keep p xs)

-- are all true; is one true?
unfoldable pub every : List Bool → Bool
every [] = true
every (b ∷ bs) = b && every bs

unfoldable pub any : List Bool → Bool
any [] = false
any (b ∷ bs) = b || any bs
