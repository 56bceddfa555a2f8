-- A lent buffer and the list that it holds from its start on: "Words past the used end of a buffer stay untouched."
use Rattle.std.specs.Prelude.{ℕ, zero, suc, List, [], ◌∷◌, ◌++◌, ◌≡◌, length, take, drop}

-- the buffer with xs at its start, the rest as it was
unfoldable pub put : {A : Type 0} → List A → List A → List A
put buf xs = xs ++ drop (length xs) buf

-- rows, one after the other
unfoldable pub flat : List (List ℕ) → List ℕ
flat [] = []
flat (l ∷ ls) = l ++ flat ls

-- the row of w words at a place
abbrev pub row_at : ℕ → List ℕ → ℕ → List ℕ
row_at w buf at = take w (drop at buf)

-- the first n rows of w words
unfoldable pub rows_of : ℕ → ℕ → List ℕ → List (List ℕ)
rows_of w zero buf = []
rows_of w (suc n) buf = take w buf ∷ rows_of w n (drop w buf)

-- each row has w words
pub data Wide (w : ℕ) : List (List ℕ) → Type 0 where
  none : Wide w []
  more : {l : List ℕ} {ls : List (List ℕ)} → length l ≡ w → Wide w ls → Wide w (l ∷ ls)
