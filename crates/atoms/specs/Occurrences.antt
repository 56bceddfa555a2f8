-- The occurrences of a body's required atoms without walking each: how many RunDeltas they give, those in order, and the first atom of all.
use Rattle.std.specs.Prelude.{ℕ, ◌+◌, ◌<◌, ◌≤◌, min, ◌≡◌, length, get_or}
use mathlib.Core.List.{List, [], ◌∷◌, flat_map}
use Rattle.deck.specs.Deck.{Deck}
use Rattle.atoms.specs.declared.reasons.Reason.{Reason}
use Rattle.atoms.specs.declared.reasons.Stretch.{Stretch}
use Rattle.atoms.specs.Walk.{walk}
use Rattle.atoms.specs.Floor.{required_atoms}
use Rattle.atoms.specs.Reasons.{Log, note, Stand}
use Rattle.atoms.specs.Body.{atom_delta}

-- "stops at 4,294,967,295"
abbrev pub capped : ℕ → ℕ
capped n = min n 4294967295

-- the sum of what each of a list gives
unfoldable pub sum_of : (ℕ → ℕ) → List ℕ → ℕ
sum_of f [] = 0
sum_of f (x ∷ xs) = f x + sum_of f xs

-- a table's word for concept k
abbrev pub entry_at : List ℕ → ℕ → ℕ
entry_at t k = get_or t k 0

-- the log and the total of reasons
abbrev pub logs : List ℕ → ℕ → Log
logs words total = record { words = words; total = total }

-- the reasons xs are those of a stretch of the log, before the `total` that were given; its count is theirs: "the total stops at 4,294,967,295"
pub record Standing (words : List ℕ) (s : Stretch) (total : ℕ) (xs : List Reason) : Type 0 where
  pub stand : Stand words s.first xs
  pub since : s.first ≤ total
  pub before : capped (s.first + length xs) ≤ total
  pub counts : capped (total + s.count) ≡ capped (total + length xs)
  pub most : total ≤ 4294967295

module _ (D : Deck) (r : ℕ) where
  -- the RunDeltas of a concept's required atoms, one for each occurrence, in order
  abbrev pub deltas_of : ℕ → List Reason
  deltas_of c = flat_map (atom_delta D r) (required_atoms D c)

  -- how many they are
  abbrev pub delta_count : ℕ → ℕ
  delta_count c = capped (length (deltas_of c))

  -- the log after them
  unfoldable pub noted_deltas : ℕ → Log → Log
  noted_deltas c g = walk note (deltas_of c) g

  -- a table that has the count of each concept below n
  abbrev pub DeltasTo : List ℕ → ℕ → Type 0
  DeltasTo t n = (k : ℕ) → k < n → entry_at t k ≡ delta_count k

-- a table of where the RunDeltas of concepts stand in the log: one more than the number of the first; 0 is nowhere
abbrev pub Places : Deck → ℕ → List ℕ → List ℕ → ℕ → Type 0
Places D r places words total = (k p : ℕ) → entry_at places k ≡ p + 1 → Standing words (record { first = p; count = delta_count D r k }) total (deltas_of D r k)

-- x is the first of a list of classes, or 4,294,967,295 for none
abbrev pub IsFirst : List ℕ → ℕ → Type 0
IsFirst [] x = x ≡ 4294967295
IsFirst (a ∷ ks) x = (x ≡ a) × (a < 4294967295)

-- a table that has the first required atom of each concept below n
abbrev pub FirstsTo : Deck → List ℕ → ℕ → Type 0
FirstsTo D t n = (k : ℕ) → k < n → IsFirst (required_atoms D k) (entry_at t k)
