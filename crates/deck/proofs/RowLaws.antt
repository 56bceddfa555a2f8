-- Where the rows of a class and of a role lie.
-- Assumes nothing.
use mathlib.Core.Path.{◌≡◌}
use mathlib.Core.Bool.{true}
use mathlib.Core.List.{List}
use Prim.Native.Nat.{ℕ, ◌+◌, ◌≤◌}
use lib.Dec.{ltb}
use Rattle.deck.specs.Trailer.{part_count}
use Rattle.deck.specs.Rows.{row_shape}
use Rattle.deck.specs.Parts.{part_word}
use Rattle.deck.specs.Records.{class_shape, role_shape}
use Rattle.deck.proofs.FormLaws.{row_within}
use Rattle.deck.proofs.BelowLaws.{and_left, and_right}

pub class-row-within : (s : List ℕ) (k : ℕ) → class_shape s k ≡ true → part_word s 0 k 1 + part_word s 0 k 2 ≤ part_count s 6
class-row-within s k h = row_within s _ _ (part_count s 0) (and_right (ltb (part_word s 0 k 0) 2) _ h)

pub role-row-within : (s : List ℕ) (k : ℕ) → role_shape s k ≡ true → part_word s 1 k 0 + part_word s 1 k 1 ≤ part_count s 6
role-row-within s k h =
    row_within s _ _ (part_count s 1)
    (and_left (row_shape s (part_word s 1 k 0) (part_word s 1 k 1) (part_count s 1)) (row_shape s (part_word s 1 k 2) (part_word s 1 k 3) (part_count s 0)) h)

pub role-range-within : (s : List ℕ) (k : ℕ) → role_shape s k ≡ true → part_word s 1 k 2 + part_word s 1 k 3 ≤ part_count s 6
role-range-within s k h =
    row_within s _ _ (part_count s 0)
    (and_right (row_shape s (part_word s 1 k 0) (part_word s 1 k 1) (part_count s 1)) (row_shape s (part_word s 1 k 2) (part_word s 1 k 3) (part_count s 0)) h)
