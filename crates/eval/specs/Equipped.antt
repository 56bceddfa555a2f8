-- The room that judging works in: of the index of the edges, and of the judgements remembered so far.
use Rattle.std.specs.Prelude.{ℕ, ◌<◌, ◌≤◌, ◌≡◌, List, length, get_or}

-- a table that remembers nothing yet
pub record Blank (memo : List ℕ) : Type 0 where
  pub room : 0 < length memo
  pub zero : (i : ℕ) → get_or memo i 0 ≡ 0

-- a room for the index and the table, of at most 1.2 MB, with at least one word in the table
pub record Room (words table : ℕ) : Type 0 where
  pub words_few : words ≤ 163843
  pub table_some : 0 < table
  pub table_few : table ≤ 262139
