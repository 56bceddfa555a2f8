-- The range of a word.
-- Assumes nothing.
use mathlib.Core.List.{List}
use Prim.Native.Nat.{ℕ, ◌+◌, ◌*◌, ◌<◌}
use native.Mathlib.Omega.{arith}
use lib.ListN.{get_or}
use Rattle.deck.specs.Word.{word_at}
use Rattle.deck.specs.Parts.{part_place, part_word, list_word}

module _ (s : List ℕ) (byte : (i : ℕ) → get_or s i 0 < 256) where
  word_small : (at : ℕ) → word_at s at < 4294967296
  unfolding word_at
  word_small at = omega (arith, byte (at * 4), byte (at * 4 + 1), byte (at * 4 + 2), byte (at * 4 + 3))

  pub list-word-small : (i : ℕ) → list_word s i < 4294967296
  unfolding part_word
  list-word-small i = word_small (part_place s 6 i 0)
