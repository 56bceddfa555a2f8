-- Rows and lists: "Starts of rows count within lists."
use Rattle.std.specs.Prelude.{ℕ, ◌+◌, ◌-◌, List, Bool, ◌&&◌, eqb, leb, ltb}
use Rattle.deck.specs.Trailer.{part_count}
use Rattle.deck.specs.Parts.{list_word}
use Rattle.deck.specs.Below.{all_below, any_below}

-- a list is in range if it lies within the lists part; a sum never wraps here
abbrev pub row_fits : List ℕ → ℕ → ℕ → Bool
row_fits s start count = leb (start + count) (part_count s 6)

-- the i-th word of a row is below n; it is below the next ("Rows strictly increase."); it is x
abbrev pub word_below : List ℕ → ℕ → ℕ → ℕ → Bool
word_below s start n i = ltb (list_word s (start + i)) n

abbrev pub word_rises : List ℕ → ℕ → ℕ → Bool
word_rises s start i = ltb (list_word s (start + i)) (list_word s (start + i + 1))

abbrev pub word_is : List ℕ → ℕ → ℕ → ℕ → Bool
word_is s start x i = eqb (list_word s (start + i)) x

abbrev pub row_below : List ℕ → ℕ → ℕ → ℕ → Bool
row_below s start count n = all_below (word_below s start n) count

-- 13: the row lies within lists, and its words are below n
abbrev pub row_shape : List ℕ → ℕ → ℕ → ℕ → Bool
row_shape s start count n = row_fits s start count && row_below s start count n

abbrev pub row_rises : List ℕ → ℕ → ℕ → Bool
row_rises s start count = all_below (word_rises s start) (count - 1)

abbrev pub row_has : List ℕ → ℕ → ℕ → ℕ → Bool
row_has s start count x = any_below (word_is s start x) count
