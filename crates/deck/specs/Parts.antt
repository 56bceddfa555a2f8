-- The words of the records of the parts.
use Rattle.std.specs.Prelude.{ℕ, ◌+◌, ◌*◌, List}
use Rattle.deck.specs.Word.{word_at}
use Rattle.deck.specs.Trailer.{part_start, width_of}

-- the place of field f of record k of part p, counted in words from word 0
unfoldable pub part_place : List ℕ → ℕ → ℕ → ℕ → ℕ
part_place s p k f = part_start s p + k * width_of p + f

-- field f of record k of part p
unfoldable pub part_word : List ℕ → ℕ → ℕ → ℕ → ℕ
part_word s p k f = word_at s (part_place s p k f)

-- lists: "one word"
abbrev pub list_word : List ℕ → ℕ → ℕ
list_word s i = part_word s 6 i 0
