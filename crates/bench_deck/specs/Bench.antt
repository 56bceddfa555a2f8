-- What the bench's functions answer.
use Rattle.std.specs.Prelude.{Ok, Err}
use Rattle.std.specs.Prelude.{ℕ, zero, suc, ◌+◌, ◌%◌, ◌^◌, List}
use Rattle.deck.specs.Refusal.{DeckAnswer}
use Rattle.deck.specs.Refusal.{number_of}
use Rattle.deck.specs.Word.{word_at}

-- 0 for an accepted deck, else the number of its refusal
abbrev pub answer_number : DeckAnswer → ℕ
answer_number (Ok tt) = 0
answer_number (Err r) = number_of r

-- the sum of the first n words, modulo 2 ^ 32
unfoldable pub sum_of : List ℕ → ℕ → ℕ
sum_of s zero = 0
sum_of s (suc n) = (sum_of s n + word_at s n) % 2 ^ 32
