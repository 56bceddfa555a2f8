-- What checking a deck answers.
use Rattle.std.specs.Prelude.{ℕ, zero, suc, ◌%◌, ◌≡◌, List, Bool, true, false, ◌&&◌, length, eqb, leb}
use Rattle.deck.specs.declared.refusal.Refusal.{Refusal}
use Rattle.deck.specs.declared.refusal.Refusal.TheVariants.{TooShort, UnknownEdition, CountOverLimit, BadLayout}
use Rattle.deck.specs.Refusal.{DeckAnswer}
use Rattle.std.specs.Prelude.{Ok, Err}
use Rattle.deck.specs.Trailer.{edition, counts_fit, layout_fits}

-- refused for r unless the test holds, else as the rest says
abbrev pub unless : Bool → Refusal → DeckAnswer → DeckAnswer
unless true r rest = rest
unless false r rest = Err r

-- the first of two answers that refuses
abbrev pub or_else : DeckAnswer → DeckAnswer → DeckAnswer
or_else (Ok tt) b = b
or_else (Err r) b = Err r

-- "records in part order": the answer of the first of n that is refused
unfoldable pub first_refusal : (ℕ → DeckAnswer) → ℕ → DeckAnswer
first_refusal f zero = Ok tt
first_refusal f (suc n) = or_else (first_refusal f n) (f n)

-- "Order: 1 to 4": 1 "bytes not a multiple of 4, or under 72", 2 "edition is not 1", 3, 4, for a reader of edition e
unfoldable pub trailer_answer : ℕ → List ℕ → DeckAnswer
trailer_answer e s =
    unless (eqb (length s % 4) 0 && leb 72 (length s)) TooShort
    (unless (eqb (edition s) e) UnknownEdition
    (unless (counts_fit s) CountOverLimit
    (unless (layout_fits s) BadLayout
    (Ok tt))))

-- the deck has passed the tests 1 to 4 of a reader of its edition
abbrev pub Framed : List ℕ → Type 0
Framed s = trailer_answer (edition s) s ≡ Ok tt
