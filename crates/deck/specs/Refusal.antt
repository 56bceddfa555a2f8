-- The numbers of the refusals and the word that three of them name: the table of document 01, section 1, and document 02, a).
use Rattle.std.specs.Prelude.{ℕ, Option, None, Some}
use Rattle.std.specs.Prelude.{Result}
use Rattle.deck.specs.declared.numbers.WordIndex.{WordIndex}
use Rattle.deck.specs.declared.refusal.Refusal.{Refusal}
use Rattle.deck.specs.declared.refusal.Refusal.TheVariants.{TooShort, UnknownEdition, CountOverLimit, BadLayout, BadOrder, ForwardOperand, BadBounds, ShortBuffer, ForeignStructure, AbsentIndex, UnknownTag, OutOfRange, FilledField}

-- what checking a deck answers: that it is in order, or a refusal
abbrev pub DeckAnswer : Type 0
DeckAnswer = Result (Unit {0}) Refusal

-- "no. … given when"; "5 is retired"
abbrev pub number_of : Refusal → ℕ
number_of TooShort = 1  -- bytes not a multiple of 4, or under 72
number_of UnknownEdition = 2  -- edition is not 1
number_of CountOverLimit = 3  -- a count above its limit
number_of BadLayout = 4  -- a start, body count or M does not fit
number_of BadOrder = 6  -- order broken, or own number absent from a row
number_of ForwardOperand = 7  -- operand below C but not below its concept
number_of BadBounds = 8  -- elements or rounds above 65,535, edges above 1,048,575, last phase not 1 to 4
number_of ShortBuffer = 9  -- label, edge or verdict buffer below need
number_of ForeignStructure = 10  -- a lent structure that does not fit the deck or its buffers
number_of AbsentIndex = 11  -- axiom, concept or element index past its count
number_of (UnknownTag w) = 12  -- unknown tag or flag
number_of (OutOfRange w) = 13  -- number or list out of range
number_of (FilledField w) = 14  -- unused field filled

-- "each also returns the word at which the first fault lies, counted from word 0 of the deck"
abbrev pub fault_word : Refusal → Option WordIndex
fault_word (UnknownTag w) = Some w
fault_word (OutOfRange w) = Some w
fault_word (FilledField w) = Some w
fault_word r = None

-- what stands for the word of a refusal that has none: no deck has so many words
abbrev pub no_word : ℕ
no_word = 4294967295

-- the word, or what stands for it
abbrev pub word_told : Option WordIndex → ℕ
word_told None = no_word
word_told (Some w) = w.0

abbrev pub word_of : Refusal → ℕ
word_of r = word_told (fault_word r)
