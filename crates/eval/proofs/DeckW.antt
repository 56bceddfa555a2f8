-- Deck W as bytes, the 220 that the program is run on in its own test: `accepted`, the reader accepts them, and `is-W`, what they
-- say is the W of the specimens.
use Prim.Native.Nat.{ℕ}
use mathlib.Core.Path.{◌≡◌, refl}
use mathlib.Core.List.{List, [], ◌∷◌, flat_map}
use Rattle.deck.specs.Word.{word_at}
use Rattle.deck.specs.Below.{all_below, any_below}
use Rattle.deck.specs.Trailer.{words_before}
use Rattle.deck.specs.Answer.{first_refusal, trailer_answer}
use Rattle.deck.specs.Parts.{part_place, part_word}
use Rattle.deck.specs.Faults.{first_with, word_faults}
use Rattle.deck.specs.Records.{record_fault, class_answer, role_answer, injected_answer, concept_answer, axiom_answer, fact_answer, record_answer, part_answer, deck_answer}
use Rattle.deck.specs.Content.{IsAccepted, deck_of, table, list_at, class_in, role_in, injected_in, concept_in, axiom_in, fact_in, concept_of, axiom_of, make_concept, make_axiom}
use Rattle.eval.proofs.Specimens.{W}

-- "low byte first": the bytes of a word below 256
abbrev bytes : ℕ → List ℕ
bytes w = w ∷ 0 ∷ 0 ∷ 0 ∷ []

-- edition, M, D; count and start of the seven parts; the body's words
abbrev trailer : List ℕ
trailer = 1 ∷ 2 ∷ 0 ∷ 2 ∷ 0 ∷ 1 ∷ 6 ∷ 0 ∷ 10 ∷ 3 ∷ 10 ∷ 2 ∷ 22 ∷ 1 ∷ 30 ∷ 4 ∷ 33 ∷ 37 ∷ []

-- "rows {0}, {0, 1}; role 0, row {0}, no range; concepts Atomic 0, Atomic 1, Some(0, concept 0); axioms SubClassOf(1, 0),
-- SubClassOf(1, 2); fact (1, 0, 0)", the words of the lists, the trailer
abbrev words : List ℕ
words =
    0 ∷ 0 ∷ 1 ∷
    0 ∷ 1 ∷ 2 ∷
    3 ∷ 1 ∷ 4 ∷ 0 ∷
    2 ∷ 0 ∷ 0 ∷ 0 ∷
    2 ∷ 1 ∷ 0 ∷ 0 ∷
    8 ∷ 0 ∷ 0 ∷ 0 ∷
    0 ∷ 1 ∷ 0 ∷ 0 ∷
    0 ∷ 1 ∷ 2 ∷ 0 ∷
    1 ∷ 0 ∷ 0 ∷
    0 ∷ 0 ∷ 1 ∷ 0 ∷
    trailer

abbrev pub deck_w : List ℕ
deck_w = flat_map bytes words

pub is-W : deck_of deck_w ≡ W [] []
unfolding deck_of table list_at class_in role_in injected_in concept_in axiom_in fact_in concept_of axiom_of make_concept make_axiom part_place part_word word_at mathlib.Core.List.flat_map
is-W = refl

pub accepted : IsAccepted deck_w
unfolding deck_answer trailer_answer first_refusal part_answer record_answer record_fault first_with word_faults class_answer role_answer injected_answer concept_answer axiom_answer fact_answer words_before all_below any_below part_place part_word word_at mathlib.Core.List.flat_map
accepted = refl
