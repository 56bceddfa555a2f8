-- Every answer as a number and four words, and a fault's word: what a program in C or Rust is told.
use Rattle.std.specs.Prelude.{Ok, Err}
use Rattle.std.specs.Prelude.{ℕ, Bool, List, [], ◌∷◌, length, ltb}
use Rattle.deck.specs.Refusal.{DeckAnswer}
use Rattle.deck.specs.declared.refusal.Refusal.{Refusal}
use Rattle.deck.specs.Refusal.{number_of, word_of, no_word}
use Rattle.eval.specs.declared.judgement.Judgement.{Judgement}
use Rattle.eval.specs.declared.judgement.Judgement.TheVariants.{False, True, Unresolved}
use Rattle.eval.specs.Entry.{ConceptAnswer}
use Rattle.eval.specs.Entry.{AxiomAnswer}
use Rattle.eval.specs.Construct.{tag_of}
use Rattle.eval.specs.Verdict.{words_of}
use Rattle.model.specs.declared.outcome.Outcome.{Outcome}
use Rattle.model.specs.declared.outcome.Outcome.TheVariants.{Confirmed, Failed, Open}
use Rattle.build.specs.declared.tally.Tally.{Tally}
use Rattle.model.specs.Run.{RunAnswer}
use Rattle.atoms.specs.Rows.{put}

-- the number that a call returns, and what the buffer lent for its answer then holds
pub record Told : Type 0 where
  pub number : ℕ
  pub answer : List ℕ

abbrev pub told : ℕ → List ℕ → Told
told number answer = record { number = number; answer = answer }

-- "A refusal returns only its number; lent memory stays untouched"
abbrev pub refused : Refusal → List ℕ → Told
refused r answer = told (number_of r) answer

-- 0, and the words at the start: "Words past the used end of a buffer stay untouched"
abbrev pub given : List ℕ → List ℕ → Told
given answer words = told 0 (put answer words)

-- fewer words than an answer takes
abbrev pub is_short : List ℕ → Bool
is_short answer = ltb (length answer) 4

-- ---- a deck: 0 for an accepted one
abbrev pub deck_number : DeckAnswer → ℕ
deck_number (Ok tt) = 0
deck_number (Err r) = number_of r

-- the word of refusal 12, 13 or 14; no word for every other answer
abbrev pub deck_word : DeckAnswer → ℕ
deck_word (Ok tt) = no_word
deck_word (Err r) = word_of r

-- ---- a judgement: 0 false, 1 true, 2 unresolved and then the tag: "unresolved, named by tag"
abbrev pub judgement_words : Judgement → List ℕ
judgement_words False = 0 ∷ 0 ∷ 0 ∷ 0 ∷ []
judgement_words True = 1 ∷ 0 ∷ 0 ∷ 0 ∷ []
judgement_words (Unresolved construct) = 2 ∷ tag_of construct ∷ 0 ∷ 0 ∷ []

abbrev pub judgement_told : ConceptAnswer → List ℕ → Told
judgement_told (Err r) answer = refused r answer
judgement_told (Ok j) answer = given answer (judgement_words j)

-- ---- a verdict: the "Four words" of section 5
abbrev pub verdict_told : AxiomAnswer → List ℕ → Told
verdict_told (Err r) answer = refused r answer
verdict_told (Ok v) answer = given answer (words_of v)

-- ---- a run: "outcome, elements, edges, reasons", the outcome being 0 confirmed, 1 failed, 2 open
abbrev pub outcome_number : Outcome → ℕ
outcome_number Confirmed = 0
outcome_number Failed = 1
outcome_number Open = 2

abbrev pub summary_words : Outcome → Tally → List ℕ
summary_words outcome t = outcome_number outcome ∷ t.elements ∷ t.edges ∷ t.reasons ∷ []

abbrev pub summary_told : RunAnswer → List ℕ → Told
summary_told (Err r) answer = refused r answer
summary_told (Ok (outcome, t)) answer = given answer (summary_words outcome t)
