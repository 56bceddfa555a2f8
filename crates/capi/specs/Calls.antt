-- What each exported function returns, and what every lent buffer holds after it, for all inputs.
-- 9, "short galley", is given for the answer's buffer too, and before anything else is looked at.
use Rattle.std.specs.Prelude.{Err}
use Rattle.std.specs.Prelude.{ℕ, cond, List}
use Rattle.deck.specs.declared.refusal.Refusal.TheVariants.{ShortBuffer}
use Rattle.deck.specs.Records.{deck_answer}
use Rattle.eval.specs.declared.shape.Shape.{Shape}
use Rattle.eval.specs.Entry.{concept_answer, axiom_answer}
use Rattle.build.specs.declared.bounds.Bounds.{Bounds}
use Rattle.model.specs.Run.{RunAnswer}
use Rattle.model.specs.Run as model
use Rattle.model.specs.Run.{Ran, ran}
use Rattle.capi.specs.Words.{Told, refused, is_short, deck_number, deck_word, judgement_told, verdict_told, summary_told}

abbrev pub unless_short : List ℕ → Told → Told
unless_short answer t = cond (is_short answer) (refused ShortBuffer answer) t

-- "1 to 4; then records in part order, each tested for" 12, 13, 14, then 6, 7; 0 if none of them is given
unfoldable pub check_deck : List ℕ → ℕ
check_deck s = deck_number (deck_answer s)

-- "the word at which the first fault lies, counted from word 0 of the deck"
unfoldable pub fault_word : List ℕ → ℕ
fault_word s = deck_word (deck_answer s)

-- "judging one concept .. over a lent structure"
unfoldable pub eval_concept : List ℕ → List ℕ → List (List ℕ) → Shape → ℕ → ℕ → List ℕ → Told
eval_concept s labels rows shape c e answer = unless_short answer (judgement_told (concept_answer s labels rows shape c e) answer)

-- "judging one .. axiom over a lent structure"
unfoldable pub check_axiom : List ℕ → List ℕ → List (List ℕ) → Shape → ℕ → List ℕ → Told
check_axiom s labels rows shape a answer = unless_short answer (verdict_told (axiom_answer s labels rows shape a) answer)

-- ---- a run
pub record Called : Type 0 where
  pub told : Told
  pub labels : List ℕ
  pub edges : List (List ℕ)
  pub log : List ℕ
  pub verdicts : List ℕ

abbrev pub called : Told → List ℕ → List (List ℕ) → List ℕ → List ℕ → Called
called t labels edges log verdicts = record { told = t; labels = labels; edges = edges; log = log; verdicts = verdicts }

abbrev pub bounds_of : ℕ → ℕ → ℕ → Bounds
bounds_of elements edges rounds = record { max_elements = elements; max_edges = edges; max_rounds = rounds }

-- what a run answers and leaves, with its answer as words
abbrev pub called_for : Ran → List ℕ → Called
called_for m answer = called (summary_told m.answer answer) m.labels m.edges m.log m.verdicts

unfoldable pub run : List ℕ → Bounds → ℕ → List ℕ → List (List ℕ) → List ℕ → List ℕ → List ℕ → Called
run s B last labels edges log verdicts answer =
    called_for (cond (is_short answer) (ran (Err ShortBuffer) labels edges log verdicts) (model.run s B last labels edges log verdicts)) answer
