-- A run: what it answers, and what every lent buffer holds after it, for all inputs.
use Rattle.std.specs.Prelude.{Result, Ok, Err}
use Rattle.std.specs.Prelude.{ℕ, ◌+◌, ◌*◌, Bool, ◌&&◌, length, leb}
use mathlib.Core.List.{List, map, flat_map}
use Rattle.deck.specs.Refusal.{DeckAnswer}
use Rattle.deck.specs.declared.refusal.Refusal.{Refusal}
use Rattle.model.specs.declared.outcome.Outcome.{Outcome}
use Rattle.deck.specs.declared.refusal.Refusal.TheVariants.{BadBounds, ShortBuffer}
use Rattle.deck.specs.Answer.{unless, or_else}
use Rattle.deck.specs.Records.{deck_answer}
use Rattle.deck.specs.Deck.{Deck, axiom_count}
use Rattle.deck.specs.Content.{deck_of}
use Rattle.eval.specs.declared.shape.Shape.{Shape}
use Rattle.eval.specs.declared.lent.Lent.{Lent}
use Rattle.eval.specs.declared.verdict.Verdict.{Verdict}
use Rattle.eval.specs.Edges.{row_of}
use Rattle.eval.specs.Structure.{Structure}
use Rattle.eval.specs.Lent.{label_width, structure_of}
use Rattle.eval.specs.InLent.{deck_in, structure}
use Rattle.eval.specs.Verdict.{words_of, verdict}
use Rattle.build.specs.declared.bounds.Bounds.{Bounds}
use Rattle.build.specs.declared.tally.Tally.{Tally}
use Rattle.atoms.specs.Rows.{put, flat}
use Rattle.build.specs.Model.{Model, top}
use Rattle.model.specs.Phases.{construct, tally_of}
use Rattle.model.specs.Outcome.{outcome_of}

-- refusal 8: "elements or rounds above 65,535, edges above 1,048,575, last phase not 1 to 4"
unfoldable pub bounds_fit : Bounds → ℕ → Bool
bounds_fit B last = leb B.max_elements 65535 && (leb B.max_rounds 65535 && (leb B.max_edges 1048575 && (leb 1 last && leb last 4)))

-- refusal 9: "label, edge or verdict buffer below need": "Labels need (max(N, max_elements) + 1) × ceil(N / 64) words of 64 bits …; edges max_edges + 1; verdicts 4 × A words"
unfoldable pub room_fits : Deck → Bounds → ℕ → ℕ → ℕ → Bool
room_fits D B labels edges verdicts = leb ((top D B + 1) * label_width D) labels && (leb (B.max_edges + 1) edges && leb (4 * axiom_count D) verdicts)

-- "1 to 4; then records in part order, each tested for 5, 6, 7; then 8, 9 for a run"
unfoldable pub run_refusal : List ℕ → Bounds → ℕ → ℕ → ℕ → ℕ → DeckAnswer
run_refusal s B last labels edges verdicts =
    or_else (deck_answer s) (unless (bounds_fit B last) BadBounds (unless (room_fits (deck_of s) B labels edges verdicts) ShortBuffer (Ok tt)))

-- ---- what a run leaves
-- a refusal, or the outcome with how much was built
abbrev pub RunAnswer : Type 0
RunAnswer = Result (Outcome × Tally) Refusal

pub record Ran : Type 0 where
  pub answer : RunAnswer
  pub labels : List ℕ
  pub edges : List (List ℕ)
  pub log : List ℕ
  pub verdicts : List ℕ

abbrev pub ran : RunAnswer → List ℕ → List (List ℕ) → List ℕ → List ℕ → Ran
ran answer labels edges log verdicts = record { answer = answer; labels = labels; edges = edges; log = log; verdicts = verdicts }

-- as much of the structure's buffers as is in use
abbrev pub shape_in : Tally → Shape
shape_in t = record { elements = t.elements; edges = t.edges }

-- "Axioms are judged in every case"
abbrev pub verdicts_in : Deck → Structure → List Verdict
verdicts_in D S = map (verdict D S) D.axioms

-- the same of a deck and structure that are lent
abbrev pub verdicts_of : Lent → List Verdict
verdicts_of l = verdicts_in (deck_in l) (structure l)

abbrev pub words_in : List Verdict → List ℕ
words_in vs = flat_map words_of vs

-- "Words past the used end of a buffer stay untouched": the labels and edges that were built stand at the start of their buffers, and the verdicts over that structure at the start of theirs
unfoldable pub judged : Deck → Model → List ℕ → List (List ℕ) → List ℕ → Ran
judged D m labels edges verdicts =
    let S = structure_of D labels edges (shape_in (tally_of m)) in
    record {
      answer = Ok (outcome_of m.state.reasons (verdicts_in D S), tally_of m);
      labels = labels;
      edges = edges;
      log = m.state.log;
      verdicts = put verdicts (words_in (verdicts_in D S));
    }

unfoldable pub accepted : Deck → Bounds → ℕ → List ℕ → List (List ℕ) → List ℕ → List ℕ → Ran
accepted D B last labels edges log verdicts =
    let m = construct D B last log in
    judged D m (put labels (flat m.labels)) (put edges (map row_of m.state.edges)) verdicts

-- "A refusal returns only its number; lent memory stays untouched"
abbrev pub unless_refused : DeckAnswer → Ran → List ℕ → List (List ℕ) → List ℕ → List ℕ → Ran
unless_refused (Ok tt) done labels edges log verdicts = done
unless_refused (Err r) done labels edges log verdicts = ran (Err r) labels edges log verdicts

unfoldable pub run : List ℕ → Bounds → ℕ → List ℕ → List (List ℕ) → List ℕ → List ℕ → Ran
run s B last labels edges log verdicts =
    unless_refused (run_refusal s B last (length labels) (length edges) (length verdicts)) (accepted (deck_of s) B last labels edges log verdicts) labels edges log verdicts
