-- The whole text of the program: document 01, "The program".
use Rattle.std.specs.Prelude.{Ok, Err}
use Rattle.std.specs.Prelude.{ℕ, zero, suc, ◌+◌, ◌*◌, cond, ◌≡◌, List, [], ◌∷◌, ◌++◌, ltb, length, get_or, replicate}
use Rattle.deck.specs.Refusal.{number_of}
use Rattle.deck.specs.Deck.{axiom_count}
use Rattle.deck.specs.Content.{deck_of}
use Rattle.eval.specs.Lent.{structure_of}
use Rattle.build.specs.declared.bounds.Bounds.{Bounds}
use Rattle.model.specs.declared.outcome.Outcome.TheVariants.{Confirmed}
use Rattle.model.specs.Run.{RunAnswer}
use Rattle.build.specs.declared.tally.Tally.{Tally}
use Rattle.atoms.specs.Rows.{put}
use Rattle.model.specs.Run.{Ran, run, shape_in}
use Rattle.model.specs.Trust.{Trusted}
use Rattle.report.specs.Lines.{summary_line, verdict_line, refusal_line}

-- "with bounds 255, 1,000, 100"
abbrev pub program_bounds : Bounds
program_bounds = record { max_elements = 255; max_edges = 1000; max_rounds = 100 }

-- "and buffers for N up to 256 and A up to 4,096": 256 + 1 labels of four words, 1,000 + 1 edges, four words for each verdict.
-- The log has room for one reason: the text says how many there are, and not which.
unfoldable pub labels_lent : List ℕ
labels_lent = replicate 1028 0

unfoldable pub edges_lent : List (List ℕ)
edges_lent = replicate 1001 (0 ∷ 0 ∷ 0 ∷ [])

unfoldable pub log_lent : List ℕ
log_lent = replicate 3 0

unfoldable pub verdicts_lent : List ℕ
verdicts_lent = replicate 16384 0

-- the program's run of a deck: "phase 4"
unfoldable pub program_run : List ℕ → Ran
program_run s = run s program_bounds 4 labels_lent edges_lent log_lent verdicts_lent

-- "then per axiom its index and" what the four words of its verdict say
unfoldable pub axiom_line : List ℕ → ℕ → List ℕ
axiom_line words k = verdict_line k (get_or words (k * 4) 0) (get_or words (k * 4 + 1) 0) (get_or words (k * 4 + 2) 0) (get_or words (k * 4 + 3) 0)

-- the lines of the first n axioms
unfoldable pub axiom_lines : List ℕ → ℕ → List ℕ
axiom_lines words zero = []
axiom_lines words (suc n) = axiom_lines words n ++ axiom_line words n

-- "It prints outcome, elements, edges, reasons; then per axiom"; "Refusal: `refused` and number."
abbrev pub answer_text : RunAnswer → ℕ → List ℕ → List ℕ
answer_text (Err r) n words = refusal_line (number_of r)
answer_text (Ok (o, t)) n words = summary_line o t ++ axiom_lines words n

abbrev pub run_text : List ℕ → Ran → List ℕ
run_text s r = answer_text r.answer (axiom_count (deck_of s)) r.verdicts

-- "a deck of at most 65,536 bytes"; "Longer input: `refused 9`."
unfoldable pub program_text : List ℕ → List ℕ
program_text s = cond (ltb 65536 (length s)) (refusal_line 9) (run_text s (program_run s))

-- ---- what is lent for the text
-- room for any text: a line of at most 64 bytes, and 50 bytes for each of 4,096 axioms (`text-fits`)
unfoldable pub text_room : List ℕ
text_room = replicate 204864 0

-- the length of the text and what the lent buffer then holds
pub record Reported : Type 0 where
  pub size : ℕ
  pub out : List ℕ

abbrev pub reported : ℕ → List ℕ → Reported
reported size out = record { size = size; out = out }

-- the text stands at the start of the buffer, and the rest is as it was; a buffer that the text does not fit is as it was, and the length is 0
unfoldable pub report : List ℕ → List ℕ → Reported
report s out = cond (ltb (length out) (length (program_text s))) (reported 0 out) (reported (length (program_text s)) (put out (program_text s)))

-- ---- demand 3, for who reads only the text
-- the program's run is confirmed, and what is promised of a confirmed run holds of its structure
pub record Confirms (s : List ℕ) : Type 0 where
  pub tally : Tally
  pub done : (program_run s).answer ≡ Ok (Confirmed, tally)
  pub trusted : Trusted (deck_of s) (structure_of (deck_of s) (program_run s).labels (program_run s).edges (shape_in tally)) (program_run s).verdicts Confirmed
