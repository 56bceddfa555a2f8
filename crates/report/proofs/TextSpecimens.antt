-- The text of deck W, computed from its bytes: document 01, "All it prints".
use Rattle.std.specs.Prelude.{Ok}
use mathlib.Core.Path.{◌≡◌}
use mathlib.Core.List.{List, [], ◌∷◌, flat_map}
use Prim.Native.Nat.{ℕ}
use lib.ListN.{length, length-replicate}
use Rattle.eval.proofs.DeckW.{deck_w, is-W}
use Rattle.eval.proofs.DeckW as read
use Rattle.model.specs.declared.outcome.Outcome.TheVariants.{Confirmed}
use Rattle.atoms.specs.Rows.{put}
use Rattle.model.specs.Run.{bounds_fit, room_fits, run_refusal, ran, run}
use Rattle.model.proofs.RunSpecimens.{run-W}
use Rattle.report.specs.Lines.{spelt, decimal, field, outcome_word, summary_line, witness, verdict_text, verdict_line}
use Rattle.report.specs.Text.{program_bounds, labels_lent, edges_lent, log_lent, verdicts_lent, program_run, axiom_line, axiom_lines, program_text}

labels-long : length labels_lent ≡ 1028
unfolding labels_lent
labels-long = length-replicate {A = ℕ} 1028 0

edges-long : length edges_lent ≡ 1001
unfolding edges_lent
edges-long = length-replicate {A = List ℕ} 1001 (0 ∷ 0 ∷ 0 ∷ [])

verdicts-long : length verdicts_lent ≡ 16384
unfolding verdicts_lent
verdicts-long = length-replicate {A = ℕ} 16384 0

-- the program's buffers are long enough for it
not-refused : run_refusal deck_w program_bounds 4 (length labels_lent) (length edges_lent) (length verdicts_lent) ≡ Ok tt
unfolding run_refusal bounds_fit room_fits
not-refused = rw (read.accepted, is-W, labels-long, edges-long, verdicts-long)

run-of-W : program_run deck_w
    ≡ ran (Ok (Confirmed, (record { elements = 2; edges = 1; reasons = 0 }))) (put labels_lent (1 ∷ 3 ∷ [])) (put edges_lent ((0 ∷ 1 ∷ 0 ∷ []) ∷ [])) log_lent
    (put verdicts_lent (0 ∷ 0 ∷ 0 ∷ 0 ∷ 0 ∷ 0 ∷ 0 ∷ 0 ∷ []))
unfolding program_run run
run-of-W = rw (not-refused, is-W) (run-W labels_lent edges_lent log_lent verdicts_lent)

-- "confirmed 2 1 0", "0 holds", "1 holds"
pub text-W : program_text deck_w
    ≡ 99 ∷ 111 ∷ 110 ∷ 102 ∷ 105 ∷ 114 ∷ 109 ∷ 101 ∷ 100 ∷ 32 ∷ 50 ∷ 32 ∷ 49 ∷ 32 ∷ 48 ∷ 10 ∷
    48 ∷ 32 ∷ 104 ∷ 111 ∷ 108 ∷ 100 ∷ 115 ∷ 10 ∷
    49 ∷ 32 ∷ 104 ∷ 111 ∷ 108 ∷ 100 ∷ 115 ∷ 10 ∷ []
unfolding program_text spelt decimal field outcome_word summary_line witness verdict_text verdict_line axiom_line axiom_lines put flat_map
text-W = rw (run-of-W, is-W)
