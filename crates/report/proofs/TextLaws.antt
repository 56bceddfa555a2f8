-- Laws of the program's text. Assumes nothing.
--     run-text       the text of what equals the program's run
--     report-short, report-done, report-copied, report-whole   what a lent buffer then holds
--     confirms       a text that begins with "confirmed" is that of a confirmed run, with all that is promised of one
use Rattle.std.specs.Prelude.{Ok, Err}
use mathlib.Core.Path.{◌≡◌, refl, ap, ◌∙◌}
use mathlib.Core.Bool.{Bool, true, false, cond}
use mathlib.Core.List.{List, ◌++◌}
use Prim.Native.Nat.{ℕ, ◌<◌, ◌≤◌}
use native.Mathlib.Nat.{zero-add}
use native.Mathlib.Omega.{arith}
use borrow.Author.Tests.{lt-ltb, le-ltb}
use lib.Dec.{ltb}
use lib.ListN.{length, take, drop, get_or}
use lib.Seq.{take-length}
use Rattle.deck.specs.Deck.{axiom_count}
use Rattle.deck.specs.Content.{deck_of}
use Rattle.model.specs.declared.outcome.Outcome.{Outcome}
use Rattle.model.specs.declared.outcome.Outcome.TheVariants.{Confirmed, Failed, Open}
use Rattle.model.specs.Run.{RunAnswer}
use Rattle.build.specs.declared.tally.Tally.{Tally}
use Rattle.atoms.specs.Rows.{put}
use Rattle.eval.specs.Lent.{structure_of}
use Rattle.model.specs.Run.{ran, run, shape_in}
use Rattle.model.specs.Trust.{Trusted}
use Rattle.atoms.proofs.RowLaws.{put-take}
use Rattle.model.proofs.RunLaws.{trusted}
use Rattle.report.specs.Lines.{outcome_word, summary_line, refusal_line}
use Rattle.report.specs.Writes.{Wrote}
use Rattle.report.specs.Text.{program_bounds, labels_lent, edges_lent, log_lent, verdicts_lent, program_run, answer_text, run_text, program_text, Reported, reported, report, Confirms}
use Rattle.report.proofs.LengthLaws.{text-fits}

pub run-text : (s : List ℕ) {a : RunAnswer} {l : List ℕ} {e : List (List ℕ)} {g v l' : List ℕ} {e' : List (List ℕ)} {g' v' : List ℕ} → l ≡ labels_lent → e ≡ edges_lent → g ≡ log_lent → v ≡ verdicts_lent
    → ran a l' e' g' v' ≡ run s program_bounds 4 l e g v → answer_text a (axiom_count (deck_of s)) v' ≡ run_text s (program_run s)
unfolding program_run
run-text s {l = l} {e} {g} {v} p q r t h =
    let same : run s program_bounds 4 l e g v ≡ run s program_bounds 4 labels_lent edges_lent log_lent verdicts_lent = rw (p, q, r, t) in
    ap (run_text s) (h ∙ same)

-- ---- the lent buffer
pub wrote-put : {was text now : List ℕ} {r : ℕ} → Wrote was 0 text now r → (now ≡ put was text) × (r ≡ length text)
unfolding put
wrote-put {was} {text} {now} {r} W = (W.is ∙ rw (take-length text, zero-add (length text)), omega (arith, W.end))

pub report-short : (s out : List ℕ) → length out < length (program_text s) → reported 0 out ≡ report s out
unfolding report
report-short s out h = rw (lt-ltb _ _ h)

pub report-done : (s : List ℕ) {out out' : List ℕ} {r : ℕ} → Wrote out 0 (program_text s) out' r → reported r out' ≡ report s out
unfolding report
report-done s {out} W = let p = wrote-put W in rw (le-ltb (length out) (length (program_text s)) (omega (arith, W.fits)), p.0, p.1)

-- the text is copied to the start of a buffer that it fits
pub report-copied : (s out : List ℕ) {text : List ℕ} {n : ℕ} → text ≡ program_text s → n ≡ length (program_text s) → n ≤ length out
    → (reported n (text ++ drop n out) ≡ report s out) × (take n (text ++ drop n out) ≡ program_text s)
unfolding report put
report-copied s out p q h =
    (rw (p, q, le-ltb (length out) (length (program_text s)) (omega (arith, q, h))), rw (p, q) (put-take out (program_text s)))

-- the part of the buffer that is in use is the text
pub wrote-text : {was text now : List ℕ} {r : ℕ} → Wrote was 0 text now r → take r now ≡ text
wrote-text {was} {text} W = let p = wrote-put W in rw (p.0, p.1) (put-take was text)

-- a buffer that any text fits holds it
pub report-whole : (s out : List ℕ) {out' : List ℕ} {r : ℕ} → 204864 ≤ length out → reported r out' ≡ report s out → (r ≡ length (program_text s)) × (take r out' ≡ program_text s)
unfolding report
report-whole s out {out'} {r} f h =
    let e : reported r out' ≡ reported (length (program_text s)) (put out (program_text s)) = rw (le-ltb (length out) (length (program_text s)) (omega (arith, text-fits s))) at h in
    let p = ap (λ (x : Reported). x.size) e in
    (p, rw (ap (λ (x : Reported). x.out) e, p) (put-take out (program_text s)))

-- ---- demand 3
abbrev first : List ℕ → ℕ
first l = get_or l 0 0

vouched : (s : List ℕ) (o : Outcome) (t : Tally) → (program_run s).answer ≡ Ok (o, t)
    → Trusted (deck_of s) (structure_of (deck_of s) (program_run s).labels (program_run s).edges (shape_in t)) (program_run s).verdicts o
unfolding program_run
vouched s o t h = trusted s program_bounds 4 labels_lent edges_lent log_lent verdicts_lent o t h

pub confirms : (s : List ℕ) → take 9 (program_text s) ≡ outcome_word Confirmed → Confirms s
unfolding program_text summary_line refusal_line outcome_word
confirms s = by (ltb 65536 (length s)) (program_run s).answer refl
  where
    by : (b : Bool) (a : RunAnswer) → (program_run s).answer ≡ a → take 9 (cond b (refusal_line 9) (answer_text a (axiom_count (deck_of s)) (program_run s).verdicts)) ≡ outcome_word Confirmed → Confirms s
    by true a p h = absurd (omega (arith, ap first h))
    by false (Err r) p h = absurd (omega (arith, ap first h))
    by false (Ok (Failed, t)) p h = absurd (omega (arith, ap first h))
    by false (Ok (Open, t)) p h = absurd (omega (arith, ap first h))
    by false (Ok (Confirmed, t)) p h = record { tally = t; done = p; trusted = vouched s Confirmed t p }
