-- How long the text can be. Assumes nothing.
--     text-fits      any text fits in 204,864 bytes
use Rattle.std.specs.Prelude.{Ok, Err}
use mathlib.Core.Path.{◌≡◌, refl}
use mathlib.Core.Bool.{Bool, true, false, cond}
use mathlib.Core.List.{List, [], ◌∷◌, ◌++◌}
use Prim.Native.Nat.{ℕ, zero, suc, ◌+◌, ◌*◌, ◌/◌, ◌%◌, ◌≤◌}
use native.Mathlib.Omega.{arith}
use lib.Dec.{ltb, eqb}
use lib.ListN.{length, get_or, length-append, length-replicate}
use Rattle.deck.specs.Deck.{axiom_count}
use Rattle.deck.specs.Content.{deck_of}
use Rattle.deck.specs.Refusal.{number_of}
use Rattle.model.specs.declared.outcome.Outcome.{Outcome}
use Rattle.model.specs.declared.outcome.Outcome.TheVariants.{Confirmed, Failed, Open}
use Rattle.model.specs.Run.{RunAnswer}
use Rattle.build.specs.declared.tally.Tally.{Tally}
use Rattle.model.proofs.RunLaws.{done-passed}
use Rattle.report.specs.Lines.{digit, spelt, decimal, field, outcome_word, holds_word, fails_word, open_word, summary_line, witness, verdict_text, verdict_line, refusal_line}
use Rattle.report.specs.Text.{program_bounds, labels_lent, edges_lent, log_lent, verdicts_lent, program_run, axiom_line, axiom_lines, answer_text, program_text}

-- ---- numbers
one_more : (b : Bool) (k x y : ℕ) (l : List ℕ) → length l ≤ k → length (cond b (x ∷ []) (l ++ (y ∷ []))) ≤ suc k
one_more true k x y l h = omega arith
one_more false k x y l h = simp length-append (omega arith)

spelt-most : (k n : ℕ) → length (spelt k n) ≤ k
unfolding spelt
spelt-most zero n = omega arith
spelt-most (suc k) n = one_more (ltb n 10) k (digit n) (digit (n % 10)) (spelt k (n / 10)) (spelt-most k (n / 10))

pub decimal-most : (n : ℕ) → length (decimal n) ≤ 10
unfolding decimal
decimal-most n = spelt-most 10 n

pub field-most : (n : ℕ) → length (field n) ≤ 11
unfolding field
field-most n = omega (arith, decimal-most n)

-- ---- lines
pub witness-most : (w : ℕ) → length (witness w) ≤ 11
unfolding witness
witness-most w = by (eqb w 4294967295)
  where
    by : (b : Bool) → length (cond b [] (field w)) ≤ 11
    by true = omega arith
    by false = field-most w

pub outcome-most : (o : Outcome) → length (outcome_word o) ≤ 9
unfolding outcome_word
outcome-most Confirmed = omega arith
outcome-most Failed = omega arith
outcome-most Open = omega arith

-- three fields after a word, and the line's end
three-most : (w a b c : List ℕ) → length a ≤ 11 → length b ≤ 11 → length c ≤ 11 → length (w ++ a ++ b ++ c) ≤ length w + 33
three-most w a b c p q r = simp length-append (omega arith)

pub summary-most : (o : Outcome) (t : Tally) → length (summary_line o t) ≤ 64
unfolding summary_line
summary-most o t =
    simp length-append (omega (arith, outcome-most o, field-most t.elements, field-most t.edges, field-most t.reasons))

pub refusal-most : (n : ℕ) → length (refusal_line n) ≤ 64
unfolding refusal_line
refusal-most n = simp length-append (omega (arith, field-most n))

pub verdict-most : (w₀ w₁ w₂ w₃ : ℕ) → length (verdict_text w₀ w₁ w₂ w₃) ≤ 39
unfolding verdict_text
verdict-most w₀ w₁ w₂ w₃ = by (eqb w₀ 0) (eqb w₀ 1)
  where
    by : (a b : Bool) → length (cond a holds_word (cond b (fails_word ++ witness w₁ ++ witness w₂ ++ witness w₃) (open_word ++ field w₀ ++ field w₁ ++ field w₂))) ≤ 39
    by true b = omega arith
    by false true = omega (arith, three-most fails_word (witness w₁) (witness w₂) (witness w₃) (witness-most w₁) (witness-most w₂) (witness-most w₃))
    by false false = omega (arith, three-most open_word (field w₀) (field w₁) (field w₂) (field-most w₀) (field-most w₁) (field-most w₂))

pub axiom-most : (words : List ℕ) (k : ℕ) → length (axiom_line words k) ≤ 50
unfolding axiom_line verdict_line
axiom-most words k =
    simp length-append
    (omega (arith, decimal-most k, verdict-most (get_or words (k * 4) 0) (get_or words (k * 4 + 1) 0) (get_or words (k * 4 + 2) 0) (get_or words (k * 4 + 3) 0)))

pub axioms-most : (words : List ℕ) (n : ℕ) → length (axiom_lines words n) ≤ 50 * n
unfolding axiom_lines
axioms-most words zero = omega arith
axioms-most words (suc n) = simp length-append (omega (arith, axioms-most words n, axiom-most words n))

-- ---- the text
done-most : (o : Outcome) (t : Tally) (words : List ℕ) (n : ℕ) → n ≤ 4096 → length (summary_line o t ++ axiom_lines words n) ≤ 204864
done-most o t words n h = simp length-append (omega (arith, summary-most o t, axioms-most words n))

-- a run that is done has at most 4,096 axioms
pub few-axioms : (s : List ℕ) (o : Outcome) (t : Tally) → (program_run s).answer ≡ Ok (o, t) → axiom_count (deck_of s) ≤ 4096
unfolding program_run verdicts_lent
few-axioms s o t h =
    let P = done-passed s program_bounds 4 labels_lent edges_lent log_lent verdicts_lent o t h in
    omega (arith, P.room.words, length-replicate {A = ℕ} 16384 0)

pub text-fits : (s : List ℕ) → length (program_text s) ≤ 204864
unfolding program_text
text-fits s = by (ltb 65536 (length s)) (program_run s).answer refl
  where
    by : (b : Bool) (a : RunAnswer) → (program_run s).answer ≡ a → length (cond b (refusal_line 9) (answer_text a (axiom_count (deck_of s)) (program_run s).verdicts)) ≤ 204864
    by true a p = omega (arith, refusal-most 9)
    by false (Err r) p = omega (arith, refusal-most (number_of r))
    by false (Ok (o, t)) p = done-most o t (program_run s).verdicts (axiom_count (deck_of s)) (few-axioms s o t p)
