-- Numbers and lines, computed.
use mathlib.Core.Path.{◌≡◌, refl}
use mathlib.Core.List.{[], ◌∷◌}
use Rattle.model.specs.declared.outcome.Outcome.TheVariants.{Confirmed}
use Rattle.report.specs.Lines.{spelt, decimal, field, outcome_word, summary_line, witness, verdict_text, verdict_line, refusal_line}

decimal-zero : decimal 0 ≡ 48 ∷ []
unfolding spelt decimal
decimal-zero = refl

decimal_digit : decimal 7 ≡ 55 ∷ []
unfolding spelt decimal
decimal_digit = refl

decimal-ten : decimal 10 ≡ 49 ∷ 48 ∷ []
unfolding spelt decimal
decimal-ten = refl

decimal-largest : decimal 4294967295 ≡ 52 ∷ 50 ∷ 57 ∷ 52 ∷ 57 ∷ 54 ∷ 55 ∷ 50 ∷ 57 ∷ 53 ∷ []
unfolding spelt decimal
decimal-largest = refl

-- "confirmed 2 1 0"
summary : summary_line Confirmed (record { elements = 2; edges = 1; reasons = 0 }) ≡ 99 ∷ 111 ∷ 110 ∷ 102 ∷ 105 ∷ 114 ∷ 109 ∷ 101 ∷ 100 ∷ 32 ∷ 50 ∷ 32 ∷ 49 ∷ 32 ∷ 48 ∷ 10 ∷ []
unfolding spelt decimal field outcome_word summary_line
summary = refl

-- "0 holds"
holds : verdict_line 0 0 0 0 0 ≡ 48 ∷ 32 ∷ 104 ∷ 111 ∷ 108 ∷ 100 ∷ 115 ∷ 10 ∷ []
unfolding spelt decimal field witness verdict_text verdict_line
holds = refl

-- "3 fails 1 2"
fails : verdict_line 3 1 1 2 4294967295 ≡ 51 ∷ 32 ∷ 102 ∷ 97 ∷ 105 ∷ 108 ∷ 115 ∷ 32 ∷ 49 ∷ 32 ∷ 50 ∷ 10 ∷ []
unfolding spelt decimal field witness verdict_text verdict_line
fails = refl

-- "4 open 4 0 0"
opens : verdict_line 4 4 0 0 0 ≡ 52 ∷ 32 ∷ 111 ∷ 112 ∷ 101 ∷ 110 ∷ 32 ∷ 52 ∷ 32 ∷ 48 ∷ 32 ∷ 48 ∷ 10 ∷ []
unfolding spelt decimal field witness verdict_text verdict_line
opens = refl

-- "refused 9"
refused : refusal_line 9 ≡ 114 ∷ 101 ∷ 102 ∷ 117 ∷ 115 ∷ 101 ∷ 100 ∷ 32 ∷ 57 ∷ 10 ∷ []
unfolding spelt decimal field refusal_line
refused = refl
