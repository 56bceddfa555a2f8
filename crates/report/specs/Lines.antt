-- The lines that the program prints: document 01, "The program". A line is a list of bytes.
use Rattle.std.specs.Prelude.{ℕ, zero, suc, ◌+◌, ◌/◌, ◌%◌, cond, List, [], ◌∷◌, ◌++◌, ltb, eqb}
use Rattle.model.specs.declared.outcome.Outcome.{Outcome}
use Rattle.model.specs.declared.outcome.Outcome.TheVariants.{Confirmed, Failed, Open}
use Rattle.build.specs.declared.tally.Tally.{Tally}

-- ---- numbers
-- the byte of a digit below 10
abbrev pub digit : ℕ → ℕ
digit d = 48 + d

-- a number of at most k digits: its only digit, or the digits of its tenth part and then its last one
unfoldable pub spelt : ℕ → ℕ → List ℕ
spelt zero n = []
spelt (suc k) n = cond (ltb n 10) (digit n ∷ []) (spelt k (n / 10) ++ (digit (n % 10) ∷ []))

-- "unsigned 32-bit words … figures base ten", no zero in front; ten digits are enough (`decimal-more`)
unfoldable pub decimal : ℕ → List ℕ
decimal n = spelt 10 n

-- ---- words
-- a space and a number
unfoldable pub field : ℕ → List ℕ
field n = 32 ∷ decimal n

abbrev pub newline : List ℕ
newline = 10 ∷ []

-- "confirmed", "failed", "open"
unfoldable pub outcome_word : Outcome → List ℕ
outcome_word Confirmed = 99 ∷ 111 ∷ 110 ∷ 102 ∷ 105 ∷ 114 ∷ 109 ∷ 101 ∷ 100 ∷ []
outcome_word Failed = 102 ∷ 97 ∷ 105 ∷ 108 ∷ 101 ∷ 100 ∷ []
outcome_word Open = 111 ∷ 112 ∷ 101 ∷ 110 ∷ []

-- " holds"
abbrev pub holds_word : List ℕ
holds_word = 32 ∷ 104 ∷ 111 ∷ 108 ∷ 100 ∷ 115 ∷ []

-- " fails"
abbrev pub fails_word : List ℕ
fails_word = 32 ∷ 102 ∷ 97 ∷ 105 ∷ 108 ∷ 115 ∷ []

-- " open"
abbrev pub open_word : List ℕ
open_word = 32 ∷ 111 ∷ 112 ∷ 101 ∷ 110 ∷ []

-- "refused"
abbrev pub refused_word : List ℕ
refused_word = 114 ∷ 101 ∷ 102 ∷ 117 ∷ 115 ∷ 101 ∷ 100 ∷ []

-- ---- lines
-- "It prints outcome, elements, edges, reasons"
unfoldable pub summary_line : Outcome → Tally → List ℕ
summary_line o t = outcome_word o ++ field t.elements ++ field t.edges ++ field t.reasons ++ newline

-- "Remaining words are … after Fails 4,294,967,295": a word that is no witness is left out
unfoldable pub witness : ℕ → List ℕ
witness w = cond (eqb w 4294967295) [] (field w)

-- "`holds`, `fails` with witnesses, or `open` with its first three words"; "0 Holds; 1 Fails, then witnesses"
unfoldable pub verdict_text : ℕ → ℕ → ℕ → ℕ → List ℕ
verdict_text w₀ w₁ w₂ w₃ =
    cond (eqb w₀ 0) holds_word
    (cond (eqb w₀ 1) (fails_word ++ witness w₁ ++ witness w₂ ++ witness w₃)
    (open_word ++ field w₀ ++ field w₁ ++ field w₂))

-- "then per axiom its index and" its verdict
unfoldable pub verdict_line : ℕ → ℕ → ℕ → ℕ → ℕ → List ℕ
verdict_line i w₀ w₁ w₂ w₃ = decimal i ++ verdict_text w₀ w₁ w₂ w₃ ++ newline

-- "Refusal: `refused` and number."
unfoldable pub refusal_line : ℕ → List ℕ
refusal_line n = refused_word ++ field n ++ newline
