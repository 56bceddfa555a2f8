-- Judgements remembered by concept and element, in a table of any length: a later judgement takes the place of an earlier one that falls on its word.
use Rattle.std.specs.Prelude.{ℕ, ◌+◌, ◌-◌, ◌*◌, ◌/◌, ◌%◌, ◌<◌, cond, ◌≡◌, List, eqb, ltb, length, get_or, set}
use Rattle.deck.specs.Deck.{Deck}
use Rattle.eval.specs.declared.judgement.Construct.{Construct}
use Rattle.eval.specs.declared.judgement.UnknownConstruct.{UnknownConstruct}
use Rattle.eval.specs.declared.judgement.Judgement.{Judgement}
use Rattle.eval.specs.declared.judgement.Judgement.TheVariants.{False, True, Unresolved}
use Rattle.std.specs.Prelude.{Option, Some, None, Result, Ok, Err}
use Rattle.eval.specs.Construct.{tag_of, construct_of}
use Rattle.eval.specs.Judge.{judge}
use Rattle.eval.specs.Structure.{Structure}

-- the code of a judgement, below 16: 1 is False, 2 is True, any other code is one more than the tag of an unresolved construct
abbrev pub code_of : Judgement → ℕ
code_of False = 1
code_of True = 2
code_of (Unresolved t) = tag_of t + 1

-- the judgement of a code, if it is one; 0 is none
abbrev pub left_open : Result Construct UnknownConstruct → Option Judgement
left_open (Ok t) = Some (Unresolved t)
left_open (Err e) = None

abbrev pub judgement_of : ℕ → Option Judgement
judgement_of d = cond (eqb d 0) None (cond (eqb d 1) (Some False) (cond (eqb d 2) (Some True) (left_open (construct_of (d - 1)))))

-- the key of concept c at element e, of n elements
abbrev pub key_of : ℕ → ℕ → ℕ → ℕ
key_of n c e = c * n + e

-- the word at a key's place: the key's quotient by the length, then the code in the low four bits
unfoldable pub word_for : List ℕ → ℕ → ℕ
word_for memo k = get_or memo (k % length memo) 0

-- what the table has for a key
unfoldable pub recalled : List ℕ → ℕ → Option Judgement
recalled memo k = cond (eqb (word_for memo k / 16) (k / length memo)) (judgement_of (word_for memo k % 16)) None

-- the table with a code at a key; the same table where the word would not fit 16 bits
unfoldable pub stored : List ℕ → ℕ → ℕ → List ℕ
stored memo k d = cond (ltb (k / length memo) 4096) (set memo (k % length memo) (k / length memo * 16 + d)) memo

-- every judgement that the table has is right, and each code that it has is a judgement's
pub record Remembers (D : Deck) (S : Structure) (memo : List ℕ) : Type 0 where
  pub room : 0 < length memo
  pub right : (c e : ℕ) → e < S.size
      → word_for memo (key_of S.size c e) / 16 ≡ key_of S.size c e / length memo
      → 0 < word_for memo (key_of S.size c e) % 16
      → judgement_of (word_for memo (key_of S.size c e) % 16) ≡ Some (judge D S c e)
