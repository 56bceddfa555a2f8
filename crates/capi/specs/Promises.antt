-- What a caller may rely on: once 0 was returned, read off the first four words of the answer; once a word was returned, of the deck.
use Rattle.std.specs.Prelude.{Err}
use Rattle.std.specs.Prelude.{ℕ, ◌≤◌, true, ◌≡◌, List, take}
use Rattle.deck.specs.declared.refusal.Refusal.{Refusal}
use Rattle.deck.specs.Refusal.{number_of, word_of}
use Rattle.deck.specs.Records.{deck_answer}
use Rattle.deck.specs.Named.{Named}
use Rattle.deck.specs.Deck.{Deck, axiom_at}
use Rattle.eval.specs.declared.judgement.Judgement.{Judgement}
use Rattle.eval.specs.declared.verdict.Verdict.{Verdict}
use Rattle.eval.specs.Structure.{Structure}
use Rattle.eval.specs.Lent.{structure_of}
use Rattle.eval.specs.Truth.{Choice, ext, plain}
use Rattle.eval.specs.Judge.{Right, truth}
use Rattle.eval.specs.Justified.{Justified}
use Rattle.eval.specs.Verdict.{words_of}
use Rattle.model.specs.declared.outcome.Outcome.{Outcome}
use Rattle.build.specs.declared.tally.Tally.{Tally}
use Rattle.model.specs.Run.{shape_in}
use Rattle.model.specs.Trust.{Trusted}
use Rattle.capi.specs.Words.{judgement_words, summary_words}

-- the deck is refused with 12, 13 or 14, and what stands at word w is that fault
pub record FaultNamed (s : List ℕ) (w : ℕ) : Type 0 where
  pub refusal : Refusal
  pub answered : deck_answer s ≡ Err refusal
  pub pied : 12 ≤ number_of refusal
  pub word : word_of refusal ≡ w
  pub named : Named s refusal

-- true and false are so under every choice; a plain concept is judged true or false, as it is
pub record Judged (D : Deck) (S : Structure) (c e : ℕ) (answer : List ℕ) : Type 0 where
  pub judgement : Judgement
  pub words : take 4 answer ≡ judgement_words judgement
  pub right : (χ : Choice) → Right judgement (ext D S χ c e)
  pub exact : plain D c ≡ true → (χ : Choice) → judgement ≡ truth (ext D S χ c e)

-- Holds only for a true axiom, Fails only for one false at its witnesses; exact on the plain part
pub record Checked (D : Deck) (S : Structure) (a : ℕ) (answer : List ℕ) : Type 0 where
  pub verdict : Verdict
  pub words : take 4 answer ≡ words_of verdict
  pub justified : Justified D S (axiom_at D a) verdict

-- demand 3, over the structure that the buffers hold
pub record Relied (D : Deck) (labels : List ℕ) (edges : List (List ℕ)) (verdicts answer : List ℕ) : Type 0 where
  pub outcome : Outcome
  pub tally : Tally
  pub words : take 4 answer ≡ summary_words outcome tally
  pub trusted : Trusted D (structure_of D labels edges (shape_in tally)) verdicts outcome
