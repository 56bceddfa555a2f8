-- Answers as words: what a call returns and writes, and what follows once it returned 0. Assumes nothing.
use Rattle.std.specs.Prelude.{Ok, Err}
use Prim.Native.Nat.{ℕ, ◌<◌, ◌≤◌}
use mathlib.Core.Bool.{true}
use mathlib.Core.Path.{◌≡◌, refl, sym, ap, ◌∙◌}
use mathlib.Core.Logic.{⊎_elim}
use mathlib.Core.List.{List, [], ◌∷◌}
use native.Mathlib.Omega.{arith}
use borrow.Author.Tests.{lt-ltb, le-ltb}
use lib.ListN.{length, get_or, take}
use lib.Seq.{sets}
use Rattle.deck.specs.Refusal.{DeckAnswer}
use Rattle.deck.specs.declared.refusal.Refusal.{Refusal}
use Rattle.deck.specs.declared.refusal.Refusal.TheVariants.{TooShort, UnknownEdition, CountOverLimit, BadLayout, BadOrder, ForwardOperand, BadBounds, ShortBuffer, ForeignStructure, AbsentIndex, UnknownTag, OutOfRange, FilledField}
use Rattle.deck.specs.Refusal.{number_of, word_of, no_word}
use Rattle.deck.specs.Records.{deck_answer}
use Rattle.deck.proofs.CaseLaws.{lt-or-le}
use Rattle.deck.proofs.NamedLaws.{named, word-told, unnamed}
use Rattle.deck.specs.Deck.{Deck, axiom_at}
use Rattle.eval.specs.declared.shape.Shape.{Shape}
use Rattle.eval.specs.declared.judgement.Judgement.{Judgement}
use Rattle.eval.specs.declared.judgement.Judgement.TheVariants.{False, True, Unresolved}
use Rattle.eval.specs.declared.verdict.Verdict.{Verdict}
use Rattle.eval.specs.Entry.{ConceptAnswer}
use Rattle.eval.specs.Entry.{AxiomAnswer}
use Rattle.eval.specs.Structure.{Structure}
use Rattle.eval.specs.Lent.{structure_of}
use Rattle.eval.specs.Truth.{Choice, ext, plain}
use Rattle.eval.specs.Judge.{Right, truth}
use Rattle.eval.specs.Justified.{Justified}
use Rattle.eval.specs.Entry.{concept_answer, axiom_answer}
use Rattle.eval.specs.Verdict.{words_of}
use Rattle.build.specs.declared.bounds.Bounds.{Bounds}
use Rattle.model.specs.declared.outcome.Outcome.{Outcome}
use Rattle.build.specs.declared.tally.Tally.{Tally}
use Rattle.model.specs.Run.{RunAnswer}
use Rattle.atoms.specs.Rows.{put}
use Rattle.model.specs.Run as model
use Rattle.model.specs.Run.{Ran, ran, shape_in}
use Rattle.model.specs.Trust.{Trusted}
use Rattle.atoms.proofs.RowLaws.{put-take}
use Rattle.model.proofs.JudgingLaws.{put-sets, four-words}
use Rattle.capi.specs.Words.{Told, told, refused, given, deck_word, judgement_words, judgement_told, verdict_told, summary_words, summary_told}
use Rattle.capi.specs.Calls.{check_deck, eval_concept, check_axiom, called, called_for, run}
use Rattle.capi.specs.Promises.{FaultNamed, Judged, Checked, Relied}

-- ---- four words
abbrev pub four : List ℕ → List ℕ
four w = get_or w 0 0 ∷ get_or w 1 0 ∷ get_or w 2 0 ∷ get_or w 3 0 ∷ []

pub four-judgement : (j : Judgement) → four (judgement_words j) ≡ judgement_words j
four-judgement False = refl
four-judgement True = refl
four-judgement (Unresolved tag) = refl

pub stored : (answer words : List ℕ) → length words ≤ length answer → told 0 (sets answer 0 words) ≡ given answer words
stored answer words h = ap (told 0) (put-sets answer words h)

pub given-four : (answer : List ℕ) {w words : List ℕ} {t : Told} → t ≡ given answer (four w) → w ≡ words → four words ≡ words → t ≡ given answer words
given-four answer t-is w-is is-four = t-is ∙ ap (given answer) (ap four w-is ∙ is-four)

pub renumbered : (answer : List ℕ) {n m : ℕ} → n ≡ m → told n answer ≡ told m answer
renumbered answer h = ap (λ (n : ℕ). told n answer) h

pub given-first : (answer rest : List ℕ) {n m : ℕ} → n ≡ m → given answer (n ∷ rest) ≡ given answer (m ∷ rest)
given-first answer rest h = ap (λ (n : ℕ). given answer (n ∷ rest)) h

-- the words that were given are the first four
first-four : (answer words : List ℕ) {answer' : List ℕ} {r : ℕ} → four words ≡ words → told r answer' ≡ given answer words → take 4 answer' ≡ words
first-four answer words is-four h =
    ap (λ (t : Told). take 4 t.answer) h
    ∙ ap (λ (n : ℕ). take n (put answer words)) (ap length is-four)
    ∙ put-take answer words

-- ---- a refusal returns no 0
above_zero : (ρ : Refusal) → 0 < number_of ρ
above_zero TooShort = omega arith
above_zero UnknownEdition = omega arith
above_zero CountOverLimit = omega arith
above_zero BadLayout = omega arith
above_zero BadOrder = omega arith
above_zero ForwardOperand = omega arith
above_zero BadBounds = omega arith
above_zero ShortBuffer = omega arith
above_zero ForeignStructure = omega arith
above_zero AbsentIndex = omega arith
above_zero (UnknownTag w) = omega arith
above_zero (OutOfRange w) = omega arith
above_zero (FilledField w) = omega arith

pub never : {X : Type 0} (ρ : Refusal) {r : ℕ} → r ≡ number_of ρ → r ≡ 0 → X
never ρ h z = absurd (omega (arith, above_zero ρ, h, z))

refused-never : {X : Type 0} (ρ : Refusal) {answer answer' : List ℕ} {r : ℕ} → told r answer' ≡ refused ρ answer → r ≡ 0 → X
refused-never ρ h z = never ρ (ap (λ (t : Told). t.number) h) z

-- ---- a word below `no_word` is the word of a fault, and a fault has one
has_word : (ρ : Refusal) → word_of ρ < no_word → 12 ≤ number_of ρ
has_word ρ h = ⊎_elim (λ (l : number_of ρ < 12). absurd (omega (arith, h, unnamed ρ l))) (λ (l : 12 ≤ number_of ρ). l) (lt-or-le (number_of ρ) 12)

pub fault-named : (s : List ℕ) {r : ℕ} (a : DeckAnswer) → deck_answer s ≡ a → r ≡ deck_word a → r < no_word → FaultNamed s r
fault-named s (Ok tt) is h l = absurd (omega (arith, h, l))
fault-named s (Err ρ) is h l =
    let pied = has_word ρ (rw h at l) in
    record { refusal = ρ; answered = is; pied = pied; word = sym h; named = named s ρ is pied }

pub fault-known : (s : List ℕ) {r : ℕ} (a : DeckAnswer) → deck_answer s ≡ a → r ≡ deck_word a → 12 ≤ check_deck s → r < no_word
unfolding check_deck
fault-known s (Ok tt) is h l = absurd (omega (arith, rw is at l))
fault-known s (Err ρ) is h l = rw h (word-told s ρ is (rw is at l))

-- ---- judging
module _ (s labels : List ℕ) (rows : List (List ℕ)) (shape : Shape) (answer : List ℕ) {r : ℕ} where
  pub concept-short : (c e : ℕ) → length answer < 4 → r ≡ number_of ShortBuffer → told r answer ≡ eval_concept s labels rows shape c e answer
  unfolding eval_concept
  concept-short c e short h = rw (lt-ltb (length answer) 4 short) (renumbered answer h)

  pub axiom-short : (a : ℕ) → length answer < 4 → r ≡ number_of ShortBuffer → told r answer ≡ check_axiom s labels rows shape a answer
  unfolding check_axiom
  axiom-short a short h = rw (lt-ltb (length answer) 4 short) (renumbered answer h)

  pub concept-told : (c e : ℕ) {answer' : List ℕ} {j : ConceptAnswer} → 4 ≤ length answer → j ≡ concept_answer s labels rows shape c e → told r answer' ≡ judgement_told j answer
      → told r answer' ≡ eval_concept s labels rows shape c e answer
  unfolding eval_concept
  concept-told c e long is h = rw (le-ltb (length answer) 4 long) (h ∙ ap (λ (j : ConceptAnswer). judgement_told j answer) is)

  pub axiom-told : (a : ℕ) {answer' : List ℕ} {v : AxiomAnswer} → 4 ≤ length answer → v ≡ axiom_answer s labels rows shape a → told r answer' ≡ verdict_told v answer
      → told r answer' ≡ check_axiom s labels rows shape a answer
  unfolding check_axiom
  axiom-told a long is h = rw (le-ltb (length answer) 4 long) (h ∙ ap (λ (v : AxiomAnswer). verdict_told v answer) is)

pub concept-right : {D : Deck} {S : Structure} {c e : ℕ} {answer' : List ℕ} {r : ℕ} (answer : List ℕ) (ja : ConceptAnswer) → told r answer' ≡ judgement_told ja answer
    → ((j : Judgement) → ja ≡ Ok j → (χ : Choice) → Right j (ext D S χ c e))
    → ((j : Judgement) → ja ≡ Ok j → plain D c ≡ true → (χ : Choice) → j ≡ truth (ext D S χ c e)) → r ≡ 0 → Judged D S c e answer'
concept-right answer (Err ρ) h right exact z = refused-never ρ h z
concept-right answer (Ok j) h right exact z =
    record { judgement = j; words = first-four answer (judgement_words j) (four-judgement j) h; right = right j refl; exact = exact j refl }

pub axiom-justified : {D : Deck} {S : Structure} {a : ℕ} {answer' : List ℕ} {r : ℕ} (answer : List ℕ) (va : AxiomAnswer) → told r answer' ≡ verdict_told va answer
    → ((v : Verdict) → va ≡ Ok v → Justified D S (axiom_at D a) v) → r ≡ 0 → Checked D S a answer'
axiom-justified answer (Err ρ) h justified z = refused-never ρ h z
axiom-justified answer (Ok v) h justified z =
    record { verdict = v; words = first-four answer (words_of v) (four-words v) h; justified = justified v refl }

-- ---- a run
module _ (s : List ℕ) (B : Bounds) (last : ℕ) (labels : List ℕ) (edges : List (List ℕ)) (log verdicts answer : List ℕ) {r : ℕ} where
  pub run_short : length answer < 4 → r ≡ number_of ShortBuffer → called (told r answer) labels edges log verdicts ≡ run s B last labels edges log verdicts answer
  unfolding run
  run_short short h = rw (lt-ltb (length answer) 4 short) (ap (λ (n : ℕ). called (told n answer) labels edges log verdicts) h)

  module _ {answer' labels' : List ℕ} {edges' : List (List ℕ)} {log' verdicts' : List ℕ} (a : RunAnswer) (h : told r answer' ≡ summary_told a answer) where
    pub run-told : 4 ≤ length answer → ran a labels' edges' log' verdicts' ≡ model.run s B last labels edges log verdicts
        → called (told r answer') labels' edges' log' verdicts' ≡ run s B last labels edges log verdicts answer
    unfolding run
    run-told long is =
        rw (le-ltb (length answer) 4 long)
        (ap (λ (t : Told). called t labels' edges' log' verdicts') h ∙ ap (λ (m : Ran). called_for m answer) is)

pub run-relied : {D : Deck} {labels : List ℕ} {edges : List (List ℕ)} {verdicts answer' : List ℕ} {r : ℕ} (answer : List ℕ) (a : RunAnswer) → told r answer' ≡ summary_told a answer
    → ((outcome : Outcome) (t : Tally) → a ≡ Ok (outcome, t) → Trusted D (structure_of D labels edges (shape_in t)) verdicts outcome)
    → r ≡ 0 → Relied D labels edges verdicts answer'
run-relied answer (Err ρ) h trusted z = refused-never ρ h z
run-relied answer (Ok (outcome, t)) h trusted z =
    record { outcome = outcome; tally = t; words = first-four answer (summary_words outcome t) refl h; trusted = trusted outcome t refl }
