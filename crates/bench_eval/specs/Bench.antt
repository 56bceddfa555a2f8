-- What the bench's function answers.
use Rattle.std.specs.Prelude.{Ok, Err}
use Rattle.std.specs.Prelude.{ℕ, ◌+◌}
use Rattle.deck.specs.Refusal.{number_of}
use Rattle.eval.specs.declared.judgement.Judgement.{Judgement}
use Rattle.eval.specs.declared.judgement.Judgement.TheVariants.{False, True, Unresolved}
use Rattle.eval.specs.Construct.{tag_of}
use Rattle.eval.specs.Entry.{ConceptAnswer}

-- 0 False, 1 True, 2 + tag Unresolved, 100 + number Refused
abbrev pub judgement_word : Judgement → ℕ
judgement_word False = 0
judgement_word True = 1
judgement_word (Unresolved t) = 2 + tag_of t

abbrev pub answer_word : ConceptAnswer → ℕ
answer_word (Err r) = 100 + number_of r
answer_word (Ok j) = judgement_word j
