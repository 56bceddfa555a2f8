use mathlib.Core.Path.{sym}
use Rattle.deck.specs.Records.{deck_answer}
use Rattle.deck.proofs.AnswerLaws.{refused_on}
use Rattle.deck.proofs.TrailerLaws.{framed_of}
use Rattle.deck.proofs.check_deck.Goals as goal

pub returns-in_err-check_trailer : goal.returns-in_err-check_trailer
unfolding deck_answer
returns-in_err-check_trailer c = refused_on _ _ _ c.from_residual.ensures.1 (simp (sym c.in_err-check_trailer.ensures))

pub invariant_of-new : goal.invariant_of-new
invariant_of-new c = record { framed = framed_of 1 _ (sym c.in_ok-check_trailer.ensures) }

pub returns : goal.returns
unfolding deck_answer
returns c = simp (sym c.in_ok-check_trailer.ensures) (rw c.new.ensures at c.records_answer.ensures)
