use mathlib.Core.Path.{◌≡◌, sym}
use native.Mathlib.Omega.{arith}
use Rattle.deck.proofs.AnswerLaws.{first-none, first_more, first_stops, refused_on}
use Rattle.deck.proofs.forms.Draft.records_answer.Goals as goal

pub loop-p-init : goal.loop-p-init
loop-p-init c = first-none _

pub returns-in_err-part_answer : goal.returns-in_err-part_answer
returns-in_err-part_answer c =
    refused_on _ _ _ c.from_residual.ensures.1 (sym (first_stops _ c.loop-p.p _ _ (omega arith) c.loop-p.invariant (sym c.in_err-part_answer.ensures)))

pub loop-p-preserved : goal.loop-p-preserved
loop-p-preserved c = first_more _ _ c.loop-p.invariant (sym c.in_ok-part_answer.ensures)

pub returns : goal.returns
returns c = let e : c.loop-p.p ≡ 6 = omega (arith, c.loop-p.auto) in sym (rw e at c.loop-p.invariant)
