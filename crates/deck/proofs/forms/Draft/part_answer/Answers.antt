use mathlib.Core.Path.{◌≡◌, sym}
use native.Mathlib.Omega.{arith}
use Rattle.deck.proofs.AnswerLaws.{first-none, first_more, first_stops, refused_on}
use Rattle.deck.specs.Trailer.{part_count}
use Rattle.deck.specs.Records.{part_answer}
use Rattle.deck.proofs.forms.Draft.part_answer.Goals as goal

pub loop-k-init : goal.loop-k-init
loop-k-init c = first-none _

pub returns-in_err-record_answer : goal.returns-in_err-record_answer
unfolding part_answer
returns-in_err-record_answer c =
    refused_on _ _ _ c.from_residual.ensures.1 (sym (first_stops _ c.loop-k.k _ _ (omega arith) c.loop-k.invariant (sym c.in_err-record_answer.ensures)))

pub loop-k-preserved : goal.loop-k-preserved
loop-k-preserved c = first_more _ _ c.loop-k.invariant (sym c.in_ok-record_answer.ensures)

pub returns : goal.returns
unfolding part_answer
returns c = let e : c.loop-k.k ≡ part_count c.args.self.now.parts.bytes.now c.args.p = omega (arith, c.loop-k.auto) in sym (rw e at c.loop-k.invariant)
