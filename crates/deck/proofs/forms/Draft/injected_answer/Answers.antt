use mathlib.Core.Path.{◌≡◌, sym, ◌∙◌}
use mathlib.Core.Bool.{true}
use native.Mathlib.Omega.{arith}
use Rattle.deck.specs.Records.{injected_shape, injected_answer}
use Rattle.deck.proofs.FaultLaws.{no-fault, faulty}
use Rattle.deck.proofs.forms.Draft.injected_answer.Goals as goal
use Rattle.deck.proofs.forms.Draft.injected_answer.Goals.{Else-not-form_fits}

shaped : (c : Else-not-form_fits) → injected_shape c.args.self.now.parts.bytes.now c.args.k ≡ true
shaped c = sym c.form_fits.ensures ∙ c.if-not-form_fits.false

pub returns-then-not-form_fits : goal.returns-then-not-form_fits
unfolding injected_answer
returns-then-not-form_fits c = c.record_fault.ensures ∙ faulty _ _ 2 (omega arith) _ (sym c.form_fits.ensures ∙ c.if-not-form_fits.true)

pub returns : goal.returns
unfolding injected_answer
returns c = simp (no-fault _ _ 2 (omega arith) (shaped (goal.at.returns c).Else-not-form_fits)) (rw c.injected_order.ensures at c.in_order.ensures)
