use mathlib.Core.Path.{sym, ◌∙◌}
use native.Mathlib.Omega.{arith}
use Rattle.deck.specs.Records.{fact_answer}
use Rattle.deck.proofs.FaultLaws.{no-fault}
use Rattle.deck.proofs.forms.Draft.fact_answer.Goals as goal

pub returns-then-form_fits : goal.returns-then-form_fits
unfolding fact_answer
returns-then-form_fits c = sym (no-fault _ _ 5 (omega arith) (sym c.form_fits.ensures ∙ c.if-form_fits.true))

pub returns : goal.returns
unfolding fact_answer
returns c = c.record_fault.ensures
