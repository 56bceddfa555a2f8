use mathlib.Core.Path.{sym, ◌∙◌}
use native.Mathlib.Omega.{arith}
use Rattle.deck.specs.Records.{axiom_answer}
use Rattle.deck.proofs.FaultLaws.{no-fault}
use Rattle.deck.proofs.forms.Draft.axiom_answer.Goals as goal

pub returns-then-form_fits : goal.returns-then-form_fits
unfolding axiom_answer
returns-then-form_fits c =
    let fits = rw (c.axiom_form-form.ensures, c.part_word.ensures, c.count.ensures) at c.form_fits.ensures in
    sym (no-fault _ _ 4 (omega arith) (sym fits ∙ c.if-form_fits.true))

pub returns : goal.returns
unfolding axiom_answer
returns c = c.record_fault.ensures
