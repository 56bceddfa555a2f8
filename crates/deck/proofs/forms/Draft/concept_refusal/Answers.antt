use mathlib.Core.Path.{◌≡◌, sym, ◌∙◌}
use native.Mathlib.Omega.{arith}
use Rattle.deck.specs.Trailer.{part_count}
use Rattle.deck.specs.Records.{concept_shape, concept_answer}
use Rattle.deck.proofs.FaultLaws.{no-fault, faulty}
use Rattle.deck.proofs.forms.Draft.concept_refusal.Goals as goal
use Rattle.deck.proofs.forms.Draft.concept_refusal.Goals.{After-form_fits}

below : (c : After-form_fits) → c.form_fits.result ≡ concept_shape c.args.self.now.parts.bytes.now (part_count c.args.self.now.parts.bytes.now 3) c.args.k
below c = rw (c.concept_form-form.ensures, c.part_word.ensures, c.count.ensures) at c.form_fits.ensures

pub returns-then-form_fits : goal.returns-then-form_fits
unfolding concept_answer
returns-then-form_fits c =
    simp (no-fault _ _ 3 (omega arith) (sym (below (goal.at.returns-then-form_fits c).After-form_fits) ∙ c.if-form_fits.true), c.requires.k_value)

pub returns : goal.returns
unfolding concept_answer
returns c = c.record_fault.ensures ∙ faulty _ _ 3 (omega arith) _ (sym (below (goal.at.returns c).After-form_fits) ∙ c.if-form_fits.false)
