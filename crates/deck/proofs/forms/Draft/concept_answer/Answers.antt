use mathlib.Core.Path.{◌≡◌, sym, ◌∙◌}
use native.Mathlib.Omega.{arith}
use Rattle.deck.specs.Trailer.{part_count}
use Rattle.deck.specs.Parts.{part_word}
use Rattle.deck.specs.Records.{concept_form, concept_shape, concept_answer}
use Rattle.deck.proofs.FaultLaws.{no-fault}
use Rattle.deck.proofs.FormLaws.{form-more}
use Rattle.deck.proofs.forms.Draft.concept_answer.Goals as goal
use Rattle.deck.proofs.forms.Draft.concept_answer.Goals.{After-form_fits}

below : (c : After-form_fits) → c.form_fits.result ≡ concept_shape c.args.self.now.parts.bytes.now c.args.k c.args.k
below c = rw (c.concept_form-form.ensures, c.part_word.ensures) at c.form_fits.ensures

-- the operands are below the concept, and so below C
pub returns-then-form_fits : goal.returns-then-form_fits
unfolding concept_answer
returns-then-form_fits c =
    let s = c.args.self.now.parts.bytes.now in
    let k = c.args.k in
    let fits = sym (below (goal.at.returns-then-form_fits c).After-form_fits) ∙ c.if-form_fits.true in
    simp (no-fault s k 3 (omega arith) (form-more s k (part_count s 3) (omega (arith, c.requires)) (concept_form (part_word s 3 k 0)) (part_word s 3 k 1) (part_word s 3 k 2) (part_word s 3 k 3) fits), fits)

pub concept_refusal-requires-clause-k_value : goal.concept_refusal-requires-clause-k_value
concept_refusal-requires-clause-k_value c = sym (below (goal.at.concept_refusal-requires-clause-k_value c).After-form_fits) ∙ c.if-form_fits.false
