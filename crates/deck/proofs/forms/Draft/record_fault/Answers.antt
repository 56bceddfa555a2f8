use mathlib.Core.Path.{◌≡◌, sym, ◌∙◌}
use native.Mathlib.Omega.{arith}
use Rattle.deck.proofs.FaultLaws.{walk}
use Rattle.deck.proofs.forms.Draft.record_fault.Goals as goal
use Rattle.deck.proofs.forms.Draft.record_fault.Goals.{In_default}

last : (c : In_default) → c.args.p ≡ 5
last c = omega arith

pub returns-in-0 : goal.returns-in-0
returns-in-0 c = rw c.in-0.is (c.form_fault.ensures ∙ sym (walk _ _ 0 (omega arith)))

pub returns-in-2 : goal.returns-in-2
returns-in-2 c = rw c.in-2.is (c.form_fault-in-2.ensures ∙ sym (walk _ _ 2 (omega arith)))

pub returns-in-3 : goal.returns-in-3
returns-in-3 c = rw c.in-3.is (rw (c.concept_form.ensures, c.part_word.ensures) at c.form_fault-in-3.ensures ∙ sym (walk _ _ 3 (omega arith)))

pub returns-in-4 : goal.returns-in-4
returns-in-4 c = rw c.in-4.is (rw (c.axiom_form.ensures, c.part_word-in-4.ensures) at c.form_fault-in-4.ensures ∙ sym (walk _ _ 4 (omega arith)))

pub returns-in_default : goal.returns-in_default
returns-in_default c = rw (last (goal.at.returns-in_default c).In_default) (c.form_fault-in_default.ensures ∙ sym (walk _ _ 5 (omega arith)))
