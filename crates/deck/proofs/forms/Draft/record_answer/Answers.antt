use mathlib.Core.Path.{◌≡◌}
use native.Mathlib.Omega.{arith}
use Rattle.deck.specs.Records.{record_answer}
use Rattle.deck.proofs.forms.Draft.record_answer.Goals as goal
use Rattle.deck.proofs.forms.Draft.record_answer.Goals.{In_default}

last : (c : In_default) → c.args.p ≡ 5
last c = omega arith

pub returns-in-0 : goal.returns-in-0
unfolding record_answer
returns-in-0 c = rw c.in-0.is c.class_answer.ensures

pub returns-in-1 : goal.returns-in-1
unfolding record_answer
returns-in-1 c = rw c.in-1.is c.role_answer.ensures

pub returns-in-2 : goal.returns-in-2
unfolding record_answer
returns-in-2 c = rw c.in-2.is c.injected_answer.ensures

pub returns-in-3 : goal.returns-in-3
unfolding record_answer
returns-in-3 c = rw c.in-3.is c.concept_answer.ensures

pub returns-in-4 : goal.returns-in-4
unfolding record_answer
returns-in-4 c = rw c.in-4.is c.axiom_answer.ensures

pub returns-in_default : goal.returns-in_default
unfolding record_answer
returns-in_default c = rw (last (goal.at.returns-in_default c).In_default) c.fact_answer.ensures
