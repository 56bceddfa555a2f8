use mathlib.Core.Path.{◌≡◌, sym, ◌∙◌}
use mathlib.Core.Bool.{true}
use native.Mathlib.Omega.{arith}
use Rattle.deck.specs.Records.{role_shape, role_answer}
use Rattle.deck.proofs.FaultLaws.{no-fault, faulty}
use Rattle.deck.proofs.forms.Draft.role_answer.Goals as goal
use Rattle.deck.proofs.forms.Draft.role_answer.Goals.{Else-not-role_shape}

shaped : (c : Else-not-role_shape) → role_shape c.args.self.now.parts.bytes.now c.args.k ≡ true
shaped c = sym c.role_shape.ensures ∙ c.if-not-role_shape.false

pub returns-then-not-role_shape : goal.returns-then-not-role_shape
unfolding role_answer
returns-then-not-role_shape c = c.record_fault.ensures ∙ faulty _ _ 1 (omega arith) _ (sym c.role_shape.ensures ∙ c.if-not-role_shape.true)

pub role_order-requires-clause-k_value : goal.role_order-requires-clause-k_value
role_order-requires-clause-k_value c = shaped (goal.at.role_order-requires-clause-k_value c).Else-not-role_shape

pub returns : goal.returns
unfolding role_answer
returns c = simp (no-fault _ _ 1 (omega arith) (shaped (goal.at.returns c).Else-not-role_shape)) (rw c.role_order.ensures at c.in_order.ensures)
