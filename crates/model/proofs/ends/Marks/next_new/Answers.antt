use Rattle.model.proofs.EndsLaws.{new-start, new-here, new-step, new-end}
use Rattle.model.proofs.WordLaws.{pass_on}
use mathlib.Core.Path.{ap, ◌∙◌}
use native.Mathlib.Omega.{arith}
use Prim.Native.Nat.{ℕ, ◌/◌, ◌%◌, ◌^◌}
use Rattle.model.proofs.ends.Marks.next_new.Goals as goal

pub loop-i-init : goal.loop-i-init
loop-i-init c =
    (omega arith, new-start _ _ _)

pub returns-then-rest-eq1 : goal.returns-then-rest-eq1
returns-then-rest-eq1 c =
    new-here _ _ _ c.loop-i.i c.loop-i.invariant.1 (c.from_bit-rest.ensures ∙ ap (λ (m : ℕ). m / 2 ^ (c.loop-i.i % 64)) c.without.ensures) _ c.loop-i.invariant.0 (omega arith) c.if-rest-eq1.true

pub loop-i-smaller : goal.loop-i-smaller
loop-i-smaller c =
    omega (arith, pass_on c.from_bit-rest.ensures c.loop-i.i c.after-i.ensures)

pub loop-i-preserved : goal.loop-i-preserved
loop-i-preserved c =
    (omega (arith, c.loop-i.invariant.0, pass_on c.from_bit-rest.ensures c.loop-i.i c.after-i.ensures), new-step _ _ _ c.loop-i.i c.loop-i.invariant.1 (c.from_bit-rest.ensures ∙ ap (λ (m : ℕ). m / 2 ^ (c.loop-i.i % 64)) c.without.ensures) c.if-rest-eq1.false c.after-i.ensures)

pub returns : goal.returns
returns c =
    new-end _ _ _ _ c.loop-i.i c.loop-i.invariant.1 (omega arith)
