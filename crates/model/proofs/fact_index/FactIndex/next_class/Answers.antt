use native.Mathlib.Omega.{arith}
use Rattle.model.proofs.WordLaws.{pass_on}
use Rattle.model.proofs.PassLaws.{pass-start, pass-here, pass-hit, pass_step, pass-end}
use Rattle.model.proofs.fact_index.FactIndex.next_class.Goals as goal

pub loop-i-init : goal.loop-i-init
loop-i-init c =
    (omega arith, pass-start _ _ _)

pub returns-then-rest-eq1-clause-passed : goal.returns-then-rest-eq1-clause-passed
returns-then-rest-eq1-clause-passed c =
    pass-here _ _ _ _ _ c.loop-i.invariant.1 c.loop-i.invariant.0 (omega (arith, c.class_count-count.ensures.is))

pub returns-then-rest-eq1-clause-met : goal.returns-then-rest-eq1-clause-met
returns-then-rest-eq1-clause-met c =
    (omega (arith, c.class_count-count.ensures.is), pass-hit _ _ _ c.loop-i.i c.loop-i.invariant.1 c.from_bit-rest.ensures c.if-rest-eq1.true)

pub loop-i-smaller : goal.loop-i-smaller
loop-i-smaller c =
    omega (arith, pass_on c.from_bit-rest.ensures c.loop-i.i c.after-i.ensures)

pub loop-i-preserved : goal.loop-i-preserved
loop-i-preserved c =
    (omega (arith, c.loop-i.invariant.0, pass_on c.from_bit-rest.ensures c.loop-i.i c.after-i.ensures), pass_step _ _ _ c.loop-i.i c.loop-i.invariant.1 c.from_bit-rest.ensures c.if-rest-eq1.false c.after-i.ensures)

pub returns-clause-passed : goal.returns-clause-passed
returns-clause-passed c =
    pass-end _ _ _ _ c.loop-i.i c.loop-i.invariant.1 c.requires.k_bound (omega (arith, c.class_count-count.ensures.is))
