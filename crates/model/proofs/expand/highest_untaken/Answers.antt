use mathlib.Core.Path.{◌≡◌, sym, ap, ◌∙◌}
use Prim.Native.Nat.{suc, ◌-◌}
use native.Mathlib.Omega.{arith}
use Rattle.model.specs.Expand.{highest}
use Rattle.model.proofs.ExpandLaws.{highest-skip, highest-here, highest-none}
use Rattle.model.proofs.expand.highest_untaken.Goals as goal

pub returns-then-not-has_bit : goal.returns-then-not-has_bit
returns-then-not-has_bit c =
    let e : c.loop-i.i ≡ suc (c.loop-i.i - 1) = omega arith in
    sym c.loop-i.invariant ∙ highest-here _ c.loop-i.i (omega arith) (sym c.has_bit.ensures ∙ c.if-not-has_bit.true) ∙ e

pub loop-i-preserved : goal.loop-i-preserved
loop-i-preserved c =
    sym (highest-skip _ c.loop-i.i (omega arith) (sym c.has_bit.ensures ∙ c.if-not-has_bit.false)) ∙ c.loop-i.invariant

pub returns : goal.returns
returns c =
    let e : c.loop-i.i ≡ 0 = omega arith in
    sym c.loop-i.invariant ∙ ap (highest c.args.taken.now) e ∙ highest-none _
