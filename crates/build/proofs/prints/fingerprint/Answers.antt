use Prim.Native.Nat.{ℕ}
use mathlib.Core.Path.{sym, ap, ◌∙◌}
use lib.ListN.{get_or}
use native.Mathlib.Omega.{arith}
use Rattle.build.specs.Prints.{mixed}
use Rattle.build.proofs.PrintLaws.{print-none, print-skip, print-mix}
use Rattle.build.proofs.prints.fingerprint.Goals as goal
use Rattle.build.proofs.prints.fingerprint.Goals.{then-label-i-ne0, else-label-i-ne0}

pub loop-i-init : goal.loop-i-init
loop-i-init c =
    (print-none _, omega arith)

pub loop-i-preserved : goal.loop-i-preserved
loop-i-preserved c =
    let z = c.loop-i in
    let l = c.args.label.now in
    elim c.if-label-i-ne0.branch [
      | then-label-i-ne0 w ↦ (w.h-is ∙ w.mix-h.ensures.0 ∙ ap (λ (m : ℕ). mixed m z.i (get_or l z.i 0)) z.invariant.0 ∙ sym (print-mix l z.i w.if-label-i-ne0.true), omega (arith, w.h-is, w.mix-h.ensures.1))
      | else-label-i-ne0 w ↦ (w.h-is ∙ z.invariant.0 ∙ sym (print-skip l z.i w.if-label-i-ne0.false), omega (arith, w.h-is, z.invariant.1))
    ]
