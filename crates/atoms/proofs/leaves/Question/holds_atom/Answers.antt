use mathlib.Core.Path.{sym, ◌∙◌}
use native.Mathlib.Omega.{arith}
use borrow.Author.Tests.{le-ltb}
use Prim.Native.Nat.{◌/◌}
use lib.ListN.{get_or-eq_default}
use Rattle.atoms.proofs.FloorLaws.{no-class}
use Rattle.atoms.proofs.leaves.Question.holds_atom.Goals as goal

pub returns-else-class-label : goal.returns-else-class-label
returns-else-class-label c =
    let f = c.if-class-label.false in
    le-ltb _ _ f ∙ rw c.in-Held.is (sym (no-class _ c.args.class.0 (get_or-eq_default c.in-Held.label.now 0 {n = c.args.class.0 / 64} (omega (arith, f)))))
