use native.Mathlib.Omega.{arith}
use Prim.Native.Nat.{◌+◌}
use borrow.Author.Tests.{le-leb, lt-leb}
use Rattle.deck.specs.Trailer.{part_count}
use Rattle.deck.proofs.parts.Parts.row_shape.Goals as goal

pub returns-then-from-many : goal.returns-then-from-many
returns-then-from-many c =
    let a = c.args in
    simp (le-leb (a.start + a.count) (part_count a.self.now.bytes.now 6) (omega arith)) c.row_below.ensures

pub returns-else-from-many : goal.returns-else-from-many
returns-else-from-many c =
    let a = c.args in
    simp (lt-leb (a.start + a.count) (part_count a.self.now.bytes.now 6) (omega arith))
