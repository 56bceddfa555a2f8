use mathlib.Core.Path.{sym}
use Prim.Native.Nat.{◌+◌}
use native.Mathlib.Omega.{arith}
use borrow.Author.Tests.{ne_eqb}
use Rattle.deck.specs.Parts.{list_word}
use Rattle.deck.specs.Rows.{word_is}
use Rattle.deck.proofs.BelowLaws.{any-nowhere}
use Rattle.deck.proofs.WordLaws.{list-word-small}
use Rattle.deck.proofs.parts.Parts.find.Goals as goal

-- no word is x
pub returns-then-x-gt4294967295 : goal.returns-then-x-gt4294967295
returns-then-x-gt4294967295 c =
    let a = c.args in
    let s = a.self.now.bytes.now in
    sym (any-nowhere (word_is s a.start a.x) a.count (λ i l. ne_eqb (list_word s (a.start + i)) a.x (λ e. omega (arith, c.if-x-gt4294967295.true, e, list-word-small s c.are_bytes.ensures (a.start + i)))))
