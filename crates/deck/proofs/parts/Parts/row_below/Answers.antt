use mathlib.Core.Path.{◌≡◌, sym}
use Prim.Native.Nat.{◌+◌}
use native.Mathlib.Omega.{arith}
use borrow.Author.Tests.{lt-ltb}
use Rattle.deck.specs.Parts.{list_word}
use Rattle.deck.specs.Rows.{word_below}
use Rattle.deck.proofs.BelowLaws.{all_none, all-next, all_of}
use Rattle.deck.proofs.TrailerLaws.{count-within}
use Rattle.deck.proofs.WordLaws.{list-word-small}
use Rattle.deck.proofs.parts.Parts.row_below.Goals as goal

-- any word is below n
pub returns-then-n-gt4294967295 : goal.returns-then-n-gt4294967295
returns-then-n-gt4294967295 c =
    let a = c.args in
    let s = a.self.now.bytes.now in
    sym (all_of (word_below s a.start a.n) a.count (λ i l. lt-ltb (list_word s (a.start + i)) a.n (omega (arith, c.if-n-gt4294967295.true, list-word-small s c.are_bytes.ensures (a.start + i)))))

pub loop-i-init : goal.loop-i-init
loop-i-init c =
    sym (all_none _)

pub overflow_add-start : goal.overflow_add-start
overflow_add-start c =
    omega (arith, count-within _ c.args.self.now.framed 6 (omega arith))

pub loop-i-preserved : goal.loop-i-preserved
loop-i-preserved c =
    let a = c.args in
    rw (all-next (word_below a.self.now.bytes.now a.start a.n) c.loop-i.i, c.loop-i.invariant, c.list_word.ensures)

pub returns : goal.returns
returns c =
    let e : c.loop-i.i ≡ c.args.count = omega arith in
    rw e at c.loop-i.invariant
