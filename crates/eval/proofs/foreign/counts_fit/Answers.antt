use Prim.Native.Nat.{◌*◌}
use borrow.Author.Tests.{le-leb, lt-leb}
use lib.ListN.{length}
use Rattle.deck.specs.Content.{deck_of}
use Rattle.eval.specs.Lent.{label_width}
use Rattle.eval.specs.Foreign.{counts_fit}
use Rattle.eval.proofs.foreign.counts_fit.Goals as goal

pub returns-then-elements-gt65536 : goal.returns-then-elements-gt65536
unfolding counts_fit
returns-then-elements-gt65536 c =
    simp (lt-leb c.args.shape.elements 65536 c.if-elements-gt65536.true)

pub returns-then-elements-label_width : goal.returns-then-elements-label_width
unfolding counts_fit
returns-then-elements-label_width c =
    let a = c.args in
    let n = a.shape.elements in
    simp (le-leb n 65536 c.if-elements-gt65536.false, lt-leb (n * label_width (deck_of a.deck.now.bytes.now)) (length a.labels.now) (rw c.label_width.ensures.0 at c.if-elements-label_width.true))

pub returns : goal.returns
unfolding counts_fit
returns c =
    let a = c.args in
    let n = a.shape.elements in
    simp (le-leb n 65536 c.if-elements-gt65536.false, le-leb (n * label_width (deck_of a.deck.now.bytes.now)) (length a.labels.now) (rw c.label_width.ensures.0 at c.if-elements-label_width.false))
