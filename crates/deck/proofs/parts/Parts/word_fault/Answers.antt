use mathlib.Core.Path.{◌≡◌, ap, sym, ◌∙◌}
use Prim.Native.Nat.{ℕ}
use native.Mathlib.Omega.{arith}
use Rattle.deck.specs.declared.refusal.Refusal.TheVariants.{OutOfRange}
use Rattle.std.specs.Prelude.{Err}
use Rattle.deck.proofs.FaultLaws.{words-none, words_more, words-stop}
use Rattle.deck.proofs.TrailerLaws.{count-within}
use Rattle.deck.proofs.parts.Parts.word_fault.Goals as goal

pub loop-i-init : goal.loop-i-init
loop-i-init c =
    words-none _ _ _

pub overflow_add-at : goal.overflow_add-at
overflow_add-at c =
    omega (arith, count-within _ c.args.self.now.framed 6 (omega arith))

pub returns-then-list_word-n : goal.returns-then-list_word-n
returns-then-list_word-n c =
    let a = c.args in
    ap (λ (w : ℕ). Err (OutOfRange (record { 0 = w }))) c.word_index.ensures
    ∙ sym (words-stop a.self.now.bytes.now a.start a.n c.loop-i.i a.count (omega arith) c.loop-i.invariant (omega (arith, c.list_word.ensures, c.if-list_word-n.true)))

pub loop-i-preserved : goal.loop-i-preserved
loop-i-preserved c =
    let a = c.args in
    words_more a.self.now.bytes.now a.start a.n c.loop-i.i c.loop-i.invariant (omega (arith, c.list_word.ensures, c.if-list_word-n.false))

pub returns : goal.returns
returns c =
    let e : c.loop-i.i ≡ c.args.count = omega arith in
    sym (rw e at c.loop-i.invariant)
