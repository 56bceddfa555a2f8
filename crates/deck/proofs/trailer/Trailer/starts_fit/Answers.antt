use mathlib.Core.Path.{◌≡◌, sym}
use native.Mathlib.Omega.{arith}
use borrow.Author.Tests.{eq-eqb, ne_eqb}
use Rattle.deck.specs.Trailer.{part_start, words_before}
use Rattle.deck.proofs.BelowLaws.{all_none, all_more, all-stops}
use Rattle.deck.proofs.trailer.Trailer.starts_fit.Goals as goal

pub loop-p-init : goal.loop-p-init
loop-p-init c =
    all_none _

pub returns-then-part_start-words_before : goal.returns-then-part_start-words_before
returns-then-part_start-words_before c =
    let s = c.args.self.now.bytes.now in
    sym (all-stops _ c.loop-p.p 7 (omega arith) (ne_eqb (part_start s c.loop-p.p) (words_before s c.loop-p.p) (λ e. c.if-part_start-words_before.true (cc))))

pub loop-p-preserved : goal.loop-p-preserved
loop-p-preserved c =
    let s = c.args.self.now.bytes.now in
    all_more _ _ c.loop-p.invariant (eq-eqb (part_start s c.loop-p.p) (words_before s c.loop-p.p) (omega arith))

pub returns : goal.returns
returns c =
    let e : c.loop-p.p ≡ 7 = omega arith in
    sym (rw e at c.loop-p.invariant)
