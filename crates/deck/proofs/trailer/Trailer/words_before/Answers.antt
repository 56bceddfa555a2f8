use mathlib.Core.Path.{◌≡◌, sym}
use native.Mathlib.Omega.{arith}
use borrow.Author.Rules.{rules}
use Rattle.deck.proofs.TrailerLaws.{before-none, before_more}
use Rattle.deck.proofs.trailer.Trailer.words_before.Goals as goal

pub loop-q-init : goal.loop-q-init
loop-q-init c =
    (sym (before-none _), search rules)

pub loop-q-preserved : goal.loop-q-preserved
loop-q-preserved c =
    let s = c.args.self.now.bytes.now in
    (omega (arith, before_more s c.loop-q.q), search rules)

pub returns : goal.returns
returns c =
    let e : c.loop-q.q ≡ c.args.p = omega arith in
    rw e at c.loop-q.invariant.0
