use mathlib.Core.Path.{◌≡◌, sym}
use native.Mathlib.Omega.{arith}
use borrow.Author.Tests.{le-leb, lt-leb}
use Rattle.deck.specs.Trailer.{part_count, limit_of}
use Rattle.deck.proofs.BelowLaws.{all_none, all_more, all-stops}
use Rattle.deck.proofs.trailer.Trailer.counts_fit.Goals as goal

pub loop-p-init : goal.loop-p-init
loop-p-init c =
    all_none _

pub returns-then-limit-part_count : goal.returns-then-limit-part_count
returns-then-limit-part_count c =
    let s = c.args.self.now.bytes.now in
    sym (all-stops _ c.loop-p.p 7 (omega arith) (lt-leb (part_count s c.loop-p.p) (limit_of c.loop-p.p) (omega arith)))

pub loop-p-preserved : goal.loop-p-preserved
loop-p-preserved c =
    let s = c.args.self.now.bytes.now in
    all_more _ _ c.loop-p.invariant (le-leb (part_count s c.loop-p.p) (limit_of c.loop-p.p) (omega arith))

pub returns : goal.returns
returns c =
    let e : c.loop-p.p ≡ 7 = omega arith in
    sym (rw e at c.loop-p.invariant)
