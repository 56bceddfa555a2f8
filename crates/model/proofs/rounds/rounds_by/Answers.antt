use Rattle.std.proofs.Common.{◌≡◌, ◌+◌, ◌-◌, refl, arith}
use Rattle.std.proofs.lemmas.Result.{err_from_is_err_and}
use Rattle.model.proofs.RoundLaws.{rounding-start, rounding-ready, rounding-trip, rounding-still, rounding-more, rounding-last}
use Rattle.model.proofs.rounds.rounds_by.Goals as goal

pub loop-init : goal.loop-init
loop-init c =
    rounding-start c.requires.ready (omega (arith, c.max-end.ensures))

pub round-requires-clause-ready : goal.round-requires-clause-ready
round-requires-clause-ready c =
    rounding-ready c.loop.invariant c.requires.ready

pub returns-in_err-round : goal.returns-in_err-round
returns-in_err-round c =
    let z = err_from_is_err_and c.from_residual.result c.from_residual.ensures.1 in
    rw z.1 (rounding-trip c.loop.invariant c.in_err-round.ensures (omega (arith, c.loop-test.true)) refl)

pub returns-then-b-count : goal.returns-then-b-count
returns-then-b-count c =
    rounding-still c.loop.invariant c.in_ok-round.ensures (omega (arith, c.loop-test.true)) c.if-b-count.true

pub loop-preserved : goal.loop-preserved
loop-preserved c =
    let n = c.max-end.result in
    let e : n - (c.loop.counter + 1) ≡ n - c.loop.counter - 1 = omega arith in
    rw e (rounding-more c.loop.invariant c.in_ok-round.ensures (omega (arith, c.loop-test.true)) refl c.if-b-count.false)

pub returns : goal.returns
returns c =
    let n = c.note.ensures in
    rounding-last c.loop.invariant c.requires.ready (omega (arith, c.loop-test.false)) n.same (rw c.bound_tripped.ensures at n.log) n.tally n.rest
