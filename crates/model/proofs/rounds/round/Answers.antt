use Rattle.std.proofs.Common.{refl, arith}
use Rattle.std.proofs.lemmas.Result.{err_from_is_err_and}
use Rattle.eval.proofs.Walks.{range-step, range-end}
use Rattle.build.proofs.BuildingLaws.{holds-is, walking-start, walking-ready, walking-next, walking-stop, walking-done}
use Rattle.model.proofs.RoundLaws.{visit-stuck, round-walk}
use Rattle.model.proofs.rounds.round.Goals as goal

pub loop-i-init : goal.loop-i-init
loop-i-init c =
    walking-start _ _ c.requires.ready

pub visit-requires-clause-ready : goal.visit-requires-clause-ready
visit-requires-clause-ready c =
    walking-ready c.loop-i.invariant c.requires.ready

pub returns-in_err-visit : goal.returns-in_err-visit
returns-in_err-visit c =
    let z = err_from_is_err_and c.from_residual.result c.from_residual.ensures.1 in
    rw z.1 (holds-is (walking-stop c.loop-i.invariant (range-step _ _ (omega arith)) c.in_err-visit.ensures (λ e m w. visit-stuck _ _ _ e m w) refl) (round-walk c.args.b.now))

pub loop-i-preserved : goal.loop-i-preserved
loop-i-preserved c =
    walking-next c.loop-i.invariant (range-step _ _ (omega arith)) c.in_ok-visit.ensures refl

pub returns : goal.returns
returns c =
    holds-is (walking-done c.loop-i.invariant (range-end _ _ (omega (arith, c.loop-i.auto)))) (round-walk c.args.b.now)
