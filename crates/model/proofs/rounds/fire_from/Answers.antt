use Rattle.std.proofs.Common.{refl, ◌≤◌, length, arith}
use Rattle.std.proofs.lemmas.Result.{err_from_is_err_and}
use lib.ListN.{drop_of_length-le}
use Rattle.deck.proofs.TableLaws.{list_length}
use Rattle.deck.specs.Reads.{list_of}
use Rattle.atoms.proofs.WalkLaws.{operand}
use Rattle.build.proofs.BuildingLaws.{walking-start, walking-ready, walking-next, walking-stop, walking-done}
use Rattle.model.specs.Rounds.{fire_from}
use Rattle.model.proofs.RoundLaws.{pair_stuck}
use Rattle.model.proofs.rounds.fire_from.Goals as goal

pub loop-i-init : goal.loop-i-init
loop-i-init c =
    walking-start _ _ c.requires.ready

pub fire_pair-requires-clause-ready : goal.fire_pair-requires-clause-ready
fire_pair-requires-clause-ready c =
    walking-ready c.loop-i.invariant c.requires.ready

pub returns-in_err-fire_pair : goal.returns-in_err-fire_pair
unfolding fire_from
returns-in_err-fire_pair c =
    let l = c.args.list in
    let s = c.args.b.now.plan.deck.bytes.now in
    let z = err_from_is_err_and c.from_residual.result c.from_residual.ensures.1 in
    let q = operand (list_of s l) c.loop-i.i (omega (arith, list_length s l.start l.count)) c.member.ensures.is in
    rw z.1 (walking-stop c.loop-i.invariant q c.in_err-fire_pair.ensures (λ x m w. pair_stuck _ _ _ _ m w _ x) refl)

pub loop-i-preserved : goal.loop-i-preserved
loop-i-preserved c =
    let l = c.args.list in
    let s = c.args.b.now.plan.deck.bytes.now in
    let q = operand (list_of s l) c.loop-i.i (omega (arith, list_length s l.start l.count)) c.member.ensures.is in
    walking-next c.loop-i.invariant q c.in_ok-fire_pair.ensures refl

pub returns : goal.returns
unfolding fire_from
returns c =
    let l = c.args.list in
    let s = c.args.b.now.plan.deck.bytes.now in
    let h : length (list_of s l) ≤ c.loop-i.i = omega (arith, c.loop-i.auto, list_length s l.start l.count) in
    walking-done c.loop-i.invariant (drop_of_length-le (list_of s l) h)
