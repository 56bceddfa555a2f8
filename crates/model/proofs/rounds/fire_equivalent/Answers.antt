use Rattle.std.proofs.Common.{refl, ◌≤◌, length, arith}
use Rattle.std.proofs.lemmas.Result.{err_from_is_err_and}
use lib.ListN.{drop_of_length-le}
use Rattle.deck.proofs.TableLaws.{list_length}
use Rattle.deck.specs.Reads.{list_of}
use Rattle.atoms.proofs.WalkLaws.{operand}
use Rattle.build.proofs.BuildingLaws.{walking-start, walking-ready, walking-next, walking-stop, walking-done}
use Rattle.model.specs.Rounds.{fire_axiom}
use Rattle.model.proofs.RoundLaws.{from-stuck}
use Rattle.model.proofs.StandLaws.{stands-none}
use Rattle.model.proofs.rounds.fire_equivalent.Goals as goal

pub loop-i-init : goal.loop-i-init
loop-i-init c =
    (walking-start _ _ c.requires.ready, stands-none _ _ _ _ _ _)

pub fire_member-requires-clause-ready : goal.fire_member-requires-clause-ready
fire_member-requires-clause-ready c =
    walking-ready c.loop-i.invariant.0 c.requires.ready

pub returns-in_err-still : goal.returns-in_err-still
unfolding fire_axiom
returns-in_err-still c =
    let l = c.args.list in
    let s = c.args.b.now.plan.deck.bytes.now in
    let z = err_from_is_err_and c.from_residual.result c.from_residual.ensures.1 in
    let q = operand (list_of s l) c.loop-i.i (omega (arith, list_length s l.start l.count)) c.member.ensures.is in
    let G = c.loop-i.invariant.0 in
    rw z.1 (walking-stop G q c.in_err-still.ensures.holds (λ x m w. from-stuck _ _ _ _ m w _ x) refl)

pub loop-i-preserved : goal.loop-i-preserved
loop-i-preserved c =
    let l = c.args.list in
    let s = c.args.b.now.plan.deck.bytes.now in
    let q = operand (list_of s l) c.loop-i.i (omega (arith, list_length s l.start l.count)) c.member.ensures.is in
    let G = c.loop-i.invariant.0 in
    let X = c.in_ok-still.ensures in
    (walking-next G q X.holds refl, rw G.same.plan at X.stands)

pub returns : goal.returns
unfolding fire_axiom
returns c =
    let l = c.args.list in
    let s = c.args.b.now.plan.deck.bytes.now in
    let h : length (list_of s l) ≤ c.loop-i.i = omega (arith, c.loop-i.auto, list_length s l.start l.count) in
    walking-done c.loop-i.invariant.0 (drop_of_length-le (list_of s l) h)
