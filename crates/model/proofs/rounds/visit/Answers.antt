use Rattle.std.proofs.Common.{refl, arith}
use Rattle.std.proofs.lemmas.Result.{err_from_is_err_and}
use lib.ListN.{drop_of_length-le}
use Rattle.deck.proofs.SoundLaws.{limited}
use Rattle.build.specs.Building.{deck_in}
use Rattle.build.proofs.BuildingLaws.{walking-start, walking-ready, walking-next, walking-stop, walking-done}
use Rattle.model.proofs.RoundLaws.{axiom-stuck, visit-in-order}
use Rattle.model.proofs.TriggerLaws.{steps, chain-within, axiom-step, pass-over}
use Rattle.model.proofs.rounds.visit.Goals as goal

pub loop-axiom-init : goal.loop-axiom-init
loop-axiom-init c =
    (omega arith, walking-start _ _ c.requires.ready)

pub label_of-requires-clause-ready : goal.label_of-requires-clause-ready
label_of-requires-clause-ready c =
    walking-ready c.loop-axiom.invariant.1 c.requires.ready

pub next_axiom-requires-clause-steps : goal.next_axiom-requires-clause-steps
next_axiom-requires-clause-steps c =
    steps c.requires.triggers _ (rw c.loop-axiom.invariant.1.same.plan at c.label_of.ensures.wide)

pub next_axiom-requires-clause-few : goal.next_axiom-requires-clause-few
next_axiom-requires-clause-few c =
    omega (arith, c.requires.triggers.wide, (limited _ c.requires.ready.accepted).axioms)

pub fire_axiom-requires-clause-ready : goal.fire_axiom-requires-clause-ready
fire_axiom-requires-clause-ready c =
    walking-ready c.loop-axiom.invariant.1 c.requires.ready

pub returns-in_err-fire_axiom : goal.returns-in_err-fire_axiom
returns-in_err-fire_axiom c =
    let G = c.loop-axiom.invariant in
    let N = c.in-Some.ensures.some in
    let W = pass-over c.requires.triggers c.args.e.0 (rw G.1.same.plan at c.label_of.ensures.is) N.1 G.0 G.1 in
    let z = err_from_is_err_and c.from_residual.result c.from_residual.ensures.1 in
    let q = axiom-step G.1.same c.in-Some.axiom (omega (arith, N.0, c.requires.triggers.wide)) in
    rw (z.1, visit-in-order) (walking-stop W q c.in_err-fire_axiom.ensures (λ x m w. axiom-stuck _ _ _ _ m w x) refl)

pub overflow_add-first : goal.overflow_add-first
overflow_add-first c =
    omega (arith, c.in-Some.ensures.some.0, c.requires.triggers.wide, (limited _ c.requires.ready.accepted).axioms)

pub loop-axiom-smaller : goal.loop-axiom-smaller
loop-axiom-smaller c =
    let N = c.in-Some.ensures.some in
    omega (arith, N.0, chain-within c.requires.triggers _ N.1 c.loop-axiom.invariant.0)

pub loop-axiom-preserved : goal.loop-axiom-preserved
loop-axiom-preserved c =
    let G = c.loop-axiom.invariant in
    let N = c.in-Some.ensures.some in
    let W = pass-over c.requires.triggers c.args.e.0 (rw G.1.same.plan at c.label_of.ensures.is) N.1 G.0 G.1 in
    let q = axiom-step G.1.same c.in-Some.axiom (omega (arith, N.0, c.requires.triggers.wide)) in
    (omega (arith, N.0), walking-next W q c.in_ok-fire_axiom.ensures refl)

pub returns : goal.returns
returns c =
    let G = c.loop-axiom.invariant in
    let W = pass-over c.requires.triggers c.args.e.0 (rw G.1.same.plan at c.label_of.ensures.is) c.in_default.ensures.none G.0 G.1 in
    rw visit-in-order (walking-done W (drop_of_length-le (deck_in c.args.b.now).axioms (omega (arith, c.requires.triggers.wide))))
