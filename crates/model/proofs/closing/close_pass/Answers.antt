use native.Mathlib.Omega.{arith}
use mathlib.Core.Path.{refl, sym}
use lib.ListN.{drop_of_length-le}
use Rattle.std.proofs.lemmas.Result.{err_from_is_err_and}
use Rattle.deck.specs.Content.{deck_of}
use Rattle.deck.specs.Deck.{Axiom, axiom_at}
use Rattle.deck.proofs.SoundLaws.{sound}
use Rattle.eval.proofs.Walks.{list-step}
use Rattle.build.specs.Building.{deck_in, state_of}
use Rattle.model.specs.Closing.{close_axiom}
use Rattle.model.proofs.CloseLaws.{pass-in-order, axiom-stuck, axiom-fits}
use Rattle.model.proofs.EdgeSteps.{pushed-is, pushed-by, closes-on, on-start, on-done, on-stop, on-next}
use Rattle.model.proofs.RuleLaws.{rule-fits-at}
use Rattle.model.proofs.closing.close_pass.Goals as goal

pub loop-i-init : goal.loop-i-init
loop-i-init c =
    record { on = on-start refl c.requires.space; closes = c.requires }

pub close_axiom-requires : goal.close_axiom-requires
close_axiom-requires c =
    let w = c.loop-i.invariant in
    record { closes = w.closes; axiom_bound = rw w.on.built.same.plan (omega (arith, c.axiom_count-i-end.ensures.is)) }

pub returns-in_err-close_axiom : goal.returns-in_err-close_axiom
returns-in_err-close_axiom c =
    let S = c.args.b.now in
    let B = c.loop-i.b in
    let i = c.loop-i.i in
    let G = c.loop-i.invariant.on in
    let q = err_from_is_err_and c.from_residual.result c.from_residual.ensures.1 in
    let P = pushed-by G.built (λ p n. close_axiom (deck_of p.deck.bytes.now) n p.bounds.max_edges (axiom_at (deck_of p.deck.bytes.now) i) (state_of B)) c.in_err-close_axiom.ensures in
    rw q.1 (pushed-is (on-stop G (list-step (Axiom.DeclareClass 0) (deck_in S).axioms i (omega (arith, c.axiom_count-i-end.ensures.is))) P (λ x u e. axiom-stuck _ _ _ x u e)) (sym (pass-in-order _ _ _ _)))

pub loop-i-preserved : goal.loop-i-preserved
loop-i-preserved c =
    let S = c.args.b.now in
    let B = c.loop-i.b in
    let i = c.loop-i.i in
    let R = c.requires in
    let w = c.loop-i.invariant in
    let P = pushed-by w.on.built (λ p n. close_axiom (deck_of p.deck.bytes.now) n p.bounds.max_edges (axiom_at (deck_of p.deck.bytes.now) i) (state_of B)) c.in_ok-close_axiom.ensures in
    let F = rule-fits-at _ (sound _ R.accepted) i (omega (arith, c.axiom_count-i-end.ensures.is)) in
    record {
      on = on-next w.on (list-step (Axiom.DeclareClass 0) (deck_in S).axioms i (omega (arith, c.axiom_count-i-end.ensures.is))) P;
      closes = closes-on R w.closes w.on.built P (axiom-fits _ _ _ _ F _);
    }

pub returns : goal.returns
returns c =
    let S = c.args.b.now in
    pushed-is (on-done c.loop-i.invariant.on (drop_of_length-le (deck_in S).axioms {i = c.loop-i.i} (omega (arith, c.loop-i.auto, c.axiom_count-i-end.ensures.is)))) (sym (pass-in-order _ _ _ _))
