use mathlib.Core.Path.{refl}
use Rattle.std.proofs.lemmas.Result.{err_from_is_err_and}
use Rattle.deck.specs.Content.{deck_of}
use Rattle.deck.proofs.SoundLaws.{sound}
use Rattle.build.specs.Building.{state_of}
use Rattle.model.specs.Closing.{close_pass}
use Rattle.model.proofs.CloseLaws.{pass_fits}
use Rattle.model.proofs.EdgeSteps.{pushed-by, closes-on}
use Rattle.model.proofs.Passes.{turning-start, turning-trip, turning-still, turning-more}
use Rattle.model.proofs.RuleLaws.{rule-fits-in}
use Rattle.model.proofs.closing.close_chains_and_transitivity.Goals as goal

pub loop-init : goal.loop-init
loop-init c =
    record { turning = turning-start c.requires.space; closes = c.requires }

pub returns-in_err-close_pass : goal.returns-in_err-close_pass
returns-in_err-close_pass c =
    let q = err_from_is_err_and c.from_residual.result c.from_residual.ensures.1 in
    rw q.1 (turning-trip c.loop.invariant.turning c.in_err-close_pass.ensures refl)

pub returns-then-b-before : goal.returns-then-b-before
returns-then-b-before c =
    turning-still c.loop.invariant.turning c.in_ok-close_pass.ensures c.if-b-before.true

pub loop-preserved : goal.loop-preserved
loop-preserved c =
    let R = c.requires in
    let w = c.loop.invariant in
    let B = c.loop.b in
    let P = pushed-by w.turning.pushed (λ p n. close_pass (deck_of p.deck.bytes.now) n p.bounds.max_edges (state_of B)) c.in_ok-close_pass.ensures in
    record {
      turning = turning-more w.turning c.in_ok-close_pass.ensures c.if-b-before.false;
      closes = closes-on R w.closes w.turning.pushed P (pass_fits _ _ _ (rule-fits-in _ (sound _ R.accepted)) _);
    }
