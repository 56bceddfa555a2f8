use native.Mathlib.Omega.{arith}
use Prim.Native.Nat.{◌-◌}
use mathlib.Core.Path.{◌≡◌, refl, sym}
use Rattle.std.proofs.lemmas.Result.{err_from_is_err_and}
use Rattle.deck.specs.Deck.{class_count}
use Rattle.eval.specs.Lists.{range}
use Rattle.eval.proofs.Walks.{range-step, range-end}
use Rattle.build.specs.Building.{deck_in}
use Rattle.build.proofs.BuildingLaws.{holds-is, walking-start, walking-ready, walking-next, walking-stop, walking-done}
use Rattle.build.proofs.TailLaws.{tail-after}
use Rattle.model.specs.Expand.{work_classes}
use Rattle.model.proofs.AimLaws.{recalls-on}
use Rattle.model.proofs.ExpandLaws.{class-stuck, class-yes}
use Rattle.model.proofs.PassLaws.{classes_of, passed_over}
use Rattle.model.proofs.expand.work_classes.Goals as goal

pub loop-k-init : goal.loop-k-init
loop-k-init c =
    let n = class_count (deck_in c.args.b.now) in
    let z : n - 0 ≡ n = omega arith in
    (omega arith, rw z (walking-start (classes_of c.args.e.0) (range 0 n) c.requires.ready), c.requires.recalled)

pub next_class-requires-clause-ready : goal.next_class-requires-clause-ready
next_class-requires-clause-ready c =
    walking-ready c.loop-k.invariant.1 c.requires.ready

pub work_facts-requires-clause-ready : goal.work_facts-requires-clause-ready
work_facts-requires-clause-ready c =
    walking-ready c.loop-k.invariant.1 c.requires.ready

pub work_facts-requires-clause-tail : goal.work_facts-requires-clause-tail
work_facts-requires-clause-tail c =
    tail-after c.requires.tail c.loop-k.invariant.1.on.built

pub returns-in_err-work_facts-clause-holds : goal.returns-in_err-work_facts-clause-holds
unfolding work_classes
returns-in_err-work_facts-clause-holds c =
    let W = c.loop-k.invariant.1 in
    let k = c.in-Some.k.0 in
    let m = rw W.same.plan at c.in-Some.ensures.met in
    let V = passed_over c.args.e.0 W (rw c.requires.own at c.args.facts.now.marked) (rw W.same.plan at c.in-Some.ensures.passed) in
    let z = err_from_is_err_and c.from_residual.result c.from_residual.ensures.1 in
    rw z.1 (walking-stop V (range-step k _ m.0) (holds-is c.in_err-work_facts.ensures.holds (sym (class-yes _ _ _ _ k _ c.in-Some.ensures.met.1))) (λ j u w. class-stuck _ _ _ _ j u w) refl)

pub loop-k-preserved : goal.loop-k-preserved
loop-k-preserved c =
    let W = c.loop-k.invariant.1 in
    let k = c.in-Some.k.0 in
    let m = rw W.same.plan at c.in-Some.ensures.met in
    let V = passed_over c.args.e.0 W (rw c.requires.own at c.args.facts.now.marked) (rw W.same.plan at c.in-Some.ensures.passed) in
    let X = c.in_ok-work_facts.ensures in
    (omega (arith, m.0), walking-next V (range-step k _ m.0) (holds-is X.holds (sym (class-yes _ _ _ _ k _ c.in-Some.ensures.met.1))) refl, recalls-on W.same c.work_facts.new.b X.kept)

pub returns-clause-holds : goal.returns-clause-holds
unfolding work_classes
returns-clause-holds c =
    let W = c.loop-k.invariant.1 in
    let n = class_count (deck_in c.args.b.now) in
    let V = passed_over c.args.e.0 W (rw c.requires.own at c.args.facts.now.marked) (rw W.same.plan at c.in_default.ensures.passed) in
    walking-done V (range-end n n (omega arith))
