use native.Mathlib.Omega.{arith}
use Prim.Native.Nat.{ℕ}
use mathlib.Core.Path.{refl, sym, ap, ◌∙◌}
use lib.ListN.{length, drop_of_length-le}
use Rattle.std.proofs.lemmas.List.{length_push}
use Rattle.std.proofs.lemmas.Result.{err_from_is_err_and}
use Rattle.std.proofs.lemmas.Iterator.Consumers.{YieldsList-from_first, YieldsList-turn, YieldsList-end}
use mathlib.Core.List.{List}
use Rattle.deck.specs.Content.{deck_of}
use Rattle.build.specs.Building.{deck_in}
use Rattle.build.proofs.BuildingLaws.{holds-is, walking-start, walking-ready, walking-next, walking-stop, walking-done}
use Rattle.build.proofs.TailLaws.{tail-after}
use Rattle.model.specs.FactWalk.{facts_from, left}
use Rattle.model.proofs.AimLaws.{recalls-on}
use Rattle.model.proofs.ExpandLaws.{fact-stuck, fact-own}
use Rattle.model.proofs.FactIndexLaws.{fact-turn, facts-walk}
use Rattle.model.proofs.expand.work_facts.Goals as goal

pub loop-fact-init : goal.loop-fact-init
loop-fact-init c =
    (walking-start _ _ c.requires.ready, c.requires.recalled)

pub work_fact-requires-clause-ready : goal.work_fact-requires-clause-ready
work_fact-requires-clause-ready c =
    walking-ready c.loop-fact.invariant.0 c.requires.ready

pub work_fact-requires-clause-fact_bound : goal.work_fact-requires-clause-fact_bound
work_fact-requires-clause-fact_bound c =
    let D = deck_in c.args.b.now in
    let all = facts_from D c.args.k.0 0 in
    let t = YieldsList-turn (YieldsList-from_first (λ (i : ℕ). i) left all (ap left c.into_iter-fact-iterator.ensures.into_iter_gives ∙ c.facts_of-fact-items.ensures ∙ ap (λ (s : List ℕ). facts_from (deck_of s) c.args.k.0 0) c.requires.own)) c.loop-fact.yielded _ c.loop-fact.yielded_by _ c.next.new.self c.in-Some.fact c.in-Some.is c.next.ensures.steps in
    let F = fact-turn D c.args.k.0 (length c.loop-fact.yielded) c.in-Some.fact t.0 (sym t.1) in
    rw c.loop-fact.invariant.0.same.plan F.1.below

pub work_fact-requires-clause-tail : goal.work_fact-requires-clause-tail
work_fact-requires-clause-tail c =
    tail-after c.requires.tail c.loop-fact.invariant.0.on.built

pub loop-fact-preserved : goal.loop-fact-preserved
loop-fact-preserved c =
    let W = c.loop-fact.invariant.0 in
    let D = deck_in c.args.b.now in
    let k = c.args.k.0 in
    let all = facts_from D k 0 in
    let t = YieldsList-turn (YieldsList-from_first (λ (i : ℕ). i) left all (ap left c.into_iter-fact-iterator.ensures.into_iter_gives ∙ c.facts_of-fact-items.ensures ∙ ap (λ (s : List ℕ). facts_from (deck_of s) c.args.k.0 0) c.requires.own)) c.loop-fact.yielded _ c.loop-fact.yielded_by _ c.next.new.self c.in-Some.fact c.in-Some.is c.next.ensures.steps in
    let F = fact-turn D k (length c.loop-fact.yielded) c.in-Some.fact t.0 (sym t.1) in
    let X = c.in_ok-work_fact.ensures in
    rw (length_push c.loop-fact.yielded c.in-Some.fact) (walking-next W F.0 (holds-is X.holds (sym (fact-own _ _ _ _ k _ _ (rw W.same.plan F.1.own)))) refl, recalls-on W.same c.work_fact.new.b X.kept)

pub returns-in_err-work_fact-clause-holds : goal.returns-in_err-work_fact-clause-holds
returns-in_err-work_fact-clause-holds c =
    let W = c.loop-fact.invariant.0 in
    let D = deck_in c.args.b.now in
    let k = c.args.k.0 in
    let all = facts_from D k 0 in
    let t = YieldsList-turn (YieldsList-from_first (λ (i : ℕ). i) left all (ap left c.into_iter-fact-iterator.ensures.into_iter_gives ∙ c.facts_of-fact-items.ensures ∙ ap (λ (s : List ℕ). facts_from (deck_of s) c.args.k.0 0) c.requires.own)) c.loop-fact.yielded _ c.loop-fact.yielded_by _ c.next.new.self c.in-Some.fact c.in-Some.is c.next.ensures.steps in
    let F = fact-turn D k (length c.loop-fact.yielded) c.in-Some.fact t.0 (sym t.1) in
    let z = err_from_is_err_and c.from_residual.result c.from_residual.ensures.1 in
    rw z.1 (holds-is (walking-stop W F.0 (holds-is c.in_err-work_fact.ensures.holds (sym (fact-own _ _ _ _ k _ _ (rw W.same.plan F.1.own)))) (λ i u w. fact-stuck _ _ _ _ k _ u w) refl) (facts-walk c.args.b.now.plan _ _ _))

pub returns-clause-holds : goal.returns-clause-holds
returns-clause-holds c =
    let all = facts_from (deck_in c.args.b.now) c.args.k.0 0 in
    let t = YieldsList-end (YieldsList-from_first (λ (i : ℕ). i) left all (ap left c.into_iter-fact-iterator.ensures.into_iter_gives ∙ c.facts_of-fact-items.ensures ∙ ap (λ (s : List ℕ). facts_from (deck_of s) c.args.k.0 0) c.requires.own)) c.loop-fact.yielded _ c.loop-fact.yielded_by _ c.next.new.self c.in-None.is c.next.ensures.steps in
    holds-is (walking-done c.loop-fact.invariant.0 (drop_of_length-le all (omega (arith, t.1)))) (facts-walk c.args.b.now.plan _ _ _)
