use Prim.Native.Nat.{ℕ}
use mathlib.Core.Path.{sym, ap, ◌∙◌}
use mathlib.Core.List.{List}
use lib.ListN.{length}
use Rattle.std.proofs.lemmas.Iterator.Consumers.{YieldsList-from_first, YieldsList-turn}
use Rattle.deck.specs.Content.{deck_of}
use Rattle.model.specs.FactWalk.{facts_from, left}
use Rattle.model.proofs.FactIndexLaws.{fact-turn}
use Rattle.model.proofs.recall.Printed.recall_facts.Goals as goal

pub recall_target-requires-clause-fact_bound : goal.recall_target-requires-clause-fact_bound
recall_target-requires-clause-fact_bound c =
    let D = deck_of c.args.self.now.plan.deck.bytes.now in
    let k = c.args.class.0 in
    let all = facts_from D k 0 in
    let t = YieldsList-turn (YieldsList-from_first (λ (i : ℕ). i) left all (ap left c.into_iter-fact-iterator.ensures.into_iter_gives ∙ c.facts_of-fact-items.ensures ∙ ap (λ (s : List ℕ). facts_from (deck_of s) k 0) c.requires.own)) c.loop-fact.yielded _ c.loop-fact.yielded_by _ c.next.new.self c.in-Some.fact c.in-Some.is c.next.ensures.steps in
    (fact-turn D k (length c.loop-fact.yielded) c.in-Some.fact t.0 (sym t.1)).1.below
