use native.Mathlib.Omega.{arith}
use Prim.Native.Nat.{suc}
use mathlib.Core.Path.{◌≡◌, ap, ◌∙◌}
use lib.ListN.{length}
use Rattle.std.proofs.Common.{rules}
use Rattle.deck.specs.Content.{deck_of}
use Rattle.model.specs.FactWalk.{left, facts_at}
use Rattle.model.proofs.FactIndexLaws.{after-fact}
use Rattle.model.proofs.fact_index.FactsOfIterator.next.Goals as goal

pub entry-self-requires : goal.entry-self-requires
entry-self-requires c =
    let s = c.args.self.now in
    let F = s.own _ c.in_ok-fact.was in
    omega (arith, F.below, c.class_count-classes.ensures.is, s.index.room)

pub invariant_of-self : goal.invariant_of-self
invariant_of-self c =
    let s = c.args.self.now in
    record { own = (after-fact (deck_of s.index.deck.bytes.now) s.class.0 s.index.indexed _ (s.own _ c.in_ok-fact.was) _ c.class_count-classes.ensures.is _ c.entry-self.ensures).1 }

pub returns-clause-steps : goal.returns-clause-steps
returns-clause-steps c =
    let s = c.args.self.now in
    let D = deck_of s.index.deck.bytes.now in
    ap (facts_at D s.class.0) c.in_ok-fact.was ∙ (after-fact D s.class.0 s.index.indexed _ (s.own _ c.in_ok-fact.was) _ c.class_count-classes.ensures.is _ c.entry-self.ensures).0

pub returns-clause-goes : goal.returns-clause-goes
returns-clause-goes c =
    let s = c.args.self.now in
    let D = deck_of s.index.deck.bytes.now in
    let h : length (left s) ≡ suc (length (facts_at D s.class.0 c.entry-self.result)) = ap length (ap (facts_at D s.class.0) c.in_ok-fact.was ∙ (after-fact D s.class.0 s.index.indexed _ (s.own _ c.in_ok-fact.was) _ c.class_count-classes.ensures.is _ c.entry-self.ensures).0) in
    search rules
