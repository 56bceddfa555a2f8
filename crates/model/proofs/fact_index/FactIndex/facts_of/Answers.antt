use native.Mathlib.Omega.{arith}
use mathlib.Core.Path.{sym, ◌∙◌}
use Rattle.deck.specs.Content.{deck_of}
use Rattle.model.proofs.FactIndexLaws.{comes}
use Rattle.model.proofs.fact_index.FactIndex.facts_of.Goals as goal

pub invariant_of-result : goal.invariant_of-result
invariant_of-result c =
    let s = c.args.self.now in
    record { own = (comes (deck_of s.deck.bytes.now) c.args.class.0 0 (omega arith) _ (sym c.entry.ensures ∙ s.indexed.heads _ c.requires.class_bound)).1 }

pub returns : goal.returns
returns c =
    let s = c.args.self.now in
    (comes (deck_of s.deck.bytes.now) c.args.class.0 0 (omega arith) _ (sym c.entry.ensures ∙ s.indexed.heads _ c.requires.class_bound)).0
