use Rattle.deck.specs.Content.{deck_of}
use Rattle.model.specs.FactIndex.{Marked}
use Rattle.model.proofs.fact_index.mark_facts.Given as goal

abbrev pub invariant-loop-i : goal.invariant-loop-i
invariant-loop-i l = Marked (deck_of l.deck.bytes.now) l.i l.mask
