use Rattle.deck.specs.Content.{deck_of}
use Rattle.model.specs.FactIndex.{Indexed}
use Rattle.model.proofs.fact_index.index_facts.Given as goal

abbrev pub invariant-loop-i : goal.invariant-loop-i
invariant-loop-i l = Indexed (deck_of l.deck.bytes.now) l.i l.index
