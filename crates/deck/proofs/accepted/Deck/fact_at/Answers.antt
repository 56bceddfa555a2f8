use Rattle.deck.proofs.ReadLaws.{fact-place, fact-read}
use Rattle.deck.proofs.accepted.Deck.fact_at.Goals as goal

pub part_word-requires-clause-k_bound : goal.part_word-requires-clause-k_bound
part_word-requires-clause-k_bound c = rw c.parts-parts.ensures (fact-place _ c.args.self.now.accepted _ c.requires.fact_bound)

pub part_word-requires-2-clause-k_bound : goal.part_word-requires-2-clause-k_bound
part_word-requires-2-clause-k_bound c = rw c.parts-parts.ensures (fact-place _ c.args.self.now.accepted _ c.requires.fact_bound)

pub part_word-requires-3-clause-k_bound : goal.part_word-requires-3-clause-k_bound
part_word-requires-3-clause-k_bound c = rw c.parts-parts.ensures (fact-place _ c.args.self.now.accepted _ c.requires.fact_bound)

pub returns : goal.returns
returns c = rw (c.part_word.ensures, c.part_word-2.ensures, c.part_word-3.ensures, c.parts-parts.ensures) (fact-read _ c.args.self.now.accepted c.args.fact c.requires.fact_bound)
