use Rattle.deck.proofs.ReadLaws.{concept-place, concept-known, concept-read}
use Rattle.deck.proofs.accepted.Deck.concept_at.Goals as goal

pub part_word-requires-clause-k_bound : goal.part_word-requires-clause-k_bound
part_word-requires-clause-k_bound c = rw c.parts-parts.ensures (concept-place _ c.args.self.now.accepted _ c.requires.concept_bound)

pub part_word-requires-2-clause-k_bound : goal.part_word-requires-2-clause-k_bound
part_word-requires-2-clause-k_bound c = rw c.parts-parts.ensures (concept-place _ c.args.self.now.accepted _ c.requires.concept_bound)

pub part_word-requires-3-clause-k_bound : goal.part_word-requires-3-clause-k_bound
part_word-requires-3-clause-k_bound c = rw c.parts-parts.ensures (concept-place _ c.args.self.now.accepted _ c.requires.concept_bound)

pub part_word-requires-4-clause-k_bound : goal.part_word-requires-4-clause-k_bound
part_word-requires-4-clause-k_bound c = rw c.parts-parts.ensures (concept-place _ c.args.self.now.accepted _ c.requires.concept_bound)

pub expr-requires : goal.expr-requires
expr-requires c = rw (c.part_word.ensures, c.parts-parts.ensures) (concept-known _ c.args.self.now.accepted c.args.concept.0 c.requires.concept_bound)

pub returns : goal.returns
returns c = rw (c.expr.ensures, c.part_word.ensures, c.part_word-2.ensures, c.part_word-3.ensures, c.part_word-4.ensures, c.parts-parts.ensures) (concept-read _ c.args.self.now.accepted c.args.concept.0 c.requires.concept_bound)
