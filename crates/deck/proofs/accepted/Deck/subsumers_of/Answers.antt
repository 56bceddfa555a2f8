use Rattle.deck.proofs.ReadLaws.{class-place, subsumers-read}
use Rattle.deck.proofs.accepted.Deck.subsumers_of.Goals as goal

pub span-requires-clause-k_bound : goal.span-requires-clause-k_bound
span-requires-clause-k_bound c = class-place _ c.args.self.now.accepted _ c.requires.class_bound

pub returns : goal.returns
returns c = rw c.span.ensures (subsumers-read _ c.args.self.now.accepted c.args.class.0 c.requires.class_bound)
