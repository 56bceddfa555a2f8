use Rattle.deck.proofs.ReadLaws.{role-place, range-read}
use Rattle.deck.proofs.accepted.Deck.range_of.Goals as goal

pub span-requires-clause-k_bound : goal.span-requires-clause-k_bound
span-requires-clause-k_bound c = role-place _ c.args.self.now.accepted _ c.requires.role_bound

pub returns : goal.returns
returns c = rw c.span.ensures (range-read _ c.args.self.now.accepted c.args.role.0 c.requires.role_bound)
