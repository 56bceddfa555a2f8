use Rattle.deck.proofs.ReadLaws.{role-place, sub-roles-read}
use Rattle.deck.proofs.accepted.Deck.sub_roles.Goals as goal

pub span-requires-clause-k_bound : goal.span-requires-clause-k_bound
span-requires-clause-k_bound c = role-place _ c.args.self.now.accepted _ c.requires.role_bound

pub returns : goal.returns
returns c = rw c.span.ensures (sub-roles-read _ c.args.self.now.accepted c.args.role.0 c.requires.role_bound)
