use Rattle.deck.proofs.AcceptedLaws.{framed}
use Rattle.deck.proofs.accepted.Deck.parts.Goals as goal

pub invariant_of-result : goal.invariant_of-result
invariant_of-result c = record { framed = framed _ c.args.self.now.accepted }
