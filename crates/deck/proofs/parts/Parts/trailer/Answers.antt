use Rattle.deck.proofs.TrailerLaws.{long}
use Rattle.deck.proofs.parts.Parts.trailer.Goals as goal

pub invariant_of-result : goal.invariant_of-result
invariant_of-result c = record { long = long _ c.args.self.now.framed }
