use Rattle.deck.proofs.TrailerLaws.{width_small}
use mathlib.Core.Path.{refl}
use Rattle.deck.proofs.trailer.width.Goals as goal

pub returns : goal.returns
returns c =
    (refl, width_small c.args.p)
