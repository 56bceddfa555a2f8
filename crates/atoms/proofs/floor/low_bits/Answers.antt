use Rattle.atoms.proofs.BitLaws.{shifted}
use Rattle.atoms.proofs.floor.low_bits.Goals as goal

pub returns : goal.returns
returns c =
    rw (shifted c.args.b c.requires)
