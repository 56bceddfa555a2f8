use Rattle.atoms.specs.Label.{insert_bit}
use Rattle.atoms.proofs.labels.insert_bit.Goals as goal

pub returns : goal.returns
unfolding insert_bit
returns c =
    rw c.with_bit.ensures
