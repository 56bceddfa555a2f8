use Rattle.atoms.specs.Label.{label_has}
use Rattle.atoms.proofs.labels.has_bit.Goals as goal

pub returns : goal.returns
unfolding label_has
returns c =
    cc
