use Rattle.atoms.specs.Label.{label_of}
use Rattle.atoms.proofs.subsumers.load_row.Goals as goal

pub returns : goal.returns
unfolding label_of
returns c =
    rw (c.clear.ensures, c.requires.label_len) at c.insert_subsumers.ensures
