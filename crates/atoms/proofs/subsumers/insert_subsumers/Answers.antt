use Rattle.atoms.proofs.subsumers.insert_subsumers.Goals as goal

pub returns : goal.returns
returns c =
    rw c.subsumers_of.ensures.is at c.insert_row.ensures
