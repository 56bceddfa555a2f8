use Rattle.atoms.specs.Target.{holds_range}
use Rattle.atoms.proofs.target_label.holds_range.Goals as goal

pub returns : goal.returns
unfolding holds_range
returns c =
    rw (c.subsumers_of.ensures.is, c.range_of.ensures.is) at c.holds_all.ensures
