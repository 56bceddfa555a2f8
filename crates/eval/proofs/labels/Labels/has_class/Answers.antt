use Rattle.eval.specs.Lent.{member_in}
use Rattle.eval.proofs.labels.Labels.has_class.Goals as goal

pub returns : goal.returns
unfolding member_in
returns c =
    cc
