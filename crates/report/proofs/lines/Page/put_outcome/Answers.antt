use Rattle.report.specs.Lines.{outcome_word}
use Rattle.report.proofs.lines.Page.put_outcome.Goals as goal

pub returns-in-Confirmed : goal.returns-in-Confirmed
unfolding outcome_word
returns-in-Confirmed c = rw c.in-Confirmed.is c.put.ensures

pub returns-in-Failed : goal.returns-in-Failed
unfolding outcome_word
returns-in-Failed c = rw c.in-Failed.is c.put-in-Failed.ensures

pub returns-in-Open : goal.returns-in-Open
unfolding outcome_word
returns-in-Open c = rw c.in-Open.is c.put-in-Open.ensures
