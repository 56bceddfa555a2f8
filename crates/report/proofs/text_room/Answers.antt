use Rattle.report.specs.Text.{text_room}
use Rattle.report.proofs.text_room.Goals as goal

pub returns-clause-value : goal.returns-clause-value
unfolding text_room
returns-clause-value c = c.blank.ensures.value
