use Rattle.deck.specs.Content.{deck_of}
use Rattle.model.specs.Triggers.{Triggers}
use Rattle.model.proofs.TriggerLaws.{IdleFrom}
use Rattle.model.proofs.triggers.read_triggers.Given as goal

abbrev pub invariant-loop-i : goal.invariant-loop-i
invariant-loop-i l = Triggers (deck_of l.deck.bytes.now) l.table l.i × IdleFrom (deck_of l.deck.bytes.now) l.i l.never
