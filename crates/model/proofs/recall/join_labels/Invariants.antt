use mathlib.Core.Path.{◌≡◌}
use Rattle.deck.specs.Content.{deck_of}
use Rattle.eval.specs.Lent.{label_width}
use Rattle.atoms.specs.Rows.{rows_of}
use Rattle.atoms.specs.Walk.{walk}
use Rattle.model.proofs.HeldLaws.{taking}
use Rattle.model.proofs.recall.join_labels.Given as goal

abbrev pub invariant-loop-e : goal.invariant-loop-e
invariant-loop-e l = l.held ≡ walk taking (rows_of (label_width (deck_of l.deck.bytes.now)) l.e l.labels) l.initial.held
