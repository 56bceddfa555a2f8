use mathlib.Core.Path.{◌≡◌}
use Rattle.deck.specs.Below.{all_below}
use Rattle.deck.specs.Rows.{word_rises}
use Rattle.deck.proofs.parts.Parts.row_rises.Given as goal

abbrev pub invariant-loop-i : goal.invariant-loop-i
invariant-loop-i l = l.rises ≡ all_below (word_rises l.self.bytes.now l.start) l.i
