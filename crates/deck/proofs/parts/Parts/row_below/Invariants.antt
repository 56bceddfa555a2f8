use mathlib.Core.Path.{◌≡◌}
use Rattle.deck.specs.Below.{all_below}
use Rattle.deck.specs.Rows.{word_below}
use Rattle.deck.proofs.parts.Parts.row_below.Given as goal

abbrev pub invariant-loop-i : goal.invariant-loop-i
invariant-loop-i l = l.below ≡ all_below (word_below l.self.bytes.now l.start l.n) l.i
