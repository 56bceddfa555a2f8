use mathlib.Core.Path.{◌≡◌}
use mathlib.Core.List.{map}
use lib.ListN.{drop}
use Rattle.deck.specs.Deck.{role_of}
use Rattle.deck.specs.Reads.{list_of}
use Rattle.eval.specs.Lists.{any}
use Rattle.eval.specs.Structure.{inverse, any_inverse}
use Rattle.eval.proofs.lent.Lent.any_inverse.Given as goal

abbrev pub invariant-loop-i : goal.invariant-loop-i
invariant-loop-i l = any_inverse (map role_of (list_of l.self.deck.bytes.now l.list)) ≡ any (map inverse (drop l.i (map role_of (list_of l.self.deck.bytes.now l.list))))
