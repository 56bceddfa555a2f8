use mathlib.Core.Path.{◌≡◌}
use mathlib.Core.Bool.{true}
use Rattle.deck.specs.Below.{all_below}
use Rattle.deck.specs.Trailer.{count_fits}
use Rattle.deck.proofs.trailer.Trailer.counts_fit.Given as goal

abbrev pub invariant-loop-p : goal.invariant-loop-p
invariant-loop-p l = all_below (count_fits l.self.bytes.now) l.p ≡ true
