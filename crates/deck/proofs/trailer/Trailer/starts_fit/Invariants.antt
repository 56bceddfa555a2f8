use mathlib.Core.Path.{◌≡◌}
use mathlib.Core.Bool.{true}
use Rattle.deck.specs.Below.{all_below}
use Rattle.deck.specs.Trailer.{start_fits}
use Rattle.deck.proofs.trailer.Trailer.starts_fit.Given as goal

abbrev pub invariant-loop-p : goal.invariant-loop-p
invariant-loop-p l = all_below (start_fits l.self.bytes.now) l.p ≡ true
