use mathlib.Core.Path.{◌≡◌}
use Prim.Native.Nat.{◌≤◌, ◌*◌}
use Rattle.deck.specs.Trailer.{words_before}
use Rattle.deck.proofs.trailer.Trailer.words_before.Given as goal

abbrev pub invariant-loop-q : goal.invariant-loop-q
invariant-loop-q l = (l.sum ≡ words_before l.self.bytes.now l.q) × (l.sum ≤ l.q * 17179869184)
