use mathlib.Core.Path.{◌≡◌}
use Rattle.std.specs.Prelude.{Ok}
use Rattle.deck.specs.Faults.{word_faults, first}
use Rattle.deck.proofs.parts.Parts.word_fault.Given as goal

abbrev pub invariant-loop-i : goal.invariant-loop-i
invariant-loop-i l = first (word_faults l.self.bytes.now l.start l.n l.i) ≡ Ok tt
