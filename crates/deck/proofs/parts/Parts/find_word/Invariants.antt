use Prim.Native.Nat.{◌+◌, ◌-◌}
use Rattle.deck.specs.Parts.{list_word}
use Rattle.deck.proofs.SearchLaws.{Narrowed}
use Rattle.deck.proofs.parts.Parts.find_word.Given as goal

abbrev pub invariant-loop-lo : goal.invariant-loop-lo
invariant-loop-lo l = Narrowed (λ i. list_word l.self.bytes.now (l.start + i)) l.count l.x l.lo l.hi

abbrev pub decreases-loop-lo : goal.decreases-loop-lo
decreases-loop-lo l = l.hi - l.lo
