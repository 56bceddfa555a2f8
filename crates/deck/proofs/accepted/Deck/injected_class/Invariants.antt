use Prim.Native.Nat.{◌-◌}
use Rattle.deck.specs.Trailer.{part_count}
use Rattle.deck.specs.Reads.{injected_key}
use Rattle.deck.proofs.SearchLaws.{Narrowed}
use Rattle.deck.proofs.accepted.Deck.injected_class.Given as goal

abbrev pub invariant-loop-lo : goal.invariant-loop-lo
invariant-loop-lo l = Narrowed (injected_key l.self.bytes.now) (part_count l.self.bytes.now 2) l.x l.lo l.hi

abbrev pub decreases-loop-lo : goal.decreases-loop-lo
decreases-loop-lo l = l.hi - l.lo
