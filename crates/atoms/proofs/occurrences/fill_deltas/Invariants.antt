use Rattle.deck.specs.Content.{deck_of}
use Rattle.atoms.specs.Occurrences.{DeltasTo}
use Rattle.atoms.proofs.occurrences.fill_deltas.Given as goal

abbrev pub invariant-loop-k : goal.invariant-loop-k
invariant-loop-k l = DeltasTo (deck_of l.deck.bytes.now) l.r.0 l.table l.k
