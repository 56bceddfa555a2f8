use Rattle.deck.specs.Content.{deck_of}
use Rattle.atoms.specs.Occurrences.{FirstsTo}
use Rattle.atoms.proofs.occurrences.fill_firsts.Given as goal

abbrev pub invariant-loop-k : goal.invariant-loop-k
invariant-loop-k l = FirstsTo (deck_of l.deck.bytes.now) l.table l.k
