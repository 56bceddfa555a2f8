use Rattle.deck.specs.Content.{deck_of}
use Rattle.eval.specs.Edges.{edges_of}
use Rattle.model.specs.Pairs.{link_key, Near}
use Rattle.model.proofs.pairs.Pairs.scan.Given as goal

abbrev pub invariant-loop-i : goal.invariant-loop-i
invariant-loop-i l = Near (link_key (deck_of l.self.deck.bytes.now) (edges_of l.self.all.edges.now l.i) l.self.role.0) l.after l.end l.best
