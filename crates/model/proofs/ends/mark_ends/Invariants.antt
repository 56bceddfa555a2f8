use mathlib.Core.Path.{◌≡◌}
use lib.ListN.{length}
use Rattle.deck.specs.Content.{deck_of}
use Rattle.eval.specs.Edges.{edges_of}
use Rattle.model.proofs.EndsLaws.{Marking}
use Rattle.model.proofs.ends.mark_ends.Given as goal

abbrev pub invariant-loop-e : goal.invariant-loop-e
invariant-loop-e l = (length l.bits ≡ length l.initial.bits) × Marking (deck_of l.deck.bytes.now) l.all.elements (edges_of l.all.edges.now l.all.count) l.fn.r.0 l.fn.x.0 (length l.yielded) l.bits
