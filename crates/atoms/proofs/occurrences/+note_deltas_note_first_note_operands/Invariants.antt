use mathlib.Core.Path.{◌≡◌}
use lib.ListN.{drop}
use Rattle.deck.specs.Content.{deck_of}
use Rattle.deck.specs.Reads.{list_of}
use Rattle.atoms.specs.Walk.{walk}
use Rattle.atoms.specs.Occurrences.{logs, noted_deltas, Places}
use Prim.Native.Nat.{◌+◌, ◌*◌}
use Rattle.atoms.proofs.occurrences.+note_deltas_note_first_note_operands.Given as goal

abbrev pub decreases-note_deltas : goal.decreases-note_deltas
decreases-note_deltas l = l.concept.0 * 3 + 2

abbrev pub decreases-note_first : goal.decreases-note_first
decreases-note_first l = l.concept.0 * 3 + 1

abbrev pub decreases-note_operands : goal.decreases-note_operands
decreases-note_operands l = l.owner.0 * 3

abbrev pub invariant-note_operands-loop-i : goal.invariant-note_operands-loop-i
invariant-note_operands-loop-i l =
    let D = deck_of l.deck.bytes.now in
    record {
      places : Places D l.r.0 l.places l.log l.held;
      goes : walk (noted_deltas D l.r.0) (list_of l.deck.bytes.now l.list) (logs l.initial.log l.total) ≡ walk (noted_deltas D l.r.0) (drop l.i (list_of l.deck.bytes.now l.list)) (logs l.log l.held);
    }
