use Prim.Native.Nat.{◌+◌, ◌*◌}
use mathlib.Core.Path.{◌≡◌}
use lib.ListN.{drop}
use Rattle.deck.specs.Content.{deck_of}
use Rattle.deck.specs.Reads.{list_of}
use Rattle.atoms.specs.Walk.{walk}
use Rattle.atoms.specs.Body.{body, join_atoms}
use Rattle.atoms.proofs.body.+join_atoms_join_operands_atoms.Given as goal

abbrev pub decreases-join_atoms : goal.decreases-join_atoms
decreases-join_atoms l = l.concept.0 * 2 + 1

abbrev pub decreases-join_operands_atoms : goal.decreases-join_operands_atoms
decreases-join_operands_atoms l = l.owner.0 * 2

abbrev pub invariant-join_operands_atoms-loop-i : goal.invariant-join_operands_atoms-loop-i
invariant-join_operands_atoms-loop-i l = walk (join_atoms (deck_of l.deck.bytes.now) l.r.0) (list_of l.deck.bytes.now l.list) (body l.initial.label l.initial.log l.initial.held) ≡ walk (join_atoms (deck_of l.deck.bytes.now) l.r.0) (drop l.i (list_of l.deck.bytes.now l.list)) (body l.label l.log l.held)
