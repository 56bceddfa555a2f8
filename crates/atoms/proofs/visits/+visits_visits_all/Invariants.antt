use Prim.Native.Nat.{◌+◌, ◌*◌, ◌≤◌}
use Rattle.atoms.proofs.visits.+visits_visits_all.Given as goal

abbrev pub decreases-visits : goal.decreases-visits
decreases-visits l = l.concept.0 * 2 + 1

abbrev pub decreases-visits_all : goal.decreases-visits_all
decreases-visits_all l = l.owner.0 * 2

abbrev pub invariant-visits_all-loop-i : goal.invariant-visits_all-loop-i
invariant-visits_all-loop-i l = l.rest ≤ l.left
