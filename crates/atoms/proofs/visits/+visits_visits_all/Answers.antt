use native.Mathlib.Omega.{arith}
use Rattle.atoms.proofs.visits.+visits_visits_all.Goals as goal

pub visits-returns-in-And : goal.visits-returns-in-And
visits-returns-in-And t c =
    omega (arith, c.visits_all.ensures)

pub visits-returns-else-is_inverse : goal.visits-returns-else-is_inverse
visits-returns-else-is_inverse t c =
    omega (arith, c.visits.ensures)

pub visits_all-loop-i-preserved-then-is_end : goal.visits_all-loop-i-preserved-then-is_end
visits_all-loop-i-preserved-then-is_end t c =
    omega (arith, c.loop-i.invariant)

pub visits_all-loop-i-preserved : goal.visits_all-loop-i-preserved
visits_all-loop-i-preserved t c =
    omega (arith, c.visits-rest.ensures, c.loop-i.invariant)

pub visits_all-returns : goal.visits_all-returns
visits_all-returns t c =
    omega (arith, c.loop-i.invariant)
