use lib.ListN.{length}
use Rattle.atoms.specs.Rows.{rows_of}
use Rattle.build.proofs.PrintLaws.{Seeking}
use Rattle.build.proofs.prints.find_at.Given as goal

abbrev pub invariant-loop-p : goal.invariant-loop-p
invariant-loop-p l = Seeking (length l.heads) (rows_of (length l.label) l.elements l.labels) l.label l.p l.found

abbrev pub decreases-loop-p : goal.decreases-loop-p
decreases-loop-p l = l.p
