use Prim.Native.Nat.{◌+◌, ◌≤◌}
use mathlib.Core.List.{List}
use Rattle.atoms.specs.declared.reasons.Reason.{Reason}
use Rattle.atoms.specs.Occurrences.{Standing}
use Rattle.atoms.proofs.StandingLaws.{Copied}
use Rattle.atoms.proofs.reasons.note_again.Given as goal

abbrev pub invariant-loop-j : goal.invariant-loop-j
invariant-loop-j l = (l.total + l.j ≤ 4294967295) × ((xs : List Reason) (S : Standing l.initial.log l.stretch l.total xs) → Copied S l.j l.log)
