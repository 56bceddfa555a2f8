use Prim.Native.Nat.{◌+◌, ◌≤◌}
use mathlib.Core.Path.{◌≡◌}
use lib.ListN.{drop}
use Rattle.deck.specs.Reads.{list_of}
use Rattle.atoms.specs.Occurrences.{capped, sum_of, entry_at}
use Rattle.atoms.proofs.occurrences.sum_entries.Given as goal

abbrev pub invariant-loop-i : goal.invariant-loop-i
invariant-loop-i l = (l.sum ≤ 4294967295) × (capped (sum_of (entry_at l.table) (list_of l.deck.bytes.now l.list)) ≡ capped (l.sum + sum_of (entry_at l.table) (drop l.i (list_of l.deck.bytes.now l.list))))
