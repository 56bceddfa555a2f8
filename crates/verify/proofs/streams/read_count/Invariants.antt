-- what was moved is of the room
use Rattle.std.proofs.Common.{◌≤◌, length}
use Rattle.verify.proofs.streams.read_count.Given as goal

abbrev pub invariant-loop : goal.invariant-loop
invariant-loop l = l.done ≤ length l.room
