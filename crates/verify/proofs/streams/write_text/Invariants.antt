-- what was moved is of the text
use Rattle.std.proofs.Common.{◌≤◌, length}
use Rattle.verify.proofs.streams.write_text.Given as goal

abbrev pub invariant-loop : goal.invariant-loop
invariant-loop l = l.done ≤ length l.text
