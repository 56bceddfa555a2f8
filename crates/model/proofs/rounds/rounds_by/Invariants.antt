use Rattle.std.proofs.Common.{◌-◌}
use Rattle.model.proofs.RoundLaws.{Rounding}
use Rattle.model.proofs.rounds.rounds_by.Given as goal

abbrev pub invariant-loop : goal.invariant-loop
invariant-loop l = Rounding l.initial.b (l.end - l.counter) l.b
