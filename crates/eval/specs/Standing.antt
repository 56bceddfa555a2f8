-- How an And and a Some carry their standing from judgement to judgement: document 01, section 4.
use Rattle.std.specs.Prelude.{true, false, cond, Option, Some, None}
use Rattle.eval.specs.declared.judgement.Construct.{Construct}
use Rattle.eval.specs.declared.judgement.Judgement.{Judgement}
use Rattle.eval.specs.declared.judgement.Judgement.TheVariants.{False, True, Unresolved}
use Rattle.eval.specs.declared.standing.Standing.{Standing}

abbrev pub fresh : Standing
fresh = record { ended = false; noted = None }

-- "false ends it, the last unresolved construct is remembered"
abbrev pub and_next : Standing → Judgement → Standing
and_next s False = record { ended = true; noted = s.noted }
and_next s True = s
and_next s (Unresolved t) = record { ended = s.ended; noted = Some t }

-- "A Some goes through all successors unless one is true, and remembers likewise."
abbrev pub some_next : Standing → Judgement → Standing
some_next s False = s
some_next s True = record { ended = true; noted = s.noted }
some_next s (Unresolved t) = record { ended = s.ended; noted = Some t }

-- the construct that was noted, if any
abbrev pub unless_noted : Option Construct → Judgement → Judgement
unless_noted None j = j
unless_noted (Some t) j = Unresolved t

-- what an And and what a Some has come to
abbrev pub close : Standing → Judgement → Judgement → Judgement
close s ended passed = cond s.ended ended (unless_noted s.noted passed)

abbrev pub and_close : Standing → Judgement
and_close s = close s False True

abbrev pub some_close : Standing → Judgement
some_close s = close s True False
