use mathlib.Core.Path.{◌≡◌}
use Rattle.std.specs.Prelude.{Ok}
use Rattle.deck.specs.Answer.{first_refusal}
use Rattle.deck.specs.Records.{record_answer}
use Rattle.deck.proofs.forms.Draft.part_answer.Given as goal

abbrev pub invariant-loop-k : goal.invariant-loop-k
invariant-loop-k l = first_refusal (record_answer l.self.parts.bytes.now l.p) l.k ≡ Ok tt
