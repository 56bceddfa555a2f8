use mathlib.Core.Path.{◌≡◌}
use Rattle.std.specs.Prelude.{Ok}
use Rattle.deck.specs.Answer.{first_refusal}
use Rattle.deck.specs.Records.{part_answer}
use Rattle.deck.proofs.forms.Draft.records_answer.Given as goal

abbrev pub invariant-loop-p : goal.invariant-loop-p
invariant-loop-p l = first_refusal (part_answer l.self.parts.bytes.now) l.p ≡ Ok tt
