use borrow.Author.Tests.{tests}
use Rattle.std.proofs.Common.{rules}
use Rattle.deck.specs.Content.{deck_of}
use Rattle.atoms.specs.Antecedent.{is_rule}
use Rattle.model.proofs.TriggerLaws.{any-members}
use Rattle.model.proofs.triggers.any_rule.Goals as goal

pub returns : goal.returns
returns c =
    any-members c.args.deck.now.bytes.now c.args.list (is_rule (deck_of c.args.deck.now.bytes.now)) c.any.ensures.ran (λ x b q k. search (rules, tests))
