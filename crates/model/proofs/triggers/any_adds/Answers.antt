use borrow.Author.Tests.{tests}
use Rattle.std.proofs.Common.{rules}
use Rattle.deck.specs.Content.{deck_of}
use Rattle.model.specs.Triggers.{may_add}
use Rattle.model.proofs.TriggerLaws.{any-members}
use Rattle.model.proofs.triggers.any_adds.Goals as goal

pub returns : goal.returns
returns c =
    any-members c.args.deck.now.bytes.now c.args.list (may_add (deck_of c.args.deck.now.bytes.now)) c.any.ensures.ran (λ x b q k. search (rules, tests))
