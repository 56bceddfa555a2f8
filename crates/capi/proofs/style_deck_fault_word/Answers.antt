use mathlib.Core.Path.{sym, ap, ◌∙◌}
use Rattle.capi.specs.Words.{deck_word}
use Rattle.capi.specs.Calls.{fault_word}
use Rattle.capi.proofs.CallLaws.{fault-named, fault-known}
use Rattle.capi.proofs.style_deck_fault_word.Goals as goal

pub returns-clause-is : goal.returns-clause-is
unfolding fault_word
returns-clause-is c = c.deck_word.ensures ∙ ap deck_word c.check_deck.ensures

pub returns-clause-named : goal.returns-clause-named
returns-clause-named c = fault-named _ _ (sym c.check_deck.ensures) c.deck_word.ensures

pub returns-clause-known : goal.returns-clause-known
returns-clause-known c = fault-known _ _ (sym c.check_deck.ensures) c.deck_word.ensures
