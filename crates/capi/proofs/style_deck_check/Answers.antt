use mathlib.Core.Path.{ap, ◌∙◌}
use Rattle.capi.specs.Words.{deck_number}
use Rattle.capi.specs.Calls.{check_deck}
use Rattle.capi.proofs.style_deck_check.Goals as goal

pub returns : goal.returns
unfolding check_deck
returns c = c.deck_number.ensures ∙ ap deck_number c.check_deck.ensures
