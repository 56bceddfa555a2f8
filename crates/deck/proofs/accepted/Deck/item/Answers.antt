use mathlib.Core.Path.{sym, ◌∙◌}
use native.Mathlib.Omega.{arith}
use Rattle.deck.proofs.TableLaws.{list_at_lem}
use Rattle.deck.proofs.accepted.Deck.item.Goals as goal

pub list_word-requires : goal.list_word-requires
list_word-requires c = rw c.parts.ensures (omega (arith, c.requires.within))

pub returns : goal.returns
returns c = rw c.parts.ensures at c.list_word.ensures ∙ sym (list_at_lem _ c.args.list.start c.args.list.count c.args.i c.requires.i_lt_count)
