use mathlib.Core.Path.{sym, ◌∙◌}
use Rattle.deck.proofs.FormLaws.{rises-row}
use Rattle.deck.proofs.TableLaws.{list-has}
use Rattle.deck.proofs.accepted.Deck.row_has.Goals as goal

pub find_word-requires : goal.find_word-requires
find_word-requires c =
    let row = c.args.row in
    rw c.parts.ensures record { count_bound = c.requires.within; count_value = rises-row c.args.self.now.bytes.now row.start row.count c.requires.rises }

pub returns : goal.returns
returns c =
    let row = c.args.row in
    rw c.parts.ensures at c.find_word.ensures ∙ sym (list-has c.args.self.now.bytes.now row.start row.count c.args.x)
