use borrow.Author.Rules.{rules}
use Rattle.deck.specs.Word.{word_at}
use Rattle.deck.proofs.words.word.Goals as goal

pub returns : goal.returns
unfolding word_at
returns c =
    search rules
