use Rattle.deck.proofs.ReadLaws.{class-place, flag-read}
use Rattle.deck.proofs.accepted.Deck.is_unsatisfiable.Goals as goal

pub part_word-requires-clause-k_bound : goal.part_word-requires-clause-k_bound
part_word-requires-clause-k_bound c = rw c.parts.ensures (class-place _ c.args.self.now.accepted _ c.requires.class_bound)

pub returns : goal.returns
returns c = rw (c.part_word.ensures, c.parts.ensures) (flag-read _ c.args.self.now.accepted c.args.class.0 c.requires.class_bound)
