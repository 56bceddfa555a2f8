use native.Mathlib.Omega.{arith}
use Rattle.deck.proofs.InjectedLaws.{class-small, role-small}
use Rattle.deck.proofs.accepted.Deck.key.Goals as goal

pub part_word-requires-clause-k_bound : goal.part_word-requires-clause-k_bound
part_word-requires-clause-k_bound c = rw c.parts-parts.ensures c.requires.k_bound

pub overflow_mul-result : goal.overflow_mul-result
overflow_mul-result c = omega (arith, rw c.parts-parts.ensures at c.part_word.ensures, class-small _ c.args.self.now.accepted _ c.requires.k_bound)

pub part_word-requires-2-clause-k_bound : goal.part_word-requires-2-clause-k_bound
part_word-requires-2-clause-k_bound c = rw c.parts-parts.ensures c.requires.k_bound

pub overflow_add-result : goal.overflow_add-result
overflow_add-result c =
    omega (
      arith,
      rw c.parts-parts.ensures at c.part_word.ensures,
      rw c.parts-parts.ensures at c.part_word-2.ensures,
      class-small _ c.args.self.now.accepted _ c.requires.k_bound,
      role-small _ c.args.self.now.accepted _ c.requires.k_bound,
    )
