use native.Mathlib.Omega.{arith}
use Rattle.deck.proofs.TrailerLaws.{product_small}
use Rattle.deck.proofs.trailer.Trailer.part_words.Goals as goal

pub overflow_mul-result : goal.overflow_mul-result
overflow_mul-result c =
    omega (arith, product_small c.part_count.result c.width.result (omega arith) (omega arith))

pub returns : goal.returns
returns c =
    (cc, product_small c.part_count.result c.width.result (omega arith) (omega arith))
