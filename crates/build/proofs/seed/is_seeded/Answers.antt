use Rattle.build.proofs.SeedLaws.{seeded-unsatisfiable, seeded-real, seeded-fact}
use Rattle.deck.proofs.SoundLaws.{limited}
use native.Mathlib.Omega.{arith}
use mathlib.Core.Path.{sym, ◌∙◌}
use Rattle.build.proofs.seed.is_seeded.Goals as goal

pub returns-then-is_unsatisfiable : goal.returns-then-is_unsatisfiable
returns-then-is_unsatisfiable c =
    seeded-unsatisfiable _ _ (sym c.is_unsatisfiable.ensures ∙ c.if-is_unsatisfiable.true)

pub returns-then-class-real_count : goal.returns-then-class-real_count
returns-then-class-real_count c =
    seeded-real _ _ (sym c.is_unsatisfiable.ensures ∙ c.if-is_unsatisfiable.false) (omega (arith, c.real_count.ensures.is))

pub has_bit-requires : goal.has_bit-requires
has_bit-requires c =
    omega (arith, c.requires.class_bound, c.requires.named_len, (limited _ c.args.deck.now.accepted).classes)

pub returns : goal.returns
returns c =
    c.has_bit.ensures ∙ c.requires.named _ (omega (arith, c.real_count.ensures.is)) c.requires.class_bound
    ∙ seeded-fact _ _ (sym c.is_unsatisfiable.ensures ∙ c.if-is_unsatisfiable.false) (omega (arith, c.real_count.ensures.is))
