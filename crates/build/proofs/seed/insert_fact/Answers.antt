use Rattle.build.proofs.SeedLaws.{two_ends}
use Rattle.build.specs.Seed.{ends_of}
use Rattle.atoms.specs.Label.{insert_all}
use Rattle.deck.proofs.SoundLaws.{limited}
use Rattle.deck.specs.Reads.{fact_of}
use Rattle.deck.specs.Deck.{Fact}
use native.Mathlib.Omega.{arith}
use mathlib.Core.Path.{sym, ap, ◌∙◌}
use Rattle.build.proofs.seed.insert_fact.Goals as goal

pub insert-requires : goal.insert-requires
insert-requires c =
    omega (arith, c.fact_at-record.ensures.fits.from, (limited _ c.args.deck.now.accepted).classes, c.requires.words_len)

pub insert-requires-2 : goal.insert-requires-2
insert-requires-2 c =
    omega (arith, c.fact_at-record.ensures.fits.to, (limited _ c.args.deck.now.accepted).classes, c.requires.words_len, c.insert.auto.label)

pub returns : goal.returns
returns c =
    (rw c.insert.ensures at c.insert-2.ensures) ∙ sym (two_ends _ (fact_of c.fact_at-record.result)) ∙ ap (λ (f : Fact). insert_all c.args.words.now (ends_of f)) c.fact_at-record.ensures.is
