use native.Mathlib.Omega.{arith}
use mathlib.Core.Path.{ap}
use Rattle.deck.specs.Deck.{Fact}
use Rattle.model.proofs.FactIndexLaws.{marked_step}
use Rattle.model.proofs.fact_index.mark_facts.Goals as goal

pub loop-i-preserved : goal.loop-i-preserved
loop-i-preserved c =
    let f = c.fact_at-record.ensures in
    marked_step c.loop-i.invariant (ap (λ (g : Fact). g.from) f.is) (omega (arith, f.fits.from, c.loop-i.auto.mask, c.requires.deck_in_bounds)) c.insert.ensures
