use native.Mathlib.Omega.{arith}
use mathlib.Core.Path.{ap}
use Rattle.deck.specs.Deck.{Fact}
use Rattle.model.proofs.FactIndexLaws.{indexed-start, indexed-down}
use Rattle.model.proofs.fact_index.index_facts.Goals as goal

pub loop-i-init : goal.loop-i-init
loop-i-init c =
    indexed-start _ c.requires.by_index c.fact_count-i.ensures.is

pub loop-i-preserved : goal.loop-i-preserved
loop-i-preserved c =
    let f = c.fact_at-record.ensures in
    indexed-down _ c.loop-i.i (omega arith) (omega (arith, c.fact_count-i.ensures.is)) c.loop-i.invariant (omega (arith, c.requires.deck_in_bounds, c.loop-i.auto.index)) _ _ c.class_count-classes.ensures.is (ap (λ (g : Fact). g.from) f.is) f.fits.from c.put_first.ensures
