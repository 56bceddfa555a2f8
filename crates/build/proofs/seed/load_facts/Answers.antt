use mathlib.Core.Path.{sym, ◌∙◌}
use native.Mathlib.Omega.{arith}
use Rattle.deck.specs.Content.{deck_of}
use Rattle.atoms.specs.Label.{label_of}
use Rattle.atoms.proofs.ListWalks.{taken_step, taken-end}
use Rattle.build.proofs.SeedLaws.{no_fact}
use Rattle.build.proofs.seed.load_facts.Goals as goal

pub loop-i-preserved : goal.loop-i-preserved
loop-i-preserved c =
    let w = c.loop-i in
    (omega (arith, c.insert_fact.auto.words, w.invariant.0), w.invariant.1 ∙ taken_step no_fact (deck_of c.args.deck.now.bytes.now).facts w.i _ w.words (omega (arith, c.fact_count-i-end.ensures.is)) c.insert_fact.ensures)

pub returns : goal.returns
unfolding label_of
returns c =
    taken-end no_fact (deck_of c.args.deck.now.bytes.now).facts c.loop-i.i _ _ (omega (arith, c.loop-i.auto, c.fact_count-i-end.ensures.is)) ∙ sym c.loop-i.invariant.1 ∙ rw (c.clear.ensures, c.requires.words_len)
