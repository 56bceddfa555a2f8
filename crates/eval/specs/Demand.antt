-- What an axiom asks of each pair of a role word: that its from or its to is in a concept, or that it is a pair of another role word.
use Rattle.std.specs.Prelude.{◌*◌, ◌<◌}
use Rattle.deck.specs.Deck.{Deck, concept_count, role_count, role_of}
use Rattle.eval.specs.declared.demand.Demand.{Demand}
use Rattle.eval.specs.declared.demand.Demand.TheVariants.{Domain, Range, Within}
use Rattle.eval.specs.declared.judgement.Judgement.{Judgement}
use Rattle.eval.specs.declared.verdict.Witnesses.{Witnesses}
use Rattle.eval.specs.Structure.{Structure, Pair, has_pair}
use Rattle.eval.specs.Judge.{judge, truth}
use Rattle.eval.specs.Verdict.{one, two}

-- the outcome at a pair
abbrev pub demand_at : Deck → Structure → Demand → Pair → Judgement
demand_at D S (Domain c) p = judge D S c.0 p.from
demand_at D S (Range c) p = judge D S c.0 p.to
demand_at D S (Within r) p = truth (has_pair D S (role_of r.0) p.from p.to)

-- the witnesses where it fails
abbrev pub blame : Demand → Pair → Witnesses
blame (Domain c) p = one p.from
blame (Range c) p = one p.to
blame (Within r) p = two p.from p.to

-- its concept or role word is one of the deck's
abbrev pub DemandFits : Deck → Demand → Type 0
DemandFits D (Domain c) = c.0 < concept_count D
DemandFits D (Range c) = c.0 < concept_count D
DemandFits D (Within r) = r.0 < 2 * role_count D
