-- What a class axiom says of the members of a list, by the judgements of them at an element.
use Rattle.std.specs.Prelude.{ℕ, List}
use Rattle.deck.specs.Deck.{Axiom}
use Rattle.eval.specs.declared.judgement.Judgement.{Judgement}
use Rattle.eval.specs.declared.votes.Relation.{Relation}
use Rattle.eval.specs.declared.votes.Relation.TheVariants.{Equivalent, Disjoint}
use Rattle.eval.specs.declared.votes.Votes.{Votes}
use Rattle.eval.specs.Verdict.{agreement, disjointness}

abbrev pub outcome : Relation → Votes → Judgement
outcome Equivalent v = agreement v
outcome Disjoint v = disjointness v

abbrev pub axiom_of : Relation → List ℕ → Axiom
axiom_of Equivalent l = Axiom.EquivalentClasses l
axiom_of Disjoint l = Axiom.DisjointClasses l
