-- What an axiom says of the members of a list, element by element, is its verdict.
use Prim.Native.Nat.{ℕ}
use mathlib.Core.Path.{◌≡◌, refl}
use mathlib.Core.List.{List, map}
use Rattle.deck.specs.Deck.{Deck}
use Rattle.eval.specs.declared.votes.Relation.{Relation}
use Rattle.eval.specs.declared.votes.Relation.TheVariants.{Equivalent, Disjoint}
use Rattle.eval.specs.Judge.{judge}
use Rattle.eval.specs.Relation.{outcome, axiom_of}
use Rattle.eval.specs.Structure.{Structure}
use Rattle.eval.specs.Verdict.{all_agree, at_elements, at_most_one, no_votes, verdict, votes}

pub classes-verdict : (D : Deck) (S : Structure) (r : Relation) (l : List ℕ) → at_elements S (λ x. outcome r (votes no_votes (map (λ m. judge D S m x) l))) ≡ verdict D S (axiom_of r l)
unfolding verdict all_agree at_most_one
classes-verdict D S Equivalent l = refl
classes-verdict D S Disjoint l = refl
