-- Closing a path of three edges of a transitive role, by the definition alone.
use mathlib.Core.Bool.{true, false}
use mathlib.Core.Path.{◌≡◌, refl}
use mathlib.Core.List.{[], ◌∷◌, ◌++◌, flat_map}
use Rattle.deck.specs.Deck.{Deck, Role, Axiom, has}
use Rattle.eval.specs.Lists.{range, keep, any}
use Rattle.eval.specs.Structure.{has_edge, successors, pairs}
use Rattle.eval.specs.Edges.{edge_in}
use Rattle.atoms.specs.Reasons.{noted, counted}
use Rattle.build.specs.Push.{State, edge, push_edge}
use Rattle.model.specs.Rules.{rule_of}
use Rattle.atoms.specs.Walk.{walk}
use Rattle.model.specs.Closing.{join, close_from, close_rule, close_axiom, close_pass, closing, close}

-- role 0 is transitive, and role 1, which has both in its row, then role 0 makes role 1; an inverse word makes no rule
abbrev deck : Deck
deck = record {
  real = 0;
  dropped = 0;
  classes = [];
  roles = record { sub_roles = 0 ∷ []; range = [] } ∷ record { sub_roles = 0 ∷ 1 ∷ []; range = [] } ∷ [];
  injected = [];
  concepts = [];
  axioms =
      Axiom.DeclareObjectProperty 0
      ∷ Axiom.TransitiveRole (Role.Inverse 0)
      ∷ Axiom.SubObjectPropertyChain (Role.Named 1 ∷ Role.Named 0 ∷ []) (Role.Named 1)
      ∷ Axiom.TransitiveRole (Role.Named 0)
      ∷ [];
  facts = [];
}

abbrev path : State
path = record { edges = edge 0 2 3 ∷ edge 0 0 1 ∷ edge 0 1 2 ∷ []; log = 7 ∷ 7 ∷ 7 ∷ 7 ∷ []; reasons = 0; tripped = false }

-- the chain, then the transitive role, twice: the new pairs of the chain's first role are walked in the second pass
closed-path : close deck 4 9 path
    ≡ record { edges = path.edges ++ (edge 1 0 2 ∷ edge 1 1 3 ∷ edge 0 0 2 ∷ edge 0 1 3 ∷ edge 1 0 3 ∷ edge 0 0 3 ∷ []); log = 7 ∷ 7 ∷ 7 ∷ 7 ∷ []; reasons = 0; tripped = false }
unfolding close closing close_pass close_axiom close_rule close_from join push_edge walk rule_of noted counted has_edge successors pairs edge_in range keep any has flat_map
closed-path = refl

-- the bound trips after the edge that is past it, and what was added stays
tripped-path : close deck 4 4 path ≡ record { edges = path.edges ++ (edge 1 0 2 ∷ edge 1 1 3 ∷ []); log = 3 ∷ 1 ∷ 4 ∷ 7 ∷ []; reasons = 1; tripped = true }
unfolding close closing close_pass close_axiom close_rule close_from join push_edge walk rule_of noted counted has_edge successors pairs edge_in range keep any has flat_map
tripped-path = refl
