-- A finite structure, and the edges, successors and pairs of a role in it: document 01, section 4.
use Rattle.std.specs.Prelude.{ℕ, Bool, true, false}
use mathlib.Core.List.{List, map, flat_map}
use Rattle.deck.specs.Deck.{Deck, Role, role_at}
use Rattle.eval.specs.Lists.{range, keep, any}

-- elements 0 to size - 1; which classes an element has; which pairs stand in a role's own bucket
pub record Structure : Type 0 where
  pub size : ℕ
  pub member : ℕ → ℕ → Bool  -- element, class
  pub edge : ℕ → ℕ → ℕ → Bool  -- role, from, to

abbrev pub elements : Structure → List ℕ
elements S = range 0 S.size

-- "Edges of r are the distinct pairs of its sub-roles' buckets"
unfoldable pub has_edge : Deck → Structure → ℕ → ℕ → ℕ → Bool
has_edge D S r x y = any (map (λ q. S.edge q x y) (role_at D r).sub_roles)

-- "the pairs of a role word are its role's edges as in section 4, turned if inverse"
abbrev pub has_pair : Deck → Structure → Role → ℕ → ℕ → Bool
has_pair D S (Role.Named r) x y = has_edge D S r x y
has_pair D S (Role.Inverse r) x y = has_edge D S r y x

-- "successors are their targets, rising", for a role word and for a role
abbrev pub successors_of : Deck → Structure → Role → ℕ → List ℕ
successors_of D S r x = keep (has_pair D S r x) (elements S)

unfoldable pub successors : Deck → Structure → ℕ → ℕ → List ℕ
successors D S r x = successors_of D S (Role.Named r) x

pub record Pair : Type 0 where
  pub from : ℕ
  pub to : ℕ

abbrev pub pair : ℕ → ℕ → Pair
pair x y = record { from = x; to = y }

-- "by from then to", where the successors of each element are given
abbrev pub pairs_by : Structure → (ℕ → List ℕ) → List Pair
pairs_by S next = flat_map (λ x. map (pair x) (next x)) (elements S)

-- the pairs of a role word, the edges of a role
abbrev pub pairs_of : Deck → Structure → Role → List Pair
pairs_of D S r = pairs_by S (successors_of D S r)

unfoldable pub pairs : Deck → Structure → ℕ → List Pair
pairs D S r = pairs_by S (successors D S r)

-- is a role word inverse?
abbrev pub inverse : Role → Bool
inverse (Role.Named r) = false
inverse (Role.Inverse r) = true

abbrev pub any_inverse : List Role → Bool
any_inverse rs = any (map inverse rs)
