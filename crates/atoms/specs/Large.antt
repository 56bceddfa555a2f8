-- The label of a body's target by what its Ands lead to, each taken once: what atoms give a label does not mind order and repeats.
use Rattle.std.specs.Prelude.{ℕ, Bool, true, false, ◌||◌, ◌≡◌}
use mathlib.Core.List.{List, map, flat_map}
use Rattle.deck.specs.Deck.{Deck}
use Rattle.eval.specs.Lists.{any}
use Rattle.atoms.specs.declared.large.Seen.{Seen}
use Rattle.atoms.specs.declared.target_label.Target.{Target}
use Rattle.atoms.specs.declared.target_label.Target.TheVariants.{Row, Delta, NotClosed}
use Rattle.atoms.specs.Walk.{walk}
use Rattle.atoms.specs.Label.{insert_all}
use Rattle.atoms.specs.Floor.{required_atoms}
use Rattle.atoms.specs.Reasons.{Log, note}
use Rattle.atoms.specs.Target.{target_of}
use Rattle.atoms.specs.Body.{atom_row, atom_open, reasons_of}

-- "and reason RunDelta(y)"
abbrev pub delta_from : Target → Bool
delta_from (Row k) = false
delta_from (Delta k) = true
delta_from NotClosed = false

-- a label in the making, and what the atoms so far gave
pub record Gathered : Type 0 where
  pub label : List ℕ
  pub seen : Seen

abbrev pub seen_as : Bool → Bool → Bool → Seen
seen_as f u d = record { found = f; unclosed = u; delta = d }

abbrev pub gathered : List ℕ → Seen → Gathered
gathered l z = record { label = l; seen = z }

abbrev pub is_any : ℕ → Bool
is_any a = true

module _ (D : Deck) (r : ℕ) where
  abbrev pub atom_gives : ℕ → Bool
  atom_gives a = delta_from (target_of D a r)

  -- the same with more atoms
  unfoldable pub took : List ℕ → Gathered → Gathered
  took ks s = gathered (insert_all s.label (flat_map (atom_row D r) ks)) (seen_as (s.seen.found || any (map is_any ks)) (s.seen.unclosed || any (map (atom_open D r) ks)) (s.seen.delta || any (map atom_gives ks)))

  -- what was seen of a concept's required atoms
  pub record SeenOf (c : ℕ) (z : Seen) : Type 0 where
    pub found : z.found ≡ any (map is_any (required_atoms D c))
    pub unclosed : z.unclosed ≡ any (map (atom_open D r) (required_atoms D c))
    pub delta : z.delta ≡ any (map atom_gives (required_atoms D c))

  -- the log after all reasons of a body
  unfoldable pub noted_all : ℕ → Log → Log
  noted_all c g = walk note (reasons_of D r (required_atoms D c)) g
