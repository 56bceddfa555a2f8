-- A walk downward by marks, as its iterator does it.
use Rattle.std.specs.Prelude.{ℕ, ◌≡◌, Option, IfSome}
use mathlib.Core.List.{List, flat_map}
use Rattle.deck.specs.Content.{deck_of}
use Rattle.deck.specs.declared.numbers.ConceptId.{ConceptId}
use Rattle.atoms.specs.declared.marks.Leaves.{Leaves}
use Rattle.atoms.specs.Leaves.{leaves, pending, Same, Next}

-- it begins with all that a list of concepts leads to, in the deck of these bytes
pub record Begun (bytes l : List ℕ) (s : Leaves) : Type 0 where
  pub deck : s.deck.bytes.now ≡ bytes
  pub same : Same (flat_map (leaves (deck_of bytes)) l) (pending (deck_of bytes) s.marks s.below)

-- one step
pub record Stepped (s : Leaves) (next : Option ConceptId) (t : Leaves) : Type 0 where
  pub deck : t.deck.bytes.now ≡ s.deck.bytes.now
  pub step : Next (deck_of s.deck.bytes.now) s.marks s.below t.marks next
  pub stands : IfSome next (λ k. t.below ≡ k.0)
