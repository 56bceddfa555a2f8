-- What is known of the members of an EquivalentClasses axiom at an element: which of them, worked, would change nothing.
use Rattle.std.specs.Prelude.{ℕ, Bool, true, false, cond, not, ◌≡◌, eqb}
use mathlib.Core.List.{List, Memᴰ as Member}
use Rattle.deck.specs.declared.numbers.ConceptId.{ConceptId}
use Rattle.deck.specs.Deck.{Deck}
use Rattle.build.specs.declared.bounds.Bounds.{Bounds}
use Rattle.model.specs.declared.still.Still.{Still}
use Rattle.model.specs.declared.still.Still.TheVariants.{Unknown, Others, All}
use Rattle.build.specs.Model.{Model}
use Rattle.build.specs.Exists.{work}

-- a member of that number would change nothing
abbrev pub idles : Still → ℕ → Bool
idles Unknown c = false
idles (Others a) c = not (eqb c a.0)
idles All c = true

pub record Stands (D : Deck) (floor : List ℕ) (B : Bounds) (e : ℕ) (l : List ℕ) (s : Still) (m : Model) : Type 0 where
  pub idle : (c : ℕ) → Member c l → idles s c ≡ true → work D floor B c e m ≡ m

-- the pairs from a member of that number need not be taken
abbrev pub passes : Still → ConceptId → Bool
passes Unknown a = false
passes (Others b) a = eqb a.0 b.0
passes All a = true

-- one more member whose pairs changed nothing
abbrev pub joined : Still → ConceptId → Still
joined Unknown a = Others a
joined (Others b) a = All
joined All a = All

abbrev pub after : Still → ConceptId → Bool → Still
after s a same = cond same (joined s a) Unknown
