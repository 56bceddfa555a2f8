-- The target of a class by a role, case by case.
-- Assumes nothing.
use Prim.Native.Nat.{ℕ, ◌<◌}
use mathlib.Core.Bool.{Bool, true, false, cond}
use mathlib.Core.Path.{◌≡◌, refl, subst}
use native.Mathlib.Omega.{arith}
use Rattle.deck.specs.Deck.{Deck, class_at, class_count, injected_class}
use Rattle.deck.specs.Sound.{Sound}
use Rattle.deck.specs.Reads.{RealClass}
use Rattle.deck.specs.declared.numbers.ClassId.{ClassId}
use Rattle.std.specs.Prelude.{Option, Some, None}
use Rattle.atoms.specs.declared.target_label.Target.{Target}
use Rattle.atoms.specs.declared.target_label.Target.TheVariants.{Row, Delta, NotClosed}
use Rattle.atoms.specs.Target.{holds_range, by_injected, target_of, TargetFits, class_by}
use Rattle.atoms.specs.Body.{row_by}

module _ (D : Deck) (y : ℕ) where
  module _ (q : Option ClassId) where
    pub none-injected : q ≡ None → NotClosed ≡ by_injected D y q
    none-injected e = rw e

    module _ (k : ClassId) (e : q ≡ Some k) where
      pub unsatisfiable-injected : (class_at D k.0).unsatisfiable ≡ true → Delta (record { 0 = y }) ≡ by_injected D y q
      unsatisfiable-injected u = rw (e, u)

      pub satisfiable-injected : (class_at D k.0).unsatisfiable ≡ false → Row k ≡ by_injected D y q
      satisfiable-injected u = rw (e, u)

      pub injected-below : Sound D → RealClass D q → k.0 < class_count D
      injected-below W h =
          let g : k.0 < D.real = subst (RealClass D) e h in
          omega (arith, W.real, g)

  pub injected-fits : Sound D → y < class_count D → (q : Option ClassId) → RealClass D q → TargetFits D (by_injected D y q)
  injected-fits W b None h = tt
  injected-fits W b (Some k) h = go (class_at D k.0).unsatisfiable
    where
      go : (u : Bool) → TargetFits D (cond u (Delta (record { 0 = y })) (Row k))
      go true = b
      go false = omega (arith, W.real, h)

  module _ (r : ℕ) where
    pub target_row : holds_range D y r ≡ true → Row (record { 0 = y }) ≡ target_of D y r
    unfolding target_of
    target_row h = rw h

    pub target-else : holds_range D y r ≡ false → by_injected D y (injected_class D.injected y r) ≡ target_of D y r
    unfolding target_of
    target-else h = rw h

-- the row that a class gives, by its target
pub row-by : (D : Deck) (y : ClassId) (t : Target) → row_by D y.0 t ≡ (class_at D (class_by y t).0).row
row-by D y (Row k) = refl
row-by D y (Delta k) = refl
row-by D y NotClosed = refl

pub class-by-fits : (D : Deck) (y : ClassId) (t : Target) → TargetFits D t → y.0 < class_count D → (class_by y t).0 < class_count D
class-by-fits D y (Row k) f h = f
class-by-fits D y (Delta k) f h = f
class-by-fits D y NotClosed f h = h
