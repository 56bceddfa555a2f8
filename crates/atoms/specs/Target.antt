-- The target of a class by a role (`target_label`): document 01, section 3.
use Rattle.std.specs.Prelude.{ℕ, ◌<◌, Bool, cond, map}
use Rattle.deck.specs.Deck.{Deck, class_at, class_count, role_at, has, injected_class}
use Rattle.deck.specs.declared.numbers.ClassId.{ClassId}
use Rattle.std.specs.Prelude.{Option, Some, None}
use Rattle.eval.specs.Lists.{every}
use Rattle.atoms.specs.declared.target_label.Target.{Target}
use Rattle.atoms.specs.declared.target_label.Target.TheVariants.{Row, Delta, NotClosed}

-- "if that holds every class of r's range row"
unfoldable pub holds_range : Deck → ℕ → ℕ → Bool
holds_range D y r = every (map (has (class_at D y).row) (role_at D r).range)

abbrev class : ℕ → ClassId
class k = record { 0 = k }

-- "with q's row if (y, r) has a satisfiable q; else, q being unsatisfiable, with y's row and reason RunDelta(y); without a q there is LabelNotClosed(y, r)"
abbrev pub by_injected : Deck → ℕ → Option ClassId → Target
by_injected D y (Some q) = cond (class_at D q.0).unsatisfiable (Delta (class y)) (Row q)
by_injected D y None = NotClosed

-- "labelled with y's row if that holds every class of r's range row; else …"
unfoldable pub target_of : Deck → ℕ → ℕ → Target
target_of D y r = cond (holds_range D y r) (Row (class y)) (by_injected D y (injected_class D.injected y r))

-- the class whose row labels: y's own where it is not closed
abbrev pub class_by : ClassId → Target → ClassId
class_by y (Row k) = k
class_by y (Delta k) = k
class_by y NotClosed = y

-- a class that labels is below N
abbrev pub TargetFits : Deck → Target → Type 0
TargetFits D (Row k) = k.0 < class_count D
TargetFits D (Delta k) = k.0 < class_count D
TargetFits D NotClosed = Unit {0}
