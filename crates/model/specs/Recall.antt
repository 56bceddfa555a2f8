-- Remembered elements of rows: in a structure in the making, and while they are looked for.
use Rattle.std.specs.Prelude.{ℕ, List}
use Rattle.deck.specs.Content.{deck_of}
use Rattle.eval.specs.Lent.{label_width}
use Rattle.atoms.specs.Rows.{rows_of}
use Rattle.build.specs.declared.building.Build.{Build}
use Rattle.build.specs.Building.{deck_in, model_by}
use Rattle.model.specs.declared.recall.Printed.{Printed}
use Rattle.model.specs.FactIndex.{Recalled}

-- they are those of the labels that b' holds, by the deck of another step of the same structure
abbrev pub Recalls : Build → Build → List ℕ → Type 0
Recalls b b' known = Recalled (deck_in b) b.plan.floor.now (model_by b b').labels known

-- they are those of the labels that are looked through
abbrev pub Knows : Printed → List ℕ → Type 0
Knows p known = Recalled (deck_of p.plan.deck.bytes.now) p.plan.floor.now (rows_of (label_width (deck_of p.plan.deck.bytes.now)) p.elements p.labels.now) known
