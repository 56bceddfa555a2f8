use native.Mathlib.Omega.{arith}
use mathlib.Core.Path.{refl}
use Rattle.deck.specs.Content.{deck_of}
use Rattle.eval.specs.Lent.{label_width}
use Rattle.atoms.proofs.RowLaws.{length-rows}
use Rattle.model.proofs.RecallLaws.{recalled-row}
use Rattle.model.proofs.recall.Printed.recall_row.Goals as goal

pub overflow_add-known : goal.overflow_add-known
overflow_add-known c =
    let p = c.args.self.now in
    omega (arith, c.in-Some.ensures.some.1, length-rows (label_width (deck_of p.plan.deck.bytes.now)) p.elements p.labels.now, p.few)

pub returns-in-Some : goal.returns-in-Some
returns-in-Some c =
    recalled-row c.requires.recalled _ _ _ _ c.requires.class_bound c.load_row.ensures c.apply_floor.ensures c.in-Some.ensures.some refl
