use borrow.Author.Rules.{rules}
use mathlib.Core.Path.{refl, sym}
use native.Mathlib.Omega.{arith}
use Rattle.eval.specs.Lent.{label_width}
use Rattle.atoms.proofs.RowLaws.{room, length-rows}
use Rattle.build.specs.Building.{deck_in}
use Rattle.build.proofs.InternLaws.{placed-new}
use Rattle.build.proofs.building.Build.append_label.Goals as goal

pub returns : goal.returns
returns c =
    let S = c.args.self.now in
    let r = room _ _ _ c.requires.place.rows in
    record {
      same = search rules;
      placed = placed-new _ _ _ _ (omega (arith, r)) _ (sym c.requires.new) (omega (arith, length-rows (label_width (deck_in S)) S.tally.elements S.labels.now)) c.requires.place.label-wide r _ _ (rw c.requires.place.label-wide at c.row_start-at.ensures.0) c.store.ensures;
      label = refl;
      tally = refl;
      edges = refl;
      log = refl;
    }
