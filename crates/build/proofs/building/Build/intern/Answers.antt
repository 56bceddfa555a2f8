use borrow.Author.Rules.{rules}
use mathlib.Core.Path.{◌≡◌, refl, ◌∙◌}
use native.Mathlib.Omega.{arith}
use lib.ListN.{length}
use Rattle.eval.specs.Lent.{label_width}
use Rattle.atoms.proofs.RowLaws.{room, length-rows}
use Rattle.build.specs.Building.{deck_in}
use Rattle.build.proofs.InternLaws.{placed-known}
use Rattle.build.proofs.building.Build.intern.Goals as goal

pub returns-in-Some : goal.returns-in-Some
returns-in-Some c =
    let S = c.args.self.now in
    let e : length c.apply_floor.new.label ≡ label_width (deck_in S) = c.apply_floor.auto.label ∙ c.requires.label-wide in
    let f = rw (e, c.apply_floor.ensures) at c.in-Some.ensures.some in
    record {
      same = search rules;
      placed = placed-known _ _ _ _ (omega (arith, room _ _ _ c.requires.rows)) _ f.0 (omega (arith, f.1, length-rows (label_width (deck_in S)) S.tally.elements S.labels.now));
      label = c.apply_floor.ensures;
      tally = refl;
      edges = refl;
      log = refl;
    }
