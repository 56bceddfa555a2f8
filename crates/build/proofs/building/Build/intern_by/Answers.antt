use borrow.Author.Rules.{rules}
use mathlib.Core.Path.{◌≡◌, refl, ◌∙◌}
use native.Mathlib.Omega.{arith}
use lib.ListN.{length}
use Rattle.eval.specs.Lent.{label_width}
use Rattle.atoms.proofs.RowLaws.{room, length-rows}
use Rattle.build.specs.Building.{deck_in}
use Rattle.build.proofs.InternLaws.{placed-known}
use Rattle.build.proofs.PrintLaws.{chained-known, chained-new}
use Rattle.build.proofs.building.Build.intern_by.Goals as goal

pub returns-in-Some : goal.returns-in-Some
returns-in-Some c =
    let S = c.args.self.now in
    let e : length c.apply_floor.new.label ≡ label_width (deck_in S) = c.apply_floor.auto.label ∙ c.requires.place.label-wide in
    let f = rw (e, c.apply_floor.ensures) at c.in-Some.ensures.some in
    record {
      interns = record {
        same = search rules;
        placed = placed-known _ _ _ _ (omega (arith, room _ _ _ c.requires.place.rows)) _ f.0 (omega (arith, f.1, length-rows (label_width (deck_in S)) S.tally.elements S.labels.now));
        label = c.apply_floor.ensures;
        tally = refl;
        edges = refl;
        log = refl;
      };
      chained_after = chained-known _ _ _ _ _ _ c.requires.chained _ f.0 (omega (arith, f.1, length-rows (label_width (deck_in S)) S.tally.elements S.labels.now));
    }

pub returns-in-None : goal.returns-in-None
returns-in-None c =
    let S = c.args.self.now in
    let p = c.append_label.ensures in
    let e : length c.apply_floor.new.label ≡ label_width (deck_in S) = c.apply_floor.auto.label ∙ c.requires.place.label-wide in
    let g = rw (e, c.apply_floor.ensures) at c.in-None.ensures.none in
    record {
      interns = record { same = search rules; placed = rw c.apply_floor.ensures at p.placed; label = p.label ∙ c.apply_floor.ensures; tally = p.tally; edges = p.edges; log = p.log };
      chained_after = chained-new _ _ _ _ _ _ c.requires.chained _ refl (omega (arith, g, length-rows (label_width (deck_in S)) S.tally.elements S.labels.now)) _ (rw c.apply_floor.ensures at c.slot_of-h.ensures) c.requires.elements_in_bounds _ _ c.chain.ensures.heads_after c.chain.ensures.links_after;
    }
