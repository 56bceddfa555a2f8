use mathlib.Core.Path.{refl, sym, ap, ◌∙◌}
use native.Mathlib.Omega.{arith}
use lib.ListN.{length}
use Rattle.atoms.proofs.RowLaws.{room-below}
use Rattle.build.specs.Building.{deck_in}
use Rattle.build.specs.Model.{among}
use Rattle.build.proofs.BuildingLaws.{same-refl, same-trans}
use Rattle.build.proofs.SeedLaws.{seed-start, seed-more, seed-skip, held-few, held-size, length-row-label, last_none, last-take, last-skip, table-start, table-rows, table_more, table-skip}
use Rattle.build.proofs.building.Build.seed_classes.Goals as goal
use Rattle.build.proofs.building.Build.seed_classes.Goals.{then-is_seeded, else-is_seeded}

pub loop-k-init : goal.loop-k-init
loop-k-init c =
    (same-refl, refl, last_none _ _ _, rw c.requires.unseeded.empty (seed-start _ _ _), table-start _ _ _ _ c.requires.chained, refl, refl, refl)

pub intern_row-element-requires : goal.intern_row-element-requires
intern_row-element-requires c =
    let z = c.loop-k.invariant in
    let n = c.class_count-k-end.ensures in
    let f = held-few _ _ _ _ _ _ z.3 in
    record {
      class_bound = rw z.0.plan (omega (arith, n.is));
      place = record {
        label-wide = rw z.0.plan (z.1 ∙ c.requires.unseeded.label-wide);
        rows = rw (z.0.plan, held-size _ _ _ _ _ _ z.3 (omega (arith, n.is)) c.requires.unseeded.rows) (room-below _ _ _ _ (omega (arith, f, n.is)) c.requires.unseeded.rows);
        few = omega (arith, f, n.most);
      };
      elements_in_bounds = omega (arith, f, n.is, c.loop-k.auto.links, c.requires.links_len);
      chained = rw z.0.plan (table-rows _ _ _ _ _ _ _ _ z.3 z.4);
    }

pub loop-k-preserved : goal.loop-k-preserved
loop-k-preserved c =
    let z = c.loop-k.invariant in
    let S = c.args.self.now in
    elim c.if-is_seeded.branch [
      | then-is_seeded w ↦ let e = sym c.is_seeded.ensures ∙ w.if-is_seeded.true in
          let i = w.intern_row-element.ensures in
          let p = i.interns in
          let q = rw z.0.plan at p.label in
          rw (w.self-is, w.heads-is, w.links-is) (
            same-trans z.0 p.same,
            ap length q ∙ length-row-label (deck_in S) S.plan.floor.now c.loop-k.k ∙ sym c.requires.unseeded.label-wide,
            q ∙ last-take _ _ _ _ e,
            seed-more _ _ _ _ _ _ _ _ _ z.3 e (rw z.0.plan at p.placed),
            table_more _ _ _ _ _ _ _ _ z.3 e (rw z.0.plan at i.chained_after),
            p.edges ∙ z.5,
            p.log ∙ z.6,
            p.tally ∙ ap (among w.intern_row-element.new.self.tally.elements) z.7,
          )
      | else-is_seeded w ↦ let e = sym c.is_seeded.ensures ∙ w.if-is_seeded.false in
          rw (w.self-is, w.heads-is, w.links-is) (z.0, z.1, z.2 ∙ last-skip _ _ _ _ e, seed-skip _ _ _ _ _ _ z.3 e, table-skip _ _ _ _ _ e z.4, z.5, z.6, z.7)
    ]
