use Rattle.build.proofs.building.Build.intern_row.Goals as goal
use Rattle.build.specs.Seed.{row_label}

pub returns : goal.returns
unfolding row_label
returns c =
    let i = c.intern_by.ensures in
    let p = i.interns in
    record { interns = record { same = record { plan = p.same.plan; label = p.same.label; labels = p.same.labels; edges = p.same.edges; log = p.same.log }; placed = rw c.load_row.ensures at p.placed; label = rw c.load_row.ensures at p.label; tally = p.tally; edges = p.edges; log = p.log }; chained_after = rw c.load_row.ensures at i.chained_after }
