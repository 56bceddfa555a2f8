use borrow.Author.Tests.{lt-ltb}
use Rattle.atoms.specs.Reasons.{bound_tripped}
use Rattle.build.proofs.BuildLaws.{left-trip}
use Rattle.build.proofs.building.Build.link.Goals as goal

pub returns-then-self : goal.returns-then-self
returns-then-self c =
    let S = c.args.self.now in
    let n = c.note.ensures in
    record {
      same = n.same;
      label = n.rest.0;
      labels = n.rest.1;
      left = rw (n.tally, n.rest.2, n.log, c.bound_tripped.ensures, lt-ltb _ _ c.if-self.true)
          (left-trip S.plan.bounds.max_edges S.edges.now S.log.now S.tally c.requires.room (bound_tripped 0 S.plan.bounds.max_elements));
    }
