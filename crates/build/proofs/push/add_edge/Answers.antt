use Rattle.build.proofs.PushLaws.{left-trips, left-stays}
use mathlib.Core.Path.{refl, sym}
use borrow.Author.Tests.{lt-ltb, le-ltb}
use Rattle.build.proofs.push.add_edge.Goals as goal

pub returns-then-limit-tally : goal.returns-then-limit-tally
returns-then-limit-tally c =
    let a = c.args in left-trips a.limit a.edges.now a.log.now a.tally.now a.e c.requires c.append.ensures (sym (lt-ltb _ _ c.if-limit-tally.true)) refl (rw c.bound_tripped.ensures at c.note-tally.ensures.0) c.note-tally.ensures.1

pub returns : goal.returns
returns c =
    let a = c.args in left-stays a.limit a.edges.now a.log.now a.tally.now a.e c.requires c.append.ensures (sym (le-ltb _ _ c.if-limit-tally.false)) refl
