use Prim.Native.Nat.{◌<◌}
use mathlib.Core.Path.{sym, ap, ◌∙◌}
use native.Mathlib.Omega.{arith}
use lib.ListN.{length}
use Rattle.eval.specs.Edges.{edges_of}
use Rattle.eval.specs.Judge.{truth}
use Rattle.eval.specs.Verdict.{is_holds}
use Rattle.eval.specs.InLent.{edges_in}
use Rattle.eval.proofs.EdgeWalks.{no_edge, edges-length, edges_at}
use Rattle.eval.proofs.SeenLaws.{seen_skip, seen_next, seen_end}
use Rattle.eval.proofs.lent.Judging.lowest_composed.Goals as goal
use Rattle.eval.proofs.lent.Judging.lowest_composed.Goals.{then-is_sub_role, else-is_sub_role}

pub loop-i-preserved : goal.loop-i-preserved
loop-i-preserved c =
    let rows = c.args.self.now.lent.edges.now in
    let n = c.args.self.now.lent.shape.edges in
    let F = c.args.self.now.lent.fits in
    let z = c.loop-i in
    let i : z.i < n = omega arith in
    let same = c.edge_at-e.ensures ∙ sym (edges_at rows n z.i i F.count) in
    let h : z.i < length (edges_of rows n) = omega (arith, edges-length rows n F.count) in
    elim c.if-is_sub_role.branch [
      | then-is_sub_role w ↦ rw (w.lowest-is, w.next-lowest.ensures, same)
          (seen_next _ _ (edges_of rows n) no_edge z.i h (rw same at (sym c.is_sub_role.ensures ∙ w.if-is_sub_role.true)) (rw same at (w.from.ensures ∙ ap truth (w.holds.ensures ∙ ap is_holds w.check_onward-v.ensures))) z.invariant)
      | else-is_sub_role w ↦ rw w.lowest-is (seen_skip _ _ (edges_of rows n) no_edge z.i h (rw same at (sym c.is_sub_role.ensures ∙ w.if-is_sub_role.false)) z.invariant)
    ]

pub returns : goal.returns
returns c =
    let L = c.args.self.now.lent in
    seen_end _ _ (edges_in L) c.loop-i.i (omega (arith, c.loop-i.auto, edges-length L.edges.now L.shape.edges L.fits.count)) c.loop-i.invariant
