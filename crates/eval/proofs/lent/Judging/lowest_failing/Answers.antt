use Prim.Native.Nat.{◌<◌}
use mathlib.Core.Path.{sym, ◌∙◌}
use native.Mathlib.Omega.{arith}
use lib.ListN.{length}
use Rattle.deck.specs.Deck.{role_of}
use Rattle.eval.specs.Edges.{edges_of, edges_by, turned}
use Rattle.eval.specs.InLent.{edges_in}
use Rattle.eval.proofs.EdgeWalks.{no_edge, by_length, by-at}
use Rattle.eval.proofs.LentLaws.{edge-under}
use Rattle.eval.proofs.SeenLaws.{seen_start, seen_skip, seen_next, seen_end}
use Rattle.eval.proofs.lent.Judging.lowest_failing.Goals as goal
use Rattle.eval.proofs.lent.Judging.lowest_failing.Goals.{then-is_sub_role, else-is_sub_role}

pub loop-i-init : goal.loop-i-init
loop-i-init c =
    (rw c.new-lowest.ensures (seen_start _ _ (edges_by (role_of c.args.role.0) (edges_in c.args.self.now.lent))), c.requires.remembered)

pub loop-i-preserved : goal.loop-i-preserved
loop-i-preserved c =
    let L = c.args.self.now.lent in
    let rows = L.edges.now in
    let n = L.shape.edges in
    let role = role_of c.args.role.0 in
    let z = c.loop-i in
    let i : z.i < n = omega arith in
    let h : z.i < length (edges_by role (edges_of rows n)) = omega (arith, by_length role rows n L.fits.count) in
    let u = edge-under _ _ _ _ L.fits c.args.role.0 z.i i c.edge_by-e.ensures c.role_id-r.ensures c.is_sub_role.ensures in
    let same = c.edge_by-e.ensures ∙ sym (by-at role rows n L.fits.count z.i i) in
    elim c.if-is_sub_role.branch [
      | then-is_sub_role w ↦ (
        rw (w.lowest-is, w.next-lowest.ensures, same)
            (seen_next _ _ (edges_by role (edges_of rows n)) (turned role no_edge) z.i h (u ∙ w.if-is_sub_role.true) (rw same at w.meets.ensures.is) z.invariant.0),
        rw w.memo-is w.meets.ensures.kept,
      )
      | else-is_sub_role w ↦ (
        rw w.lowest-is (seen_skip _ _ (edges_by role (edges_of rows n)) (turned role no_edge) z.i h (u ∙ w.if-is_sub_role.false) z.invariant.0),
        rw w.memo-is z.invariant.1,
      )
    ]

pub returns-clause-is : goal.returns-clause-is
returns-clause-is c =
    let L = c.args.self.now.lent in
    let role = role_of c.args.role.0 in
    seen_end _ _ (edges_by role (edges_in L)) c.loop-i.i (omega (arith, c.loop-i.auto, by_length role L.edges.now L.shape.edges L.fits.count)) c.loop-i.invariant.0
