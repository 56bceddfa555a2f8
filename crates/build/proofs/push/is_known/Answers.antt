use Rattle.build.proofs.TailLaws.{tail-known}
use mathlib.Core.Path.{sym, ◌∙◌}
use native.Mathlib.Omega.{arith}
use Rattle.eval.specs.Edges.{edges_of}
use Rattle.eval.proofs.EdgeWalks.{no_edge, edges-length, edges_at, any-hit, any_step, any-end}
use Rattle.build.proofs.push.is_known.Goals as goal

pub loop-i-init : goal.loop-i-init
loop-i-init c =
    tail-known c.requires.tail _ _

pub returns-then-eq : goal.returns-then-eq
returns-then-eq c =
    let e = edges_at c.args.edges.now c.args.count c.loop-i.i (omega arith) c.requires.count_in_bounds in
    let n = edges-length c.args.edges.now c.args.count c.requires.count_in_bounds in
    sym (c.loop-i.invariant ∙ any-hit no_edge _ (edges_of c.args.edges.now c.args.count) c.loop-i.i (omega arith) (rw e (rw c.edge_at.ensures at (sym c.eq.ensures ∙ c.if-eq.true))))

pub loop-i-preserved : goal.loop-i-preserved
loop-i-preserved c =
    let e = edges_at c.args.edges.now c.args.count c.loop-i.i (omega arith) c.requires.count_in_bounds in
    let n = edges-length c.args.edges.now c.args.count c.requires.count_in_bounds in
    c.loop-i.invariant ∙ any_step no_edge _ (edges_of c.args.edges.now c.args.count) c.loop-i.i (omega arith) (rw e (rw c.edge_at.ensures at (sym c.eq.ensures ∙ c.if-eq.false)))

pub returns : goal.returns
returns c =
    sym (c.loop-i.invariant ∙ any-end no_edge _ (edges_of c.args.edges.now c.args.count) c.loop-i.i (omega (arith, c.loop-i.auto, edges-length c.args.edges.now c.args.count c.requires.count_in_bounds)))
