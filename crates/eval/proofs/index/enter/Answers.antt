use native.Mathlib.Omega.{arith}
use Rattle.eval.proofs.IndexLaws.{entered-new}
use Rattle.eval.proofs.index.enter.Goals as goal

pub returns : goal.returns
returns c =
    rw c.add_run.ensures (rw c.edge_at-e.ensures (entered-new c.args.edges.now c.args.elements c.args.count c.args.index.now c.args.i c.args.runs c.requires.built c.requires.i_bound (omega (arith, c.if-index-elements.false)) c.word_at-h.result (rw c.edge_at-e.ensures at c.word_at-h.ensures)))
