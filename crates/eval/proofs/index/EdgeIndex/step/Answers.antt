use mathlib.Core.Path.{sym, ap, ◌∙◌}
use lib.ListN.{drop}
use mathlib.Core.List.{◌∷◌}
use borrow.Author.Tests.{eqb-true}
use Prim.Native.Nat.{◌+◌}
use Rattle.eval.specs.declared.edges.Edge.{Edge}
use Rattle.eval.specs.Edges.{edges_of}
use Rattle.eval.specs.Leaving.{leaving}
use native.Mathlib.Omega.{arith}
use Rattle.eval.proofs.LeavingLaws.{leaving-here, leaving-skip, leaving-end}
use Rattle.eval.proofs.index.EdgeIndex.step.Goals as goal

pub returns-then-eq : goal.returns-then-eq
returns-then-eq c =
    let a = c.args in
    let s = a.self.now in
    let w = c.loop-w.w in
    let I = c.loop-w.invariant in
    (leaving-skip s.edges.now s.count s.within a.x.0 a.walk.at w.at I.0 I.1 I.2 ∙ leaving-here s.edges.now s.count s.within a.x.0 w.at c.loop-w-test.true (ap (λ (e : Edge). e.from.0) (sym c.edge_at-e.ensures) ∙ eqb-true _ _ (sym c.eq.ensures ∙ c.if-eq.true)) ∙ ap (λ e. e ∷ leaving a.x.0 (drop (w.at + 1) (edges_of s.edges.now s.count))) (sym c.edge_at-e.ensures), omega (arith, c.loop-w-test.true), record { fits = I.3.fits; once = λ j h. I.3.once j (omega (arith, h)) })

pub returns : goal.returns
returns c =
    let a = c.args in
    let s = a.self.now in
    let I = c.loop-w.invariant in
    leaving-skip s.edges.now s.count s.within a.x.0 a.walk.at c.loop-w.w.at I.0 I.1 I.2 ∙ leaving-end s.edges.now s.count s.within a.x.0 c.loop-w.w.at c.loop-w-test.false
