use mathlib.Core.Path.{◌≡◌, sym, ◌∙◌}
use Prim.Native.Nat.{◌+◌, ◌-◌}
use native.Mathlib.Omega.{arith}
use Rattle.std.proofs.lemmas.Slice.Eq.{slice_eq-Decides}
use Rattle.std.proofs.lemmas.Bool.Decides.{Decides-eqb}
use Rattle.build.proofs.InternLaws.{same-by}
use Rattle.build.proofs.PrintLaws.{seeking-start, seeking-row, seeking-here, seeking-on, seeking-done}
use Rattle.build.proofs.prints.find_at.Goals as goal
use Rattle.build.proofs.prints.find_at.Goals.{then-eq, else-eq}

pub loop-p-init : goal.loop-p-init
loop-p-init c =
    seeking-start _ _ _ _ _ _ c.requires.chained _ c.requires.h_value

pub loop-p-preserved : goal.loop-p-preserved
loop-p-preserved c =
    let S = c.loop-p.invariant in
    let at : (c.loop-p.p - 1) + 1 ≡ c.loop-p.p = omega arith in
    let d = same-by {x = c.row.result.now} {l = c.args.label.now} (slice_eq-Decides Decides-eqb _ _ _ c.eq.ensures) in
    elim c.if-eq.branch [
      | then-eq w ↦ rw w.found-is (seeking-here _ _ _ _ _ _ c.requires.chained _ _ S _ at (rw c.row.ensures.words at (sym d ∙ w.if-eq.true)))
      | else-eq w ↦ rw w.found-is (seeking-on _ _ _ _ _ _ c.requires.chained _ _ S _ at (rw c.row.ensures.words at (sym d ∙ w.if-eq.false)))
    ]

pub row-requires : goal.row-requires
row-requires c =
    (seeking-row _ _ _ _ _ _ c.requires.chained _ _ c.loop-p.invariant _ (omega arith), c.requires.label_in_bounds)

pub bounds-links-e : goal.bounds-links-e
bounds-links-e c =
    let b = seeking-row _ _ _ _ _ _ c.requires.chained _ _ c.loop-p.invariant (c.loop-p.p - 1) (omega arith) in omega (arith, b)

pub returns : goal.returns
returns c =
    let e : c.loop-p.p ≡ 0 = omega arith in
    seeking-done (rw e at c.loop-p.invariant)
