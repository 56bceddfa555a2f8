use mathlib.Core.Path.{sym, ◌∙◌}
use Prim.Native.Nat.{ℕ, ◌<◌}
use native.Mathlib.Omega.{arith}
use borrow.Author.Count.{below_more}
use Rattle.std.proofs.lemmas.Slice.Eq.{slice_eq-Decides}
use Rattle.std.proofs.lemmas.Bool.Decides.{Decides-eqb}
use Rattle.atoms.proofs.LabelLaws.{not_so, same-eq}
use Rattle.build.proofs.InternLaws.{same-by, found-row, found-no-row}
use Rattle.build.proofs.intern.find.Goals as goal

pub loop-e-preserved-then-differs : goal.loop-e-preserved-then-differs
loop-e-preserved-then-differs c =
    below_more _ _ c.loop-e.invariant (not_so _ (λ e. c.differs.ensures c.if-differs.true (c.row-other.ensures.words ∙ same-eq _ _ e)))

pub returns-then-eq : goal.returns-then-eq
returns-then-eq c =
    found-row _ _ _ _ c.loop-e.e (omega arith) c.loop-e.invariant (rw c.row-other.ensures.words at (sym (same-by {x = c.row-other.result.now} {l = c.args.label.now} (slice_eq-Decides Decides-eqb _ _ _ c.eq.ensures)) ∙ c.if-eq.true))

pub loop-e-preserved : goal.loop-e-preserved
loop-e-preserved c =
    below_more _ _ c.loop-e.invariant (rw c.row-other.ensures.words at (sym (same-by {x = c.row-other.result.now} {l = c.args.label.now} (slice_eq-Decides Decides-eqb _ _ _ c.eq.ensures)) ∙ c.if-eq.false))

pub returns : goal.returns
returns c =
    found-no-row _ _ _ _ (λ (k : ℕ) (b : k < c.args.elements). c.loop-e.invariant k (omega (arith, c.loop-e.auto)))
