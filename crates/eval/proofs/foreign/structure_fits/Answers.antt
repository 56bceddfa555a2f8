use mathlib.Core.Path.{sym, ◌∙◌}
use Rattle.eval.specs.Foreign.{structure_fits}
use Rattle.eval.proofs.ForeignLaws.{counts-room, counts-edges}
use Rattle.eval.proofs.foreign.structure_fits.Goals as goal

pub returns-then-not-counts_fit : goal.returns-then-not-counts_fit
unfolding structure_fits
returns-then-not-counts_fit c =
    simp (sym c.counts_fit.ensures ∙ c.if-not-counts_fit.true)

pub edges_fit-requires : goal.edges_fit-requires
edges_fit-requires c = record { edges_in_bounds = counts-edges _ _ _ _ (sym c.counts_fit.ensures ∙ c.if-not-counts_fit.false) }

pub returns-then-not-edges_fit : goal.returns-then-not-edges_fit
unfolding structure_fits
returns-then-not-edges_fit c =
    simp (sym c.counts_fit.ensures ∙ c.if-not-counts_fit.false, sym c.edges_fit.ensures ∙ c.if-not-edges_fit.true)

pub invariant_of-labels : goal.invariant_of-labels
invariant_of-labels c =
    record { room = counts-room _ _ _ _ (sym c.counts_fit.ensures ∙ c.if-not-counts_fit.false) }

pub returns : goal.returns
unfolding structure_fits
returns c =
    simp (sym c.counts_fit.ensures ∙ c.if-not-counts_fit.false, sym c.edges_fit.ensures ∙ c.if-not-edges_fit.false) c.fit.ensures
