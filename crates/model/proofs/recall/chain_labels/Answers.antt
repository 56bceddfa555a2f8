use native.Mathlib.Omega.{arith}
use Rattle.atoms.specs.Rows.{rows_of}
use Rattle.model.proofs.RecallLaws.{chained-label}
use Rattle.model.proofs.recall.chain_labels.Goals as goal

pub loop-e-init : goal.loop-e-init
unfolding rows_of
loop-e-init c =
    c.requires.chained

pub loop-e-preserved : goal.loop-e-preserved
loop-e-preserved c =
    chained-label _ _ _ _ c.loop-e.invariant (omega arith) c.label_at-label.ensures _ c.slot_of-h.ensures (omega (arith, c.loop-e.auto.links, c.requires.elements_in_bounds)) c.chain.ensures.heads_after c.chain.ensures.links_after
