use native.Mathlib.Omega.{arith}
use mathlib.Core.Path.{refl, sym, ap, ◌∙◌}
use lib.ListN.{length}
use Rattle.atoms.specs.Rows.{rows_of}
use Rattle.atoms.specs.Walk.{walk}
use Rattle.model.proofs.HeldLaws.{joined-label}
use Rattle.model.proofs.RecallLaws.{row-length}
use Rattle.model.proofs.recall.join_labels.Goals as goal

pub loop-e-init : goal.loop-e-init
unfolding rows_of walk
loop-e-init c =
    refl

pub join-requires : goal.join-requires
join-requires c =
    ap length c.label_at.ensures ∙ row-length _ _ _ _ c.requires.room (omega arith) ∙ sym c.requires.held_len ∙ sym c.loop-e.auto.held

pub loop-e-preserved : goal.loop-e-preserved
loop-e-preserved c =
    joined-label _ _ _ _ _ c.loop-e.invariant (omega arith) c.label_at.ensures c.join.ensures
