use Prim.Native.Nat.{◌+◌}
use mathlib.Core.Path.{sym, ap, ◌∙◌}
use Rattle.atoms.specs.Reasons.{written}
use native.Mathlib.Omega.{arith}
use Rattle.atoms.proofs.StandingLaws.{room-of, copied-start, copied-full, copied-end, copied-step}
use Rattle.atoms.proofs.reasons.note_again.Goals as goal
use Rattle.atoms.proofs.reasons.note_again.Goals.{else-loop-j-test, then-loop-j-test+then-not-has_room}

pub loop-j-init : goal.loop-j-init
loop-j-init c =
    (omega arith, λ xs S. copied-start S)

pub overflow_add-total : goal.overflow_add-total
overflow_add-total c =
    omega (arith, c.loop-j.invariant.0)

pub loop-j-preserved : goal.loop-j-preserved
loop-j-preserved c =
    let h = sym c.has_room.ensures ∙ c.if-not-has_room.false in
    let r = room-of c.loop-j.log (c.args.total + c.loop-j.j) h in
    (omega (arith, r.few), λ xs S. copied-step S (c.loop-j.invariant.1 xs S) c.loop-j-test.true h (c.store.ensures ∙ ap (written c.loop-j.log (c.args.total + c.loop-j.j)) c.at-words.ensures))

pub returns : goal.returns
returns c =
    λ xs S.
    let C = c.loop-j.invariant.1 xs S in
    let p = c.saturating_add.ensures in
    elim c.loop-j-test.branch [
      | else-loop-j-test w ↦ copied-end S C (omega (arith, w.loop-j-test.false)) p
      | then-loop-j-test+then-not-has_room w ↦ copied-full S C (sym w.has_room.ensures ∙ w.if-not-has_room.true) p
    ]
