use mathlib.Core.Path.{refl, sym, ap, ◌∙◌}
use Rattle.std.specs.Prelude.{Err}
use Rattle.deck.proofs.AnswerLaws.{handed_on}
use Rattle.eval.proofs.EntryLaws.{same-refusal}
use Rattle.model.proofs.NeedLaws.{bounds-phase, bounds-large, bounds-number, refused-deck, refused-bounds, refused-room, refused-not}
use Rattle.model.proofs.need.Task.read.Goals as goal

pub returns-in_err-deck-clause-refused : goal.returns-in_err-deck-clause-refused
returns-in_err-deck-clause-refused c =
    λ r h. same-refusal (handed_on _ _ c.from_residual.ensures.1) h (refused-deck _ _ _ _ _ _ (c.in_err-deck.ensures.refused _ refl))

pub returns-then-not-are_small-clause-refused : goal.returns-then-not-are_small-clause-refused
returns-then-not-are_small-clause-refused c =
    let d = c.in_ok-deck in
    λ r h. same-refusal refl h (refused-bounds _ _ _ _ _ _ (rw d.ensures.read at d.deck.accepted) (bounds-large _ (sym c.are_small.ensures ∙ c.if-not-are_small.true) _))

pub returns-in_err-last-clause-refused : goal.returns-in_err-last-clause-refused
returns-in_err-last-clause-refused c =
    let d = c.in_ok-deck in
    let e = c.in_err-last.ensures in
    λ r h. same-refusal (handed_on _ _ c.from_residual-in_err-last.ensures.1 ∙ ap Err e.0) h (refused-bounds _ _ _ _ _ _ (rw d.ensures.read at d.deck.accepted) (bounds-number _ _ e.1))

pub invariant_of-task : goal.invariant_of-task
invariant_of-task c =
    record { within = bounds-phase _ (sym c.are_small.ensures ∙ c.if-not-are_small.false) _ }

pub returns-then-not-room_fits-clause-refused : goal.returns-then-not-room_fits-clause-refused
returns-then-not-room_fits-clause-refused c =
    let d = c.in_ok-deck in
    let b = rw c.in_ok-last.ensures at (bounds-phase c.args.bounds (sym c.are_small.ensures ∙ c.if-not-are_small.false) c.in_ok-last.last) in
    λ r h. same-refusal refl h (refused-room _ _ _ _ _ _ (rw d.ensures.read at d.deck.accepted) b (rw d.ensures.read at (sym c.room_fits.ensures ∙ c.if-not-room_fits.true)))

pub returns-clause-passed : goal.returns-clause-passed
returns-clause-passed c =
    let d = c.in_ok-deck in
    let b = rw c.in_ok-last.ensures at (bounds-phase c.args.bounds (sym c.are_small.ensures ∙ c.if-not-are_small.false) c.in_ok-last.last) in
    refused-not _ _ _ _ _ _ (rw d.ensures.read at d.deck.accepted) b (rw d.ensures.read at (sym c.room_fits.ensures ∙ c.if-not-room_fits.false))
