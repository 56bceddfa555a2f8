use Prim.Native.Nat.{ℕ, ◌+◌, ◌<◌, ◌≤◌, min}
use mathlib.Core.Path.{◌≡◌, sym, ap, ◌∙◌}
use mathlib.Core.Logic.{⊎_elim}
use native.Mathlib.Omega.{arith}
use borrow.Author.Tests.{lt-ltb, le-ltb}
use Rattle.deck.proofs.CaseLaws.{lt-or-le}
use Rattle.atoms.specs.Reasons.{written, noted, counted}
use Rattle.atoms.proofs.reasons.note.Goals as goal
use Rattle.atoms.proofs.reasons.note.Goals.{then-has_room, else-has_room}

one-more : (t : ℕ) → t ≤ 4294967295 → min (t + 1) 4294967295 ≡ counted t
unfolding counted
one-more t h = ⊎_elim (λ (l : t < 4294967295). rw (lt-ltb t 4294967295 l) (omega arith)) (λ (g : 4294967295 ≤ t). rw (le-ltb t 4294967295 g) (omega arith)) (lt-or-le t 4294967295)

pub returns : goal.returns
unfolding noted
returns c =
    (elim c.if-has_room.branch [ then-has_room w ↦ w.log-is ∙ w.store.ensures ∙ ap (written c.args.log.now c.args.total) w.words.ensures ∙ rw (sym c.has_room.ensures ∙ w.if-has_room.true) | else-has_room w ↦ w.log-is ∙ rw (sym c.has_room.ensures ∙ w.if-has_room.false) ], c.saturating_add.ensures ∙ one-more c.args.total (omega arith))
