use Prim.Native.Nat.{ℕ, ◌+◌, ◌*◌, ◌/◌, ◌%◌, ◌<◌}
use mathlib.Core.Path.{◌≡◌, sym, ap, ◌∙◌}
use native.Mathlib.Omega.{arith}
use borrow.Author.Count.{below_more}
use Rattle.deck.specs.Content.{deck_of}
use Rattle.deck.specs.Below.{any_below}
use Rattle.atoms.specs.Floor.{has_real}
use Rattle.atoms.proofs.FloorLaws.{real-end, real-found}
use Rattle.atoms.specs.Label.{label_has}
use Rattle.atoms.proofs.floor.has_real.Goals as goal

pub returns-then-label-i-ne0 : goal.returns-then-label-i-ne0
unfolding has_real
returns-then-label-i-ne0 c =
    let w = c.loop-i in
    let r = c.real_count-real.ensures.is in
    let h : w.i < (deck_of c.args.deck.now.bytes.now).real / 64 = omega (arith, r) in
    sym (real-found c.args.label.now w.i w.invariant _ h (omega (arith, c.shared_slice_known-in-loop-i-1.given w.i)) c.if-label-i-ne0.true)

pub loop-i-preserved : goal.loop-i-preserved
loop-i-preserved c =
    below_more _ _ c.loop-i.invariant c.if-label-i-ne0.false

pub returns : goal.returns
unfolding has_real
returns c =
    let w = c.loop-i in
    let m = c.real_count-real.result in
    let l = c.args.label.now in
    let e : m / 64 * 64 + m % 64 ≡ (deck_of c.args.deck.now.bytes.now).real = omega (arith, c.real_count-real.ensures.is) in
    c.has_bit_below.ensures ∙ sym (real-end l (m / 64) (λ (k : ℕ) (b : k < m / 64). w.invariant k (omega arith)) (m % 64) (omega arith)) ∙ ap (any_below (label_has l)) e
