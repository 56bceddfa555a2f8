use Rattle.std.proofs.Common.{◌≡◌, ◌<◌, ◌+◌, ◌-◌, sym, ap, ◌∙◌, get_or, length, arith, rules}
use Prim.Native.Nat.{ℕ}
use borrow.Author.Tests.{tests}
use Rattle.model.specs.Triggers.{Chain, step_in}
use Rattle.model.proofs.TriggerLaws.{step_run, step-class}
use Rattle.model.proofs.triggers.next_axiom.Goals as goal

pub loop-word-init : goal.loop-word-init
loop-word-init c =
    (c.requires.first_in_bounds, Chain.here)

pub loop-word-preserved-then-word-lt4096 : goal.loop-word-preserved-then-word-lt4096
loop-word-preserved-then-word-lt4096 c =
    let i = c.loop-word.i in
    let t = c.args.triggers.now in
    let h : i < length t = search (rules, tests) in
    let w : c.in-Some.field-0.now ≡ get_or t i 0 = search (rules, tests) in
    let e : i + 1 ≡ i + step_in c.args.label.now t i = ap (λ (n : ℕ). i + n) (step-class c.args.label.now (get_or t i 0) (omega (arith, w, c.if-word-lt4096.true)) (rw w at (sym c.has_bit.ensures ∙ c.if-has_bit.false))) in
    (omega (arith, h), rw e (Chain.more c.loop-word.invariant.1 h))

pub loop-word-preserved : goal.loop-word-preserved
loop-word-preserved c =
    let i = c.loop-word.i in
    let t = c.args.triggers.now in
    let h : i < length t = search (rules, tests) in
    let w : c.in-Some.field-0.now ≡ get_or t i 0 = search (rules, tests) in
    let e : i + (c.in-Some.field-0.now - 4096) ≡ i + step_in c.args.label.now t i = ap (λ (n : ℕ). i + (n - 4096)) w ∙ ap (λ (n : ℕ). i + n) (step_run c.args.label.now (get_or t i 0) (omega (arith, w, c.if-word-lt4096.false))) in
    (rw e (c.requires.steps.within i h), rw e (Chain.more c.loop-word.invariant.1 h))
