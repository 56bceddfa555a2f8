use native.Mathlib.Omega.{arith}
use Prim.Native.Nat.{ℕ}
use mathlib.Core.Path.{ap}
use mathlib.Core.Logic.{◌⊎◌}
use lib.ListN.{length}
use Rattle.std.proofs.lemmas.Iterator.Consumers.{YieldsList-from_first, count_from_yields_List}
use Rattle.deck.specs.Content.{deck_of}
use Rattle.deck.proofs.SoundLaws.{limited}
use Rattle.model.specs.FactWalk.{facts_from, left}
use Rattle.model.proofs.HeldLaws.{facts-few, held-start, held-skip, held-step, held-enough, held-few}
use Rattle.model.proofs.recall.has_facts.Goals as goal

pub loop-class-init : goal.loop-class-init
loop-class-init c =
    (omega arith, omega (arith, c.requires.least_bound.0), held-start (deck_of c.args.facts.now.deck.bytes.now) c.args.held.now)

pub count-count-requires-clause-fits : goal.count-count-requires-clause-fits
count-count-requires-clause-fits c =
    let d = c.args.facts.now.deck in
    ◌⊎◌.inl (omega (arith, ap length c.facts_of.ensures, facts-few (deck_of d.bytes.now) c.in-Some.class.0, (limited d.bytes.now d.accepted).facts))

pub overflow_add-count : goal.overflow_add-count
overflow_add-count c =
    let d = c.args.facts.now.deck in
    let n = count_from_yields_List c.facts_of.result _ c.count-count.ensures.ran (YieldsList-from_first (λ (i : ℕ). i) left (facts_from (deck_of d.bytes.now) c.in-Some.class.0 0) c.facts_of.ensures) in
    omega (arith, n, facts-few (deck_of d.bytes.now) c.in-Some.class.0, (limited d.bytes.now d.accepted).facts, c.loop-class.invariant.1, c.requires.least_bound.1)

pub returns-then-least-count : goal.returns-then-least-count
returns-then-least-count c =
    let D = deck_of c.args.facts.now.deck.bytes.now in
    let k = c.in-Some.class.0 in
    let n = count_from_yields_List c.facts_of.result _ c.count-count.ensures.ran (YieldsList-from_first (λ (i : ℕ). i) left (facts_from D k 0) c.facts_of.ensures) in
    let V = held-skip D c.args.held.now _ _ c.loop-class.invariant.2 c.args.facts.now.marked c.in-Some.ensures.passed in
    held-enough D c.args.held.now _ _ (held-step D c.args.held.now _ _ V c.in-Some.ensures.met.0 c.in-Some.ensures.met.1 n) c.args.least c.if-least-count.true

pub overflow_add-from : goal.overflow_add-from
overflow_add-from c =
    let d = c.args.facts.now.deck in
    omega (arith, c.in-Some.ensures.met.0, (limited d.bytes.now d.accepted).classes)

pub loop-class-preserved : goal.loop-class-preserved
loop-class-preserved c =
    let D = deck_of c.args.facts.now.deck.bytes.now in
    let k = c.in-Some.class.0 in
    let n = count_from_yields_List c.facts_of.result _ c.count-count.ensures.ran (YieldsList-from_first (λ (i : ℕ). i) left (facts_from D k 0) c.facts_of.ensures) in
    let V = held-skip D c.args.held.now _ _ c.loop-class.invariant.2 c.args.facts.now.marked c.in-Some.ensures.passed in
    (omega (arith, c.in-Some.ensures.met.0), omega (arith, c.if-least-count.false), held-step D c.args.held.now _ _ V c.in-Some.ensures.met.0 c.in-Some.ensures.met.1 n)

pub returns : goal.returns
returns c =
    let D = deck_of c.args.facts.now.deck.bytes.now in
    let V = held-skip D c.args.held.now _ _ c.loop-class.invariant.2 c.args.facts.now.marked c.in_default.ensures.passed in
    held-few D c.args.held.now _ _ V c.args.least (omega arith) c.loop-class.invariant.1
