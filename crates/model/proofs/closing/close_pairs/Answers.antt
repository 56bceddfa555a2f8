use native.Mathlib.Omega.{arith}
use Rattle.std.proofs.lemmas.Result.{err_from_is_err_and}
use Rattle.model.proofs.CloseLaws.{from-stuck, linked-fits}
use Rattle.model.proofs.EdgeSteps.{pushed-is}
use Rattle.model.proofs.EndsLaws.{pair-step, pair-closes}
use Rattle.model.proofs.GoingLaws.{going_start, going_done, going-stop, going_next, going-past, going-hit, going-below}
use Rattle.model.proofs.KeyLaws.{rule-walk, fits-ends}
use Rattle.model.proofs.SweepLaws.{indexed-after, ready-room}
use Rattle.model.proofs.closing.close_pairs.Goals as goal

pub loop-k-init : goal.loop-k-init
loop-k-init c =
    record { going = going_start _ _ _ c.requires.closes.space; closes = c.requires.closes; indexed = c.requires.indexed }

pub invariant_of-pairs : goal.invariant_of-pairs
invariant_of-pairs c =
    let R = c.requires.closes in
    let L = c.loop-k.invariant.going.on.built.left in
    record { within = L.grown; role_bound = c.requires.rule_fits.first; ends_fit = rw L.old (fits-ends _ _ R.few _ R.fits) }

pub returns-in_default : goal.returns-in_default
returns-in_default c =
    let R = c.requires.closes in
    pushed-is (going_done _ _ _ c.loop-k.invariant.going c.next.ensures c.in_default.is) (rule-walk _ _ _ R.few _ R.fits _ _ _)

pub overflow_cast-x : goal.overflow_cast-x
overflow_cast-x c =
    let q = going-below _ _ _ c.loop-k.invariant.going c.next.ensures c.in-Some.is in
    omega (arith, q, c.requires.closes.few)

pub mark_ends-requires-clause-x_lt_elements : goal.mark_ends-requires-clause-x_lt_elements
mark_ends-requires-clause-x_lt_elements c =
    (linked-fits _ _ _ c.requires.closes.fits _ _ _ (going-hit _ _ _ c.loop-k.invariant.going c.next.ensures c.in-Some.is)).1

pub mark_ends-requires-in-loop-k-clause-x_lt_elements : goal.mark_ends-requires-in-loop-k-clause-x_lt_elements
mark_ends-requires-in-loop-k-clause-x_lt_elements c =
    (linked-fits _ _ _ c.requires.closes.fits _ _ _ (going-hit _ _ _ c.loop-k.invariant.going c.next.ensures c.in-Some.is)).0

pub returns-in_err-add_ends : goal.returns-in_err-add_ends
returns-in_err-add_ends c =
    let R = c.requires.closes in
    let G = c.loop-k.invariant.going in
    let q = err_from_is_err_and c.from_residual.result c.from_residual.ensures.1 in
    let Q = pair-step R G.on.built c.args.rule.now c.requires.rule_fits c.in-Some.k c.mark_ends.ensures c.mark_ends-in-loop-k.ensures c.in_err-add_ends.ensures in
    rw q.1 (pushed-is (going-stop _ _ _ G c.next.ensures c.in-Some.is Q (λ i u e. from-stuck _ _ _ _ _ _ u e)) (rule-walk _ _ _ R.few _ R.fits _ _ _))

pub overflow_add-after : goal.overflow_add-after
overflow_add-after c =
    let q = going-below _ _ _ c.loop-k.invariant.going c.next.ensures c.in-Some.is in
    omega (arith, q, c.requires.closes.few)

pub refresh-requires-clause-closes : goal.refresh-requires-clause-closes
refresh-requires-clause-closes c =
    let R = c.requires.closes in
    let w = c.loop-k.invariant in
    let G = w.going in
    let F = c.requires.rule_fits in
    let k = c.in-Some.k in
    let h = (linked-fits _ _ _ R.fits _ _ _ (going-hit _ _ _ G c.next.ensures c.in-Some.is)).0 in
    pair-closes R w.closes G.on.built c.args.rule.now F k h (pair-step R G.on.built c.args.rule.now F k c.mark_ends.ensures c.mark_ends-in-loop-k.ensures c.in_ok-add_ends.ensures)

pub refresh-requires-clause-indexed : goal.refresh-requires-clause-indexed
refresh-requires-clause-indexed c =
    let w = c.loop-k.invariant in
    indexed-after (ready-room w.closes) _ w.indexed c.in_ok-add_ends.ensures

pub loop-k-smaller : goal.loop-k-smaller
loop-k-smaller c =
    let G = c.loop-k.invariant.going in
    omega (arith, going-below _ _ _ G c.next.ensures c.in-Some.is, going-past _ _ _ G c.next.ensures c.in-Some.is)

pub loop-k-preserved : goal.loop-k-preserved
loop-k-preserved c =
    let R = c.requires.closes in
    let w = c.loop-k.invariant in
    let G = w.going in
    let F = c.requires.rule_fits in
    let k = c.in-Some.k in
    let h = (linked-fits _ _ _ R.fits _ _ _ (going-hit _ _ _ G c.next.ensures c.in-Some.is)).0 in
    let Q = pair-step R G.on.built c.args.rule.now F k c.mark_ends.ensures c.mark_ends-in-loop-k.ensures c.in_ok-add_ends.ensures in
    record { going = going_next _ _ _ G c.next.ensures c.in-Some.is Q; closes = pair-closes R w.closes G.on.built c.args.rule.now F k h Q; indexed = c.refresh.ensures }
