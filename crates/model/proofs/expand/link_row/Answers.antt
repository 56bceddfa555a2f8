use native.Mathlib.Omega.{arith}
use mathlib.Core.Path.{refl}
use Rattle.std.proofs.lemmas.Result.{err_from_is_err_and}
use Rattle.build.specs.Seed.{row_label}
use Rattle.model.proofs.RecallLaws.{recall-link, recalled-reach, reach-rows, place-small}
use Rattle.model.proofs.expand.link_row.Goals as goal

pub returns-in-Some-clause-holds : goal.returns-in-Some-clause-holds
returns-in-Some-clause-holds c =
    recall-link c.requires.ready c.requires.recalled _ _ c.args.k.0 _ c.in-Some.ensures c.link.ensures

pub returns-in_err-ended-clause-holds : goal.returns-in_err-ended-clause-holds
unfolding row_label
returns-in_err-ended-clause-holds c =
    let X = rw c.in_err-ended.was at c.reach-ended.ensures.holds in
    let S = X.same in
    let q = err_from_is_err_and c.from_residual.result c.from_residual.ensures.1 in
    rw q.1 (record { same = record { plan = S.plan; label = S.label; labels = S.labels; edges = S.edges; log = S.log }; built = rw c.load_row.ensures at X.built })

pub overflow_add-known : goal.overflow_add-known
overflow_add-known c =
    omega (arith, place-small c.requires.ready _ c.reach-ended.ensures.place)

pub returns-clause-holds : goal.returns-clause-holds
unfolding row_label
returns-clause-holds c =
    let X = rw c.in_ok-ended.was at c.reach-ended.ensures.holds in
    let S = X.same in
    record { same = record { plan = S.plan; label = S.label; labels = S.labels; edges = S.edges; log = S.log }; built = rw c.load_row.ensures at X.built }

pub returns-clause-kept : goal.returns-clause-kept
unfolding row_label
returns-clause-kept c =
    let X = c.reach-ended.ensures in
    recalled-reach c.requires.recalled _ _ c.requires.k_bound (rw c.load_row.ensures at X.place) (reach-rows (rw c.load_row.ensures at X.holds.built) _ _ _ refl) refl
