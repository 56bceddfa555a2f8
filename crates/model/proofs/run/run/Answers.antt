use mathlib.Core.Path.{refl, ap}
use Rattle.std.specs.Prelude.{Ok}
use native.Mathlib.Omega.{arith}
use Rattle.deck.proofs.AnswerLaws.{handed_on}
use Rattle.model.specs.declared.outcome.Outcome.{Outcome}
use Rattle.model.proofs.RunLaws.{passed, run-refused, run-done, run_fits, trusted-as}
use Rattle.model.proofs.run.run.Goals as goal

pub returns-in_err-task : goal.returns-in_err-task
returns-in_err-task c =
    let e = run-refused _ _ _ _ _ _ _ _ (c.in_err-task.ensures.refused _ refl) in
    rw (handed_on _ _ c.from_residual.ensures.1) (record { is = e; trusted = trusted-as _ _ _ _ _ _ _ e })

pub build-t-requires-clause-labels_len : goal.build-t-requires-clause-labels_len
build-t-requires-clause-labels_len c =
    let R = c.in_ok-task.ensures.read in
    rw (R.0, R.1) (passed _ _ _ _ _ _ c.in_ok-task.ensures.passed).room.rows

pub build-t-requires-clause-edges_len : goal.build-t-requires-clause-edges_len
build-t-requires-clause-edges_len c =
    let P = passed _ _ _ _ _ _ c.in_ok-task.ensures.passed in
    rw c.in_ok-task.ensures.read.1 (omega (arith, P.room.links))

pub invariant_of-lent : goal.invariant_of-lent
invariant_of-lent c =
    let R = c.in_ok-task.ensures.read in
    record { fits = rw R.0 (run_fits _ _ _ _ _ _ c.args.verdicts.now (rw (R.0, R.1, R.2) at c.build-t.ensures) (passed _ _ _ _ _ _ c.in_ok-task.ensures.passed)) }

pub judge-requires : goal.judge-requires
judge-requires c =
    rw c.in_ok-task.ensures.read.0 (passed _ _ _ _ _ _ c.in_ok-task.ensures.passed).room.words

pub returns : goal.returns
returns c =
    let R = c.in_ok-task.ensures.read in
    let t = c.build-t.result in
    let e = run-done _ _ _ _ _ _ _ (rw (R.0, R.1, R.2) at c.build-t.ensures) c.in_ok-task.ensures.passed (ap (λ (o : Outcome). Ok (o, t)) (rw R.0 at c.judge.ensures.outcome)) (rw R.0 at c.judge.ensures.words) in
    record { is = e; trusted = trusted-as _ _ _ _ _ _ _ e }
