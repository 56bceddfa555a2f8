use Rattle.std.proofs.Common.{rules, ◌∙◌}
use Rattle.std.proofs.lemmas.Result.{err_from_is_err_and}
use Rattle.build.proofs.TailLaws.{tail_none}
use Rattle.build.proofs.ExistsLaws.{body-leaves}
use Rattle.build.proofs.building.Build.reach_body.Goals as goal

pub reach-ended-requires-clause-tail : goal.reach-ended-requires-clause-tail
reach-ended-requires-clause-tail c =
    tail_none _ _ _

pub returns-in_err-ended-clause-holds : goal.returns-in_err-ended-clause-holds
returns-in_err-ended-clause-holds c =
    let P = c.requires.ready in
    let b = c.body_label_known-self in
    let q = err_from_is_err_and c.from_residual.result c.from_residual.ensures.1 in
    let X = body-leaves P _ _ b.ensures (b.auto.label ∙ P.label-wide) b.auto.log _ c.reach-ended.ensures.holds.built in
    record { same = search rules; built = rw q.1 (rw c.in_err-ended.was at X) }

pub returns-clause-holds : goal.returns-clause-holds
returns-clause-holds c =
    let P = c.requires.ready in
    let b = c.body_label_known-self in
    let X = body-leaves P _ _ b.ensures (b.auto.label ∙ P.label-wide) b.auto.log _ c.reach-ended.ensures.holds.built in
    record { same = search rules; built = rw c.in_ok-ended.was at X }
