use native.Mathlib.Omega.{arith}
use mathlib.Core.Path.{refl, sym, ap, ◌∙◌}
use Rattle.std.proofs.lemmas.Result.{err_from_is_err_and}
use Rattle.build.specs.Model.{Model}
use Rattle.build.proofs.BuildingLaws.{holds-start}
use Rattle.model.proofs.AimLaws.{recalls-on}
use Rattle.model.proofs.ApartLaws.{since-start, since-tail, since-next}
use Rattle.model.proofs.CursorLaws.{highest-resume, resume-below}
use Rattle.model.proofs.ExpandLaws.{taking-start, taking-ready, taking-done, taking-below, taking-new, taking-place, taking-less, taking-stop, taking-next}
use Rattle.model.proofs.expand.turns.Goals as goal

pub loop-e-init : goal.loop-e-init
loop-e-init c =
    (taking-start c.requires.ready refl, omega arith, refl, since-start _ _ _, c.requires.recalled)

pub insert_bit-requires : goal.insert_bit-requires
insert_bit-requires c =
    let I = c.loop-e.invariant in
    taking-place c.requires.ready I.0 _ (sym I.2 ∙ c.in-Some.ensures)

pub work_classes-requires-clause-ready : goal.work_classes-requires-clause-ready
work_classes-requires-clause-ready c =
    taking-ready c.requires.ready c.loop-e.invariant.0

pub work_classes-requires-clause-e_lt_elements : goal.work_classes-requires-clause-e_lt_elements
work_classes-requires-clause-e_lt_elements c =
    let I = c.loop-e.invariant in
    taking-below c.requires.ready I.0 _ (sym I.2 ∙ c.in-Some.ensures)

pub work_classes-requires-clause-tail : goal.work_classes-requires-clause-tail
work_classes-requires-clause-tail c =
    let I = c.loop-e.invariant in
    since-tail I.3 _ (taking-new c.requires.ready I.0 _ (sym I.2 ∙ c.in-Some.ensures)) c.turn_start-since.ensures

pub returns-in_err-work_classes : goal.returns-in_err-work_classes
returns-in_err-work_classes c =
    let I = c.loop-e.invariant in
    let z = err_from_is_err_and c.from_residual.result c.from_residual.ensures.1 in
    rw z.1 (taking-stop c.requires.ready I.0 _ (sym I.2 ∙ c.in-Some.ensures) c.in_err-work_classes.ensures.holds refl)

pub loop-e-smaller : goal.loop-e-smaller
loop-e-smaller c =
    let I = c.loop-e.invariant in
    taking-less c.requires.ready I.0 _ (sym I.2 ∙ c.in-Some.ensures) c.insert_bit.ensures

pub loop-e-preserved : goal.loop-e-preserved
loop-e-preserved c =
    let I = c.loop-e.invariant in
    let P = c.requires.ready in
    let e = c.in-Some.e.0 in
    let q = sym I.2 ∙ c.in-Some.ensures in
    let X = c.in_ok-work_classes.ensures in
    let p = taking-place P I.0 e q in (
      taking-next P I.0 e q X.holds c.insert_bit.ensures,
      resume-below e _ _ (taking-below P I.0 e q) X.holds.built.more c.resume-from.ensures,
      highest-resume _ e _ _ p q c.insert_bit.ensures c.resume-from.ensures,
      since-next I.3 _ _ _ e _ refl p c.insert_bit.ensures (ap (λ (m : Model). m.state.edges) (sym (holds-start X.holds))),
      recalls-on I.0.held.same c.work_classes.new.b X.kept,
    )

pub returns : goal.returns
returns c =
    let I = c.loop-e.invariant in
    taking-done c.requires.ready I.0 (sym I.2 ∙ c.in_default.ensures)
