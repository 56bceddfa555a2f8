use Rattle.std.proofs.Common.{refl, sym, ◌∙◌, ◌≤◌, length, arith}
use Rattle.std.proofs.lemmas.Result.{err_from_is_err_and}
use borrow.Enum.Refused.{opened}
use Rattle.build.proofs.BuildingLaws.{same-refl, same-trans, holds-noted, holds-is, ready-at, walking-start, walking-ready, walking-skip, walking-next, walking-stop, walking-done}
use Rattle.build.proofs.AgainLaws.{known-in, gives-now, right-reached, right-passed, more-reasons, right-kept}
use Rattle.build.proofs.IdleLaws.{form-idle}
use Rattle.build.proofs.ExistsLaws.{work-stuck, and-leaves, inverse-leaves, some-stops, some-goes, other-leaves, descending-start, descending-next, descending-ends}
use Rattle.build.proofs.BuildLaws.{prepared-after}
use Rattle.build.specs.Building.{buffers, model_by}
use Rattle.atoms.proofs.FloorLaws.{fits_read}
use Rattle.atoms.proofs.WalkLaws.{operand}
use Rattle.deck.proofs.TableLaws.{list_length}
use Rattle.deck.specs.Reads.{list_of}
use lib.ListN.{drop_of_length-le}
use Rattle.build.proofs.building.Build.+work_concept_work_operands.Goals as goal

pub work_concept-loop-l-init : goal.work_concept-loop-l-init
work_concept-loop-l-init t c =
    (same-refl, refl, descending-start c.requires.ready _ _, c.requires.right)

pub work_concept-work_operands-requires : goal.work_concept-work_operands-requires
work_concept-work_operands-requires t c =
    let G = c.loop-l.invariant in
    let A = c.requires.ready.accepted in
    (omega (arith, G.2.down), (ready-at c.requires.ready G.0 G.2.built, (rw G.0.plan (omega (arith, G.2.down, c.requires.concept_bound)), (rw G.0.plan (fits_read _ A c.loop-l.c.0 c.concept_at-expr.ensures _ c.in-And.is), rw G.0.plan G.3))))

pub work_concept-returns-in-And-clause-holds : goal.work_concept-returns-in-And-clause-holds
work_concept-returns-in-And-clause-holds t c =
    let G = c.loop-l.invariant in
    let A = c.requires.ready.accepted in
    let X = c.work_operands.ensures.holds in
    record { same = same-trans G.0 X.same; built = descending-ends G.2 (and-leaves _ A c.loop-l.c.0 c.concept_at-expr.ensures _ _ _ _ _ _ c.in-And.is (rw G.0.plan at X.built)) }

pub work_concept-returns-then-is_inverse-clause-holds : goal.work_concept-returns-then-is_inverse-clause-holds
work_concept-returns-then-is_inverse-clause-holds t c =
    let G = c.loop-l.invariant in
    let P = prepared-after c.requires.ready G.2.built refl in
    record { same = G.0; built = descending-ends G.2 (inverse-leaves _ P.accepted c.loop-l.c.0 c.concept_at-expr.ensures _ _ _ _ _ _ _ c.in-Some.is (sym c.is_inverse.ensures ∙ c.if-is_inverse.true) P) }

pub work_concept-reach_body-requires-clause-ready : goal.work_concept-reach_body-requires-clause-ready
work_concept-reach_body-requires-clause-ready t c =
    ready-at c.requires.ready c.loop-l.invariant.0 c.loop-l.invariant.2.built

pub work_concept-returns-in_err-e-in-Some-clause-holds : goal.work_concept-returns-in_err-e-in-Some-clause-holds
work_concept-returns-in_err-e-in-Some-clause-holds t c =
    let G = c.loop-l.invariant in
    let A = c.requires.ready.accepted in
    let X = c.in_err-e-in-Some.ensures.holds in
    let q = err_from_is_err_and c.from_residual.result c.from_residual.ensures.1 in
    let Y = some-stops _ A c.loop-l.c.0 c.concept_at-expr.ensures _ _ _ _ _ _ _ c.in-Some.is (sym c.is_inverse.ensures ∙ c.if-is_inverse.false) c.role_id-r.ensures (rw G.0.plan at X.built) refl in
    rw q.1 (record { same = same-trans G.0 X.same; built = descending-ends G.2 Y })

pub work_concept-loop-l-preserved : goal.work_concept-loop-l-preserved
work_concept-loop-l-preserved t c =
    let G = c.loop-l.invariant in
    let A = c.requires.ready.accepted in
    let X = c.in_ok-e-in-Some.ensures in
    let Z = rw G.0.plan at X.holds.built in
    let f = fits_read _ A c.loop-l.c.0 c.concept_at-expr.ensures _ c.in-Some.is in
    let Y = some-goes _ A c.loop-l.c.0 c.concept_at-expr.ensures _ _ _ _ _ _ _ c.in-Some.is (sym c.is_inverse.ensures ∙ c.if-is_inverse.false) c.role_id-r.ensures Z refl (rw G.0.plan at X.place) in
    (same-trans G.0 X.holds.same, G.1, descending-next G.2 Z refl f.1 Y, right-reached G.3 _ _ _ Z refl)

pub work_concept-returns-in_default : goal.work_concept-returns-in_default
work_concept-returns-in_default t c =
    let G = c.loop-l.invariant in
    let P = prepared-after c.requires.ready G.2.built refl in
    record { holds = record { same = G.0; built = descending-ends G.2 (other-leaves _ P.accepted c.loop-l.c.0 c.concept_at-expr.ensures _ _ _ _ _ (opened c.in_default.in_default-own.keys3) P) }; known = G.3 }

pub work_operands-loop-i-init : goal.work_operands-loop-i-init
work_operands-loop-i-init t c =
    (refl, walking-start _ _ c.requires.ready, c.requires.right)

pub work_operands-loop-i-preserved-then-not-goes_on : goal.work_operands-loop-i-preserved-then-not-goes_on
work_operands-loop-i-preserved-then-not-goes_on t c =
    let G = c.loop-i.invariant in
    let l = c.args.list in
    let s = c.args.self.now.plan.deck.bytes.now in
    let q = operand (list_of s l) c.loop-i.i (omega (arith, list_length s l.start l.count)) c.item.ensures in
    (G.0, walking-skip G.1 q c.requires.ready (sym (form-idle _ _ _ _ c.args.e.0 (model_by c.args.self.now c.loop-i.self) (sym c.goes_on.ensures ∙ c.if-not-goes_on.true))), G.2)

pub work_operands-note_again-self-requires : goal.work_operands-note_again-self-requires
work_operands-note_again-self-requires t c =
    let G = c.loop-i.invariant in
    (known-in c.args.self.now c.loop-i.self (walking-ready G.1 c.requires.ready) G.2 c.in-Some.ensures).standing.since

pub work_operands-loop-i-preserved-in-Some : goal.work_operands-loop-i-preserved-in-Some
work_operands-loop-i-preserved-in-Some t c =
    let G = c.loop-i.invariant in
    let Z = G.1.same.plan in
    let l = c.args.list in
    let s = c.args.self.now.plan.deck.bytes.now in
    let P = walking-ready G.1 c.requires.ready in
    let q = operand (list_of s l) c.loop-i.i (omega (arith, list_length s l.start l.count)) c.item.ensures in
    let R = known-in c.args.self.now c.loop-i.self P G.2 c.in-Some.ensures in
    let e = gives-now (buffers c.loop-i.self) c.loop-i.self.tally R (c.note_again-self.ensures R.given.reasons R.standing) in
    (G.0, walking-next G.1 q (holds-is (holds-noted c.note_again-self.result P refl c.note_again-self.auto.log) (rw Z e)) refl, right-passed _ _ G.2 e)

pub work_operands-remember-requires : goal.work_operands-remember-requires
work_operands-remember-requires t c =
    let G = c.loop-i.invariant in
    let Z = G.1.same.plan in
    let X = c.in_ok-work_concept.ensures in
    more-reasons (prepared-after c.requires.ready G.1.on.built refl) _ _ (rw Z at X.holds.built) refl

pub work_operands-work_concept-requires : goal.work_operands-work_concept-requires
work_operands-work_concept-requires t c =
    let G = c.loop-i.invariant in
    let Z = G.1.same.plan in
    let l = c.args.list in
    let o = c.requires.list_fits.below c.loop-i.i (omega (arith, list_length c.args.self.now.plan.deck.bytes.now l.start l.count)) in
    (omega (arith, o, c.item.ensures), (walking-ready G.1 c.requires.ready, (rw Z (omega (arith, o, c.requires.owner_bound, c.item.ensures)), rw Z G.2)))

pub work_operands-returns-in_err-work_concept-clause-holds : goal.work_operands-returns-in_err-work_concept-clause-holds
work_operands-returns-in_err-work_concept-clause-holds t c =
    let l = c.args.list in
    let s = c.args.self.now.plan.deck.bytes.now in
    let z = err_from_is_err_and c.from_residual.result c.from_residual.ensures.1 in
    let q = operand (list_of s l) c.loop-i.i (omega (arith, list_length s l.start l.count)) c.item.ensures in
    rw z.1 (walking-stop c.loop-i.invariant.1 q c.in_err-work_concept.ensures.holds (λ o m w. work-stuck _ _ _ o _ m w) refl)

pub work_operands-loop-i-preserved : goal.work_operands-loop-i-preserved
work_operands-loop-i-preserved t c =
    let G = c.loop-i.invariant in
    let Z = G.1.same.plan in
    let l = c.args.list in
    let s = c.args.self.now.plan.deck.bytes.now in
    let X = c.in_ok-work_concept.ensures in
    let q = operand (list_of s l) c.loop-i.i (omega (arith, list_length s l.start l.count)) c.item.ensures in
    (c.remember.auto.memo ∙ c.work_concept.auto.memo ∙ G.0, walking-next G.1 q X.holds refl, right-kept (prepared-after c.requires.ready G.1.on.built refl) _ _ (rw Z at X.holds.built) refl c.remember.ensures.total (rw Z at X.known) c.remember.ensures.kept)

pub work_operands-returns-clause-holds : goal.work_operands-returns-clause-holds
work_operands-returns-clause-holds t c =
    let l = c.args.list in
    let s = c.args.self.now.plan.deck.bytes.now in
    let h : length (list_of s l) ≤ c.loop-i.i = omega (arith, c.loop-i.auto, list_length s l.start l.count) in
    walking-done c.loop-i.invariant.1 (drop_of_length-le (list_of s l) h)
