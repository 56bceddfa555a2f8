use native.Mathlib.Omega.{arith}
use Rattle.std.proofs.lemmas.Result.{err_from_is_err_and}
use Rattle.model.proofs.EdgeSteps.{pushed-room}
use Rattle.model.proofs.EndsLaws.{adding-start, adding-done, adding-stop, adding-next}
use Rattle.model.proofs.closing.add_ends.Goals as goal

pub loop-z-init : goal.loop-z-init
loop-z-init c =
    adding-start _ _ _ c.requires.room

pub add_edge-requires : goal.add_edge-requires
add_edge-requires c =
    pushed-room c.loop-z.invariant.on.built c.requires.room

pub returns-in_err-add_edge : goal.returns-in_err-add_edge
returns-in_err-add_edge c =
    let G = c.loop-z.invariant in
    let q = err_from_is_err_and c.from_residual.result c.from_residual.ensures.1 in
    rw q.1 (adding-stop _ _ _ G c.in-Some.ensures c.in_err-add_edge.ensures)

pub overflow_add-from : goal.overflow_add-from
overflow_add-from c =
    omega (arith, c.in-Some.ensures.some.0, c.requires.elements_bound)

pub loop-z-smaller : goal.loop-z-smaller
loop-z-smaller c =
    let N = c.in-Some.ensures.some in
    omega (arith, N.0, (N.1.got N.0).0)

pub loop-z-preserved : goal.loop-z-preserved
loop-z-preserved c =
    let G = c.loop-z.invariant in
    adding-next _ _ _ G c.in-Some.ensures c.in_ok-add_edge.ensures

pub returns : goal.returns
returns c =
    adding-done _ _ _ c.loop-z.invariant c.in_default.ensures
