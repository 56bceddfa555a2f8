use Prim.Native.Nat.{◌<◌, ◌≤◌}
use mathlib.Core.Path.{refl, sym}
use Rattle.std.proofs.Common.{rules}
use Rattle.std.proofs.lemmas.Result.{err_from_is_err_and}
use Rattle.build.proofs.BuildLaws.{built-tripped}
use Rattle.build.proofs.BuildingLaws.{holds-same, holds-is, ready-after}
use Rattle.model.specs.Phases.{number}
use Rattle.model.proofs.PhaseLaws.{later-one, later-two, two-trips, later-three, three-trips, later-four, holds-two, holds-three, holds-four, ready-three}
use Rattle.model.proofs.phases.later_phases.Goals as goal

pub returns-then-lt : goal.returns-then-lt
returns-then-lt c =
    let h : number c.args.last < 2 = search rules in
    holds-is (holds-same c.requires.ready) (sym (later-one _ _ _ _ refl h))

pub returns-in_err-expand : goal.returns-in_err-expand
returns-in_err-expand c =
    let z = err_from_is_err_and c.from_residual.result c.from_residual.ensures.1 in
    let h : 2 ≤ number c.args.last = search rules in
    let X = holds-two c.requires.ready c.requires.floor c.in_err-expand.ensures in
    rw z.1 (holds-is X (sym (two-trips _ _ _ _ refl h (built-tripped X.built))))

pub returns-then-lt-2 : goal.returns-then-lt-2
returns-then-lt-2 c =
    let h : 2 ≤ number c.args.last = search rules in
    let k : number c.args.last < 3 = search rules in
    holds-is (holds-two c.requires.ready c.requires.floor c.in_ok-expand.ensures) (sym (later-two _ _ _ _ refl h k))

pub expand_from_axioms-requires : goal.expand_from_axioms-requires
expand_from_axioms-requires c =
    ready-after c.requires.ready (holds-two c.requires.ready c.requires.floor c.in_ok-expand.ensures)

pub returns-in_err-expand_from_axioms : goal.returns-in_err-expand_from_axioms
returns-in_err-expand_from_axioms c =
    let f = c.from_residual-in_err-expand_from_axioms in
    let z = err_from_is_err_and f.result f.ensures.1 in
    let h : 2 ≤ number c.args.last = search rules in
    let k : 3 ≤ number c.args.last = search rules in
    let X = holds-two c.requires.ready c.requires.floor c.in_ok-expand.ensures in
    let Y = holds-three c.requires.ready c.requires.floor X c.in_err-expand_from_axioms.ensures in
    rw z.1 (holds-is Y (sym (three-trips _ _ _ _ refl h k (built-tripped X.built) (built-tripped Y.built))))

pub returns-then-lt-3 : goal.returns-then-lt-3
returns-then-lt-3 c =
    let h : 2 ≤ number c.args.last = search rules in
    let k : 3 ≤ number c.args.last = search rules in
    let l : number c.args.last < 4 = search rules in
    let X = holds-two c.requires.ready c.requires.floor c.in_ok-expand.ensures in
    holds-is (holds-three c.requires.ready c.requires.floor X c.in_ok-expand_from_axioms.ensures) (sym (later-three _ _ _ _ refl h k (built-tripped X.built) l))

pub close_chains_and_transitivity-requires : goal.close_chains_and_transitivity-requires
close_chains_and_transitivity-requires c =
    let X = holds-two c.requires.ready c.requires.floor c.in_ok-expand.ensures in
    ready-three c.requires.ready c.requires.floor X (holds-three c.requires.ready c.requires.floor X c.in_ok-expand_from_axioms.ensures) c.requires.edges_fit

pub returns : goal.returns
returns c =
    let h : 2 ≤ number c.args.last = search rules in
    let k : 3 ≤ number c.args.last = search rules in
    let l : 4 ≤ number c.args.last = search rules in
    let X = holds-two c.requires.ready c.requires.floor c.in_ok-expand.ensures in
    let Y = holds-three c.requires.ready c.requires.floor X c.in_ok-expand_from_axioms.ensures in
    holds-is (holds-four c.requires.ready c.requires.floor X Y c.close_chains_and_transitivity.ensures) (sym (later-four _ _ _ _ refl h k (built-tripped X.built) l (built-tripped Y.built)))
