use mathlib.Core.Path.{refl}
use Rattle.std.proofs.Common.{rules}
use Rattle.model.proofs.PhaseLaws.{ready-seeded, seeded-fit, built-up}
use Rattle.model.proofs.phases.construct.Goals as goal

pub later_phases-ended-requires-clause-ready : goal.later_phases-ended-requires-clause-ready
later_phases-ended-requires-clause-ready c =
    ready-seeded c.requires.floor refl c.seed.ensures c.requires.label_len c.requires.top_bound c.requires.labels_len c.requires.room

pub later_phases-ended-requires-clause-edges_fit : goal.later_phases-ended-requires-clause-edges_fit
later_phases-ended-requires-clause-edges_fit c =
    seeded-fit c.requires.floor refl c.seed.ensures

pub returns : goal.returns
returns c =
    let n = c.note_dropped in
    let X = built-up c.requires.floor refl c.seed.ensures _ c.later_phases-ended.ensures n.new.b n.ensures.dropped n.ensures.rest.0 n.ensures.rest.1 in
    search (rules, X)
