use mathlib.Core.Path.{refl}
use Rattle.deck.specs.Content.{deck_of}
use Rattle.deck.specs.Reads.{fact_of}
use Rattle.atoms.specs.Reasons.{run_delta, label_not_closed}
use Rattle.build.specs.Model.{reach}
use Rattle.build.specs.Seed.{row_label}
use Rattle.build.proofs.BuildingLaws.{holds-is}
use Rattle.model.proofs.AimLaws.{holds-then, holds-note}
use Rattle.model.proofs.ExpandLaws.{fact-links}
use Rattle.model.proofs.expand.work_fact.Goals as goal

pub returns-in-Row-clause-holds : goal.returns-in-Row-clause-holds
returns-in-Row-clause-holds c =
    holds-is c.link_row.ensures.holds (fact-links _ _ _ _ _ (fact_of c.fact_at-record.result) _ refl c.fact_at-record.ensures.is c.in-Row.ensures.value)

pub returns-in-Delta-clause-holds : goal.returns-in-Delta-clause-holds
returns-in-Delta-clause-holds c =
    let n = c.note.ensures in
    let f = c.fact_at-record.result in
    let N = holds-note {a = c.args.b.now} c.requires.ready (run_delta f.to.0) n.same (rw c.run_delta.ensures at n.log) n.tally n.rest in
    holds-is (holds-then (λ p m. reach p.bounds f.role.0 c.args.e.0 (row_label (deck_of p.deck.bytes.now) p.floor.now c.in-Delta.k.0) m) N c.link_row-in-Delta.ensures.holds)
    (fact-links _ _ _ _ _ (fact_of f) _ refl c.fact_at-record.ensures.is c.in-Delta.ensures.value)

pub returns-in-NotClosed-clause-holds : goal.returns-in-NotClosed-clause-holds
returns-in-NotClosed-clause-holds c =
    let n = c.note-in-NotClosed.ensures in
    let f = c.fact_at-record.result in
    holds-is (holds-note {a = c.args.b.now} c.requires.ready (label_not_closed f.to.0 f.role.0) n.same (rw c.label_not_closed.ensures at n.log) n.tally n.rest)
    (fact-links _ _ _ _ _ (fact_of f) _ refl c.fact_at-record.ensures.is c.in-NotClosed.ensures.value)
