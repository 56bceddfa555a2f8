use native.Mathlib.Omega.{arith}
use Rattle.eval.proofs.AxiomLaws.{answer, unhandled, declaration}
use Rattle.eval.proofs.lent.Judging.check_axiom.Goals as goal

pub returns-in-0-to-3-clause-justified : goal.returns-in-0-to-3-clause-justified
returns-in-0-to-3-clause-justified c =
    let a = answer _ _ _ _ c.args.self.now.lent.fits c.args.axiom c.axiom_at-record.ensures c.check_class_axiom.ensures.is in a.1

pub returns-in-4-to-12-clause-justified : goal.returns-in-4-to-12-clause-justified
returns-in-4-to-12-clause-justified c =
    let a = answer _ _ _ _ c.args.self.now.lent.fits c.args.axiom c.axiom_at-record.ensures c.check_role_axiom.ensures.is in a.1

pub returns-in-13-to-17 : goal.returns-in-13-to-17
returns-in-13-to-17 c =
    let r = c.axiom_at-record.result in
    let a = answer _ _ _ _ c.args.self.now.lent.fits c.args.axiom c.axiom_at-record.ensures (unhandled _ _ c.args.self.now.lent.deck.bytes.now r.first r.second r.third r.tag (omega arith) (omega arith)) in record { is = a.0; justified = a.1; kept = c.requires.remembered }

pub returns-in-18-to-22 : goal.returns-in-18-to-22
returns-in-18-to-22 c =
    let r = c.axiom_at-record.result in
    let a = answer _ _ _ _ c.args.self.now.lent.fits c.args.axiom c.axiom_at-record.ensures (unhandled _ _ c.args.self.now.lent.deck.bytes.now r.first r.second r.third r.tag (omega arith) (omega arith)) in record { is = a.0; justified = a.1; kept = c.requires.remembered }

pub returns-in-23-to-25 : goal.returns-in-23-to-25
returns-in-23-to-25 c =
    let r = c.axiom_at-record.result in
    let a = answer _ _ _ _ c.args.self.now.lent.fits c.args.axiom c.axiom_at-record.ensures (declaration _ _ c.args.self.now.lent.deck.bytes.now r.first r.second r.third r.tag (omega arith) (omega arith)) in record { is = a.0; justified = a.1; kept = c.requires.remembered }
