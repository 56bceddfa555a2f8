use mathlib.Core.Path.{refl}
use native.Mathlib.Omega.{arith}
use Rattle.deck.specs.Content.{axiom_of, make_axiom}
use Rattle.deck.proofs.MatchLaws.{at_least}
use Rattle.eval.specs.Verdict.{verdict}
use Rattle.eval.specs.InLent.{structure}
use Rattle.eval.proofs.AxiomLaws.{verdict-at}
use Rattle.eval.proofs.lent.Judging.check_class_axiom.Goals as goal

pub returns-in-0-clause-is : goal.returns-in-0-clause-is
unfolding axiom_of make_axiom
returns-in-0-clause-is c =
    let s = c.args.self.now.lent.deck.bytes.now in
    let r = c.args.«record» in
    let S = structure c.args.self.now.lent in verdict-at s r 0 c.in-0.is S c.check_sub_class_of.ensures.is

pub returns-in-1-clause-is : goal.returns-in-1-clause-is
unfolding axiom_of make_axiom
returns-in-1-clause-is c =
    let s = c.args.self.now.lent.deck.bytes.now in
    let r = c.args.«record» in
    let S = structure c.args.self.now.lent in verdict-at s r 1 c.in-1.is S c.check_classes.ensures.is

pub returns-in-2-clause-is : goal.returns-in-2-clause-is
unfolding axiom_of make_axiom
returns-in-2-clause-is c =
    let s = c.args.self.now.lent.deck.bytes.now in
    let r = c.args.«record» in
    let S = structure c.args.self.now.lent in verdict-at s r 2 c.in-2.is S c.check_classes-in-2.ensures.is

pub returns-in_default-clause-is : goal.returns-in_default-clause-is
unfolding axiom_of make_axiom verdict
returns-in_default-clause-is c =
    let s = c.args.self.now.lent.deck.bytes.now in
    let r = c.args.«record» in
    let S = structure c.args.self.now.lent in
    let least = at_least r.tag 3 c.in_default.in_default-own.rest in verdict-at s r 3 (omega (arith, least, c.requires.record_bound)) S refl
