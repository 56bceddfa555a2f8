use mathlib.Core.Path.{refl}
use Rattle.deck.specs.Content.{axiom_of, make_axiom}
use Rattle.eval.specs.Verdict.{verdict}
use Rattle.eval.specs.InLent.{structure}
use Rattle.eval.proofs.AxiomLaws.{verdict-at, only-seven}
use Rattle.eval.proofs.lent.Judging.check_role_axiom.Goals as goal

pub returns-in-4-clause-is : goal.returns-in-4-clause-is
unfolding axiom_of make_axiom
returns-in-4-clause-is c =
    let s = c.args.self.now.lent.deck.bytes.now in
    let r = c.args.«record» in
    let S = structure c.args.self.now.lent in verdict-at s r 4 c.in-4.is S c.check_sub_property.ensures.is

pub returns-in-5-clause-is : goal.returns-in-5-clause-is
unfolding axiom_of make_axiom
returns-in-5-clause-is c =
    let s = c.args.self.now.lent.deck.bytes.now in
    let r = c.args.«record» in
    let S = structure c.args.self.now.lent in verdict-at s r 5 c.in-5.is S c.check_chain.ensures

pub returns-in-6-clause-is : goal.returns-in-6-clause-is
unfolding axiom_of make_axiom
returns-in-6-clause-is c =
    let s = c.args.self.now.lent.deck.bytes.now in
    let r = c.args.«record» in
    let S = structure c.args.self.now.lent in verdict-at s r 6 c.in-6.is S c.check_equivalent_properties.ensures.is

pub returns-in-8-clause-is : goal.returns-in-8-clause-is
unfolding axiom_of make_axiom
returns-in-8-clause-is c =
    let s = c.args.self.now.lent.deck.bytes.now in
    let r = c.args.«record» in
    let S = structure c.args.self.now.lent in verdict-at s r 8 c.in-8.is S c.check_inverse_properties.ensures

pub returns-in-9-clause-is : goal.returns-in-9-clause-is
unfolding axiom_of make_axiom verdict
returns-in-9-clause-is c =
    let s = c.args.self.now.lent.deck.bytes.now in
    let r = c.args.«record» in
    let S = structure c.args.self.now.lent in verdict-at s r 9 c.in-9.is S c.check_ends.ensures.is

pub returns-in-10-clause-is : goal.returns-in-10-clause-is
unfolding axiom_of make_axiom verdict
returns-in-10-clause-is c =
    let s = c.args.self.now.lent.deck.bytes.now in
    let r = c.args.«record» in
    let S = structure c.args.self.now.lent in verdict-at s r 10 c.in-10.is S c.check_ends-in-10.ensures.is

pub returns-in-11-clause-is : goal.returns-in-11-clause-is
unfolding axiom_of make_axiom
returns-in-11-clause-is c =
    let s = c.args.self.now.lent.deck.bytes.now in
    let r = c.args.«record» in
    let S = structure c.args.self.now.lent in verdict-at s r 11 c.in-11.is S c.check_transitive.ensures

pub returns-in-12-clause-is : goal.returns-in-12-clause-is
unfolding axiom_of make_axiom
returns-in-12-clause-is c =
    let s = c.args.self.now.lent.deck.bytes.now in
    let r = c.args.«record» in
    let S = structure c.args.self.now.lent in verdict-at s r 12 c.in-12.is S c.check_symmetric.ensures

pub returns-in_default-clause-is : goal.returns-in_default-clause-is
unfolding axiom_of make_axiom verdict
returns-in_default-clause-is c =
    let s = c.args.self.now.lent.deck.bytes.now in
    let r = c.args.«record» in
    let S = structure c.args.self.now.lent in
    let t = only-seven r.tag c.requires.bound c.requires.record_bound c.in_default.in_default-own.rest.0.0.0.0.0.0.0.1 c.in_default.in_default-own.rest.0.0.0.0.0.0.1 c.in_default.in_default-own.rest.0.0.0.0.0.1 c.in_default.in_default-own.rest.0.0.0.0.1 c.in_default.in_default-own.rest.0.0.0.1 c.in_default.in_default-own.rest.0.0.1 c.in_default.in_default-own.rest.0.1 c.in_default.in_default-own.rest.1 in verdict-at s r 7 t S refl
