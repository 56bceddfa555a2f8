use mathlib.Core.Path.{◌∙◌}
use Rattle.model.proofs.RuleLaws.{rule-read, rule-read-at, chain-rule, transitive-rule, no-rule}
use Rattle.model.proofs.rules.rule_at.Goals as goal

pub returns-in-5 : goal.returns-in-5
returns-in-5 c =
    let r = c.axiom_at-record.result in
    rule-read-at c.axiom_at-record.ensures 5 c.in-5.is (c.chain_rule.ensures ∙ chain-rule c.args.deck.now.bytes.now r.first r.second r.third)

pub returns-in-11 : goal.returns-in-11
returns-in-11 c =
    let r = c.axiom_at-record.result in
    rule-read-at c.axiom_at-record.ensures 11 c.in-11.is (c.link_rule.ensures ∙ transitive-rule c.args.deck.now.bytes.now r.first r.second r.third)

pub returns-in_default : goal.returns-in_default
returns-in_default c =
    let r = c.axiom_at-record.result in
    rule-read c.axiom_at-record.ensures (no-rule c.args.deck.now.bytes.now r.first r.second r.third r.tag c.axiom_at-record.ensures.known c.in_default.in_default-own.rest.0.1 c.in_default.in_default-own.rest.1)
