use mathlib.Core.Path.{◌∙◌}
use native.Mathlib.Omega.{arith}
use Rattle.deck.specs.Deck.{role_of}
use Rattle.deck.specs.Reads.{list_of}
use Rattle.deck.proofs.TableLaws.{list_length}
use Rattle.model.proofs.RuleLaws.{chain-two, chain-other}
use Rattle.model.proofs.rules.chain_rule.Goals as goal

pub returns-then-list-ne2 : goal.returns-then-list-ne2
returns-then-list-ne2 c =
    let l = c.args.list in
    let h = list_length c.args.deck.now.bytes.now l.start l.count in
    chain-other (list_of c.args.deck.now.bytes.now l) (role_of c.args.v.0) (λ e. c.if-list-ne2.true (omega (arith, h, e)))

pub returns : goal.returns
returns c =
    let l = c.args.list in
    let h = list_length c.args.deck.now.bytes.now l.start l.count in
    rw (c.item.ensures, c.item-2.ensures) at c.link_rule.ensures ∙ chain-two (list_of c.args.deck.now.bytes.now l) (role_of c.args.v.0) (omega (arith, h, c.if-list-ne2.false))
