use mathlib.Core.Path.{◌∙◌}
use native.Mathlib.Omega.{arith}
use Rattle.eval.specs.Verdict.{verdict}
use Rattle.deck.specs.Reads.{list_of}
use Rattle.deck.specs.Deck.{role_of}
use Rattle.deck.proofs.TableLaws.{list_length}
use Rattle.eval.proofs.RoleLaws.{chain-two, chain-other}
use Rattle.eval.proofs.lent.Judging.check_chain.Goals as goal

pub returns-then-list-ne2 : goal.returns-then-list-ne2
unfolding verdict
returns-then-list-ne2 c =
    let l = c.args.list in
    let h = list_length c.args.self.now.lent.deck.bytes.now l.start l.count in
    chain-other _ _ (list_of c.args.self.now.lent.deck.bytes.now l) (role_of c.args.sup.0) (λ e. c.if-list-ne2.true (omega (arith, h, e)))

pub returns : goal.returns
unfolding verdict
returns c =
    let l = c.args.list in
    let h = list_length c.args.self.now.lent.deck.bytes.now l.start l.count in
    rw (c.item.ensures, c.item-2.ensures) at c.check_links.ensures ∙ chain-two _ _ (list_of c.args.self.now.lent.deck.bytes.now l) (role_of c.args.sup.0) (omega (arith, h, c.if-list-ne2.false))
