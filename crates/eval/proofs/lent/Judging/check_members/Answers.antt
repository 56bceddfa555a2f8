use mathlib.Core.Path.{sym, ◌∙◌}
use native.Mathlib.Omega.{arith}
use Rattle.deck.specs.Reads.{list_of}
use Rattle.deck.proofs.TableLaws.{list_length}
use Rattle.eval.specs.InLent.{deck_in, structure}
use Rattle.eval.proofs.EquivalentLaws.{words-none, words-stop, words-go}
use Rattle.eval.proofs.lent.Judging.check_members.Goals as goal

pub returns-then-list-eq0-clause-is : goal.returns-then-list-eq0-clause-is
returns-then-list-eq0-clause-is c =
    let l = c.args.list in
    let ws = list_of c.args.self.now.lent.deck.bytes.now l in
    let h = list_length c.args.self.now.lent.deck.bytes.now l.start l.count in
    let D = deck_in c.args.self.now.lent in
    let S = structure c.args.self.now.lent in words-none D S ws (h ∙ c.if-list-eq0.true)

pub returns-then-not-holds-clause-is : goal.returns-then-not-holds-clause-is
returns-then-not-holds-clause-is c =
    let l = c.args.list in
    let ws = list_of c.args.self.now.lent.deck.bytes.now l in
    let h = list_length c.args.self.now.lent.deck.bytes.now l.start l.count in
    let D = deck_in c.args.self.now.lent in
    let S = structure c.args.self.now.lent in words-stop D S ws (omega (arith, h, c.if-list-eq0.false)) c.requires.list_value _ c.item.ensures c.check_against-v.ensures.is (sym c.holds.ensures ∙ c.if-not-holds.true)

pub returns-clause-is : goal.returns-clause-is
returns-clause-is c =
    let l = c.args.list in
    let ws = list_of c.args.self.now.lent.deck.bytes.now l in
    let h = list_length c.args.self.now.lent.deck.bytes.now l.start l.count in
    let D = deck_in c.args.self.now.lent in
    let S = structure c.args.self.now.lent in words-go D S ws (omega (arith, h, c.if-list-eq0.false)) c.requires.list_value _ c.item.ensures c.check_against-v.ensures.is (sym c.holds.ensures ∙ c.if-not-holds.false) c.check_against.ensures.is

pub check_against-v-requires-clause-a_bound : goal.check_against-v-requires-clause-a_bound
check_against-v-requires-clause-a_bound c =
    let l = c.args.list in
    let h = list_length c.args.self.now.lent.deck.bytes.now l.start l.count in
    omega (arith, c.item.ensures, c.requires.list_fits.below 0 (omega (arith, h, c.if-list-eq0.false)))

pub check_against-requires-clause-a_bound : goal.check_against-requires-clause-a_bound
check_against-requires-clause-a_bound c =
    let l = c.args.list in
    let h = list_length c.args.self.now.lent.deck.bytes.now l.start l.count in
    omega (arith, c.item.ensures, c.requires.list_fits.below 0 (omega (arith, h, c.if-list-eq0.false)))
