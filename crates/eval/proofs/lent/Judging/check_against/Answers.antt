use mathlib.Core.Path.{sym, ap, ◌∙◌}
use mathlib.Core.List.{map}
use native.Mathlib.Omega.{arith}
use lib.ListN.{length-map}
use Rattle.deck.specs.Deck.{Role, role_of}
use Rattle.deck.specs.Reads.{list_of}
use Rattle.deck.proofs.TableLaws.{list_length}
use Rattle.eval.specs.Verdict.{across_by}
use Rattle.eval.specs.InLent.{deck_in, structure}
use Rattle.eval.proofs.Walks.{turn_end, turn_step, turn-stop}
use Rattle.eval.proofs.RoleLaws.{word_at, holds-is, not-holds}
use Rattle.eval.proofs.lent.Judging.check_against.Goals as goal

pub returns-then-not-holds-clause-is : goal.returns-then-not-holds-clause-is
returns-then-not-holds-clause-is c =
    let l = c.args.list in
    let ws = list_of c.args.self.now.lent.deck.bytes.now l in
    let h = list_length c.args.self.now.lent.deck.bytes.now l.start l.count in
    let m = length-map ws role_of in
    let w = c.loop-i in
    let D = deck_in c.args.self.now.lent in
    let S = structure c.args.self.now.lent in
    let g = across_by c.args.turned D S (role_of c.args.a.0) in
    let v = rw c.item.ensures at c.check_across-v.ensures.is ∙ ap g (sym (word_at ws w.i)) in v ∙ turn-stop g (Role.Named 0) (map role_of ws) w.i (omega (arith, h, m)) (λ e. not-holds _ (sym c.holds.ensures ∙ c.if-not-holds.true) (v ∙ e)) ∙ sym w.invariant.0

pub loop-i-preserved : goal.loop-i-preserved
loop-i-preserved c =
    let l = c.args.list in
    let ws = list_of c.args.self.now.lent.deck.bytes.now l in
    let h = list_length c.args.self.now.lent.deck.bytes.now l.start l.count in
    let m = length-map ws role_of in
    let w = c.loop-i in
    let D = deck_in c.args.self.now.lent in
    let S = structure c.args.self.now.lent in
    let g = across_by c.args.turned D S (role_of c.args.a.0) in
    let v = rw c.item.ensures at c.check_across-v.ensures.is ∙ ap g (sym (word_at ws w.i)) in
    (w.invariant.0 ∙ turn_step g (Role.Named 0) (map role_of ws) w.i (omega (arith, h, m)) (sym v ∙ holds-is _ (sym c.holds.ensures ∙ c.if-not-holds.false)), c.check_across-v.ensures.kept)

pub returns-clause-is : goal.returns-clause-is
returns-clause-is c =
    let l = c.args.list in
    let ws = list_of c.args.self.now.lent.deck.bytes.now l in
    let h = list_length c.args.self.now.lent.deck.bytes.now l.start l.count in
    let m = length-map ws role_of in turn_end _ (Role.Named 0) (map role_of ws) c.loop-i.i (omega (arith, h, m, c.loop-i.auto)) ∙ sym c.loop-i.invariant.0
