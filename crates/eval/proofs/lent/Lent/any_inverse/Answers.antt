use mathlib.Core.Path.{sym, ap, ◌∙◌}
use mathlib.Core.List.{map}
use native.Mathlib.Omega.{arith}
use lib.ListN.{get_or, length-map}
use Rattle.deck.specs.Deck.{Role, role_of}
use Rattle.deck.specs.Reads.{list_of}
use Rattle.deck.proofs.TableLaws.{list_length}
use Rattle.eval.specs.Structure.{inverse}
use Rattle.eval.proofs.EdgeWalks.{any-hit, any_step, any-end}
use Rattle.eval.proofs.RoleLaws.{word_at, inverse-word}
use Rattle.eval.proofs.lent.Lent.any_inverse.Goals as goal

pub returns-then-is_inverse : goal.returns-then-is_inverse
returns-then-is_inverse c =
    let l = c.args.list in
    let ws = list_of c.args.self.now.deck.bytes.now l in
    let h = list_length c.args.self.now.deck.bytes.now l.start l.count in
    let m = length-map ws role_of in
    let w = c.loop-i in
    sym (w.invariant ∙ any-hit (Role.Named 0) inverse (map role_of ws) w.i (omega (arith, h, m)) (ap inverse (word_at ws w.i) ∙ inverse-word (get_or ws w.i 0) ∙ rw c.item.ensures at (sym c.is_inverse.ensures ∙ c.if-is_inverse.true)))

pub loop-i-preserved : goal.loop-i-preserved
loop-i-preserved c =
    let l = c.args.list in
    let ws = list_of c.args.self.now.deck.bytes.now l in
    let h = list_length c.args.self.now.deck.bytes.now l.start l.count in
    let m = length-map ws role_of in
    let w = c.loop-i in
    (w.invariant ∙ any_step (Role.Named 0) inverse (map role_of ws) w.i (omega (arith, h, m)) (ap inverse (word_at ws w.i) ∙ inverse-word (get_or ws w.i 0) ∙ rw c.item.ensures at (sym c.is_inverse.ensures ∙ c.if-is_inverse.false)))

pub returns : goal.returns
returns c =
    let l = c.args.list in
    let ws = list_of c.args.self.now.deck.bytes.now l in
    let h = list_length c.args.self.now.deck.bytes.now l.start l.count in
    let m = length-map ws role_of in
    sym (c.loop-i.invariant ∙ any-end (Role.Named 0) inverse (map role_of ws) c.loop-i.i (omega (arith, h, m)))
