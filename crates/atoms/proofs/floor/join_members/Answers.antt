use mathlib.Core.Path.{sym, ◌∙◌}
use native.Mathlib.Omega.{arith}
use Rattle.deck.specs.Reads.{list_of}
use Rattle.deck.proofs.TableLaws.{list_length}
use Rattle.atoms.proofs.ListWalks.{taken-end, taken_step}
use Rattle.atoms.proofs.floor.join_members.Goals as goal

pub loop-i-preserved : goal.loop-i-preserved
loop-i-preserved c =
    let l = c.args.list in
    let w = c.loop-i in
    w.invariant ∙ taken_step 0 (list_of c.args.deck.now.bytes.now l) w.i _ w.label (omega (arith, list_length c.args.deck.now.bytes.now l.start l.count)) (rw c.member.ensures.is at c.join_member.ensures)

pub returns : goal.returns
returns c =
    let l = c.args.list in
    taken-end 0 (list_of c.args.deck.now.bytes.now l) c.loop-i.i _ _ (omega (arith, list_length c.args.deck.now.bytes.now l.start l.count)) ∙ sym c.loop-i.invariant
