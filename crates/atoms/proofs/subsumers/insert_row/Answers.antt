use mathlib.Core.Path.{sym, ◌∙◌}
use native.Mathlib.Omega.{arith}
use Rattle.deck.specs.Reads.{list_of}
use Rattle.deck.proofs.TableLaws.{list_length}
use Rattle.atoms.proofs.ListWalks.{insert-end, insert-step}
use Rattle.atoms.proofs.subsumers.insert_row.Goals as goal

pub insert-requires : goal.insert-requires
insert-requires c =
    let r = c.args.row in
    let b = c.requires.list_fits.below c.loop-i.i (omega (arith, list_length c.args.deck.now.bytes.now r.start r.count)) in
    omega (arith, b, c.item.ensures, c.requires.label_len, c.loop-i.auto.label)

pub loop-i-preserved : goal.loop-i-preserved
loop-i-preserved c =
    let r = c.args.row in
    let w = c.loop-i in
    w.invariant ∙ insert-step (list_of c.args.deck.now.bytes.now r) w.i w.label (omega (arith, list_length c.args.deck.now.bytes.now r.start r.count)) (rw c.item.ensures at c.insert.ensures)

pub returns : goal.returns
returns c =
    let r = c.args.row in
    insert-end (list_of c.args.deck.now.bytes.now r) c.loop-i.i _ (omega (arith, list_length c.args.deck.now.bytes.now r.start r.count)) ∙ sym c.loop-i.invariant
