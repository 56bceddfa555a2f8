use Rattle.atoms.proofs.ListWalks.{taken-end, taken_step}
use Rattle.atoms.specs.Body.{row_of_class}
use Rattle.deck.proofs.TableLaws.{list_length}
use Rattle.deck.specs.Reads.{list_of}
use Rattle.deck.specs.Content.{deck_of}
use native.Mathlib.Omega.{arith}
use mathlib.Core.Path.{sym, ◌∙◌}
use Rattle.atoms.proofs.body.join_ranges.Goals as goal

pub insert_subsumers-requires : goal.insert_subsumers-requires
insert_subsumers-requires c =
    let l = c.range_of-list.result in
    let o = c.range_of-list.ensures.fits.below c.loop-i.i (omega (arith, list_length c.args.deck.now.bytes.now l.start l.count)) in record { class_bound = omega (arith, o, c.item.ensures); label_len = omega (arith, c.loop-i.auto.label, c.requires.label_len) }

pub loop-i-preserved : goal.loop-i-preserved
loop-i-preserved c =
    let l = c.range_of-list.result in
    let w = c.loop-i in
    w.invariant ∙ taken_step 0 (list_of c.args.deck.now.bytes.now l) w.i _ w.label (omega (arith, list_length c.args.deck.now.bytes.now l.start l.count)) (rw c.item.ensures at c.insert_subsumers.ensures)

pub returns : goal.returns
returns c =
    let l = c.range_of-list.result in
    rw c.range_of-list.ensures.is at (taken-end 0 (list_of c.args.deck.now.bytes.now l) c.loop-i.i (row_of_class (deck_of c.args.deck.now.bytes.now)) _ (omega (arith, list_length c.args.deck.now.bytes.now l.start l.count)) ∙ sym c.loop-i.invariant)
