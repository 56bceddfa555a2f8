use mathlib.Core.Path.{sym, ◌∙◌}
use native.Mathlib.Omega.{arith}
use Rattle.deck.specs.Reads.{list_of}
use Rattle.deck.proofs.TableLaws.{list_length}
use Rattle.atoms.specs.Occurrences.{entry_at}
use Rattle.atoms.proofs.OccurrenceLaws.{sum-end, sum_step}
use Rattle.atoms.proofs.occurrences.sum_entries.Goals as goal

pub loop-i-preserved : goal.loop-i-preserved
loop-i-preserved c =
    let l = c.args.list in
    let w = c.loop-i in
    (omega (arith, c.saturating_add-sum.ensures), w.invariant.1 ∙ sum_step (entry_at c.args.table.now) (list_of c.args.deck.now.bytes.now l) w.i w.sum (omega (arith, list_length c.args.deck.now.bytes.now l.start l.count)) (rw c.operand-o.ensures.is at c.saturating_add-sum.ensures))

pub returns : goal.returns
returns c =
    let l = c.args.list in
    let w = c.loop-i in
    sum-end (entry_at c.args.table.now) (list_of c.args.deck.now.bytes.now l) w.i w.sum (omega (arith, list_length c.args.deck.now.bytes.now l.start l.count)) w.invariant.0 ∙ sym w.invariant.1
