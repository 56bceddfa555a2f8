use native.Mathlib.Omega.{arith}
use Rattle.deck.proofs.TableLaws.{list_length}
use Rattle.atoms.proofs.lists.operand.Goals as goal

pub returns-clause-below : goal.returns-clause-below
returns-clause-below c =
    let l = c.args.list in
    omega (arith, c.requires.list_fits.below c.args.i (omega (arith, list_length c.args.deck.now.bytes.now l.start l.count)), c.item.ensures)
