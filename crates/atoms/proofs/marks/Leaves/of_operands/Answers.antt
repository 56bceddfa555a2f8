use mathlib.Core.Path.{refl}
use native.Mathlib.Omega.{arith}
use lib.ListN.{drop}
use Rattle.deck.specs.Content.{deck_of}
use Rattle.deck.specs.Reads.{list_of}
use Rattle.deck.proofs.SoundLaws.{limited}
use Rattle.atoms.proofs.LeafLaws.{begins, dropped-below}
use Rattle.atoms.proofs.marks.Leaves.of_operands.Goals as goal

pub returns : goal.returns
returns c =
    let s = c.args.deck.now.bytes.now in
    let l = list_of s c.args.list in
    let o = c.args.owner.0 in record { deck = refl; same = begins (deck_of s) 256 (drop c.args.first l) o (omega (arith, (limited _ c.args.deck.now.accepted).concepts, c.requires.owner_bound)) (dropped-below (deck_of s) o c.args.first l c.requires.list_fits.below) c.mark_operands.ensures }

pub mark_operands-requires-clause-owner_in_bounds : goal.mark_operands-requires-clause-owner_in_bounds
mark_operands-requires-clause-owner_in_bounds c =
    omega (arith, (limited _ c.args.deck.now.accepted).concepts, c.requires.owner_bound)
