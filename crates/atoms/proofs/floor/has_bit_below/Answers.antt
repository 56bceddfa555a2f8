use mathlib.Core.Path.{sym}
use lib.ListN.{get_or}
use Rattle.deck.specs.Below.{any_below}
use Rattle.atoms.proofs.BitLaws.{any-bits}
use Rattle.atoms.proofs.floor.has_bit_below.Goals as goal

pub returns-then-b-eq0 : goal.returns-then-b-eq0
unfolding any_below
returns-then-b-eq0 c =
    rw c.if-b-eq0.true

pub returns : goal.returns
returns c =
    rw c.low_bits.ensures (sym (any-bits (get_or c.args.label.now c.args.i 0) c.args.b))
