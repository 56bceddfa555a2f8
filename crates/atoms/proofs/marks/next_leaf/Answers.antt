use borrow.Enum.Refused.{opened}
use native.Mathlib.Omega.{arith}
use Rattle.deck.specs.Reads.{list_of}
use Rattle.deck.proofs.SoundLaws.{limited}
use Rattle.atoms.proofs.FloorLaws.{fits_read}
use Rattle.atoms.proofs.LeafLaws.{walking-down, walking-next, walking-leaf, walking-end, leaves-and, leaves-other, is-leaf-read}
use Rattle.atoms.proofs.marks.next_leaf.Goals as goal

pub highest_mark-requires : goal.highest_mark-requires
highest_mark-requires c =
    let w = c.loop-k.invariant in record { i_in_bounds = omega (arith, (limited _ c.args.deck.now.accepted).concepts, c.requires.i_bound, c.requires.marks_len, w.down, w.wide) }

pub concept_at-expr-requires : goal.concept_at-expr-requires
concept_at-expr-requires c =
    let w = c.loop-k.invariant in record { concept_bound = omega (arith, walking-down _ w c.in-Some.ensures, w.down, c.requires.i_bound) }

pub returns-in_default-expr : goal.returns-in_default-expr
returns-in_default-expr c =
    let R = c.concept_at-expr.ensures in
    let o = opened c.in_default-expr.in_default-expr-own.keys2 in
    walking-leaf _ c.loop-k.invariant c.in-Some.ensures (leaves-other _ c.args.deck.now.accepted _ R o) (is-leaf-read _ c.args.deck.now.accepted _ R o)

pub mark_operands-requires-clause-owner_in_bounds : goal.mark_operands-requires-clause-owner_in_bounds
mark_operands-requires-clause-owner_in_bounds c =
    let w = c.loop-k.invariant in
    omega (arith, walking-down _ w c.in-Some.ensures, (limited _ c.args.deck.now.accepted).concepts, c.requires.i_bound, c.requires.marks_len, w.down, w.wide)

pub loop-k-smaller : goal.loop-k-smaller
loop-k-smaller c =
    walking-down _ c.loop-k.invariant c.in-Some.ensures

pub loop-k-preserved : goal.loop-k-preserved
loop-k-preserved c =
    let w = c.loop-k.invariant in
    let R = c.concept_at-expr.ensures in
    let l = c.in-And.list in
    let k = c.in-Some.k.0 in
    let f = fits_read _ c.args.deck.now.accepted k R _ c.in-And.is in
    walking-next _ w c.in-Some.ensures (list_of c.args.deck.now.bytes.now l) (leaves-and _ c.args.deck.now.accepted k R l c.in-And.is) f.below
    (omega (arith, walking-down _ w c.in-Some.ensures, (limited _ c.args.deck.now.accepted).concepts, c.requires.i_bound, c.requires.marks_len, w.down, w.wide)) c.mark_operands.ensures

pub returns : goal.returns
returns c =
    walking-end _ c.loop-k.invariant c.in_default.ensures
