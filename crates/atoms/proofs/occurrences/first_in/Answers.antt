use Prim.Native.Nat.{ℕ, ◌<◌}
use mathlib.Core.Path.{sym, subst, ◌∙◌}
use mathlib.Core.List.{List}
use native.Mathlib.Omega.{arith}
use lib.ListN.{length, get_or}
use Rattle.deck.specs.Content.{deck_of}
use Rattle.deck.specs.Reads.{list_of}
use Rattle.deck.proofs.TableLaws.{list_length}
use Rattle.atoms.specs.Floor.{required_atoms}
use Rattle.atoms.specs.Occurrences.{IsFirst}
use Rattle.atoms.proofs.OccurrenceLaws.{first-at, first-end, first_step, first-stop}
use Rattle.atoms.proofs.occurrences.first_in.Goals as goal

pub returns-then-x : goal.returns-then-x
returns-then-x c =
    let s = c.args.deck.now.bytes.now in
    let l = c.args.list in
    let w = c.loop-i in
    let h : w.i < length (list_of s l) = omega (arith, list_length s l.start l.count) in
    let F = first-at (deck_of s) c.args.table.now c.args.owner.0 c.requires.firsts_to (list_of s l) c.requires.list_fits.below w.i h _ c.operand-o.ensures.is in
    subst (λ (ks : List ℕ). IsFirst ks (get_or c.args.table.now c.operand-o.result.0 0)) (sym w.invariant) (first-stop (required_atoms (deck_of s)) (list_of s l) w.i h F c.if-x.true)

pub loop-i-preserved : goal.loop-i-preserved
loop-i-preserved c =
    let s = c.args.deck.now.bytes.now in
    let l = c.args.list in
    let w = c.loop-i in
    let h : w.i < length (list_of s l) = omega (arith, list_length s l.start l.count) in
    let F = first-at (deck_of s) c.args.table.now c.args.owner.0 c.requires.firsts_to (list_of s l) c.requires.list_fits.below w.i h _ c.operand-o.ensures.is in
    w.invariant ∙ first_step (required_atoms (deck_of s)) (list_of s l) w.i h F c.if-x.false

pub returns : goal.returns
returns c =
    let s = c.args.deck.now.bytes.now in
    let l = c.args.list in
    let w = c.loop-i in
    subst (λ (ks : List ℕ). IsFirst ks 4294967295) (sym w.invariant) (first-end (required_atoms (deck_of s)) (list_of s l) w.i (omega (arith, list_length s l.start l.count)))
