use mathlib.Core.List.{map}
use native.Mathlib.Omega.{arith}
use lib.ListN.{get_or}
use borrow.Author.Tests.{tests}
use Rattle.std.proofs.Common.{rules}
use Rattle.deck.specs.Content.{deck_of}
use Rattle.deck.specs.Reads.{list_of}
use Rattle.deck.proofs.TableLaws.{list_length}
use Rattle.eval.specs.Lists.{every}
use Rattle.atoms.specs.Antecedent.{holds_atoms}
use Rattle.model.specs.Triggers.{Needs}
use Rattle.model.proofs.TriggerLaws.{found-member, needs-operand}
use Rattle.model.proofs.triggers.first_atom.Goals as goal

pub returns : goal.returns
returns c =
    let s = c.args.deck.now.bytes.now in
    let list = c.args.list in
    let l = list_of s list in
    let D = deck_of s in
    let Q = Needs D (λ label. every (map (holds_atoms D label) l)) in
    found-member list.count Q _ c.find_map.ensures.runs (λ a r q k. search (rules, tests)) (λ x y b k.
    let N : Needs D (λ label. holds_atoms D label (get_or l x 0)) y = search (rules, tests) in
    needs-operand D l x (omega (arith, b, list_length s list.start list.count)) N)
