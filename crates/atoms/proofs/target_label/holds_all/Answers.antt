use Prim.Native.Nat.{ℕ}
use mathlib.Core.Bool.{Bool}
use mathlib.Core.Path.{refl, ◌∙◌}
use native.Mathlib.Omega.{arith}
use borrow.Author.Tests.{tests}
use lib.ListN.{get_or}
use Rattle.std.proofs.Common.{rules}
use Rattle.std.proofs.lemmas.Iterator.{YieldsList-from_range}
use Rattle.std.proofs.lemmas.Iterator.Search.{all_from_yields_List}
use Rattle.deck.specs.Deck.{has}
use Rattle.deck.specs.Reads.{list_of}
use Rattle.deck.proofs.TableLaws.{list_length}
use Rattle.atoms.proofs.ListWalks.{all-places}
use Rattle.atoms.proofs.target_label.holds_all.Goals as goal

pub returns : goal.returns
returns c =
    let s = c.args.deck.now.bytes.now in
    let list = c.args.list in
    let l = list_of s list in
    let p = has (list_of s c.args.row) in
    let at : ℕ → Bool = λ i. p (get_or l i 0) in
    all_from_yields_List at _ _ _ c.all.ensures.ran (YieldsList-from_range 0 list.count list.count refl (omega arith)) (λ x b q k. search (rules, tests)) ∙ all-places p l _ (list_length s list.start list.count)
