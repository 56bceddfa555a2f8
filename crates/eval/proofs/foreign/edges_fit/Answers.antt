use Prim.Native.Nat.{ℕ}
use mathlib.Core.List.{List, []}
use mathlib.Core.Path.{◌∙◌}
use borrow.Author.Tests.{tests}
use lib.ListN.{take}
use Rattle.std.proofs.Common.{rules}
use Rattle.std.proofs.lemmas.Iterator.{YieldsList-from_slice}
use Rattle.std.proofs.lemmas.Iterator.Search.{all_from_yields_List}
use Rattle.deck.specs.Content.{deck_of}
use Rattle.eval.specs.Edges.{edge_of}
use Rattle.eval.specs.Foreign.{edge_fits, edges_fit}
use Rattle.eval.proofs.ChainLaws.{all-rows}
use Rattle.eval.proofs.foreign.edges_fit.Goals as goal

pub returns : goal.returns
unfolding edges_fit
returns c =
    let a = c.args in
    let p = λ (w : List ℕ). edge_fits (deck_of a.deck.now.bytes.now) a.shape.elements (edge_of w) in
    let n = a.shape.edges in
    all_from_yields_List p _ _ _ c.all.ensures.ran (YieldsList-from_slice (take n a.edges.now) cc) (λ x b q k. search (rules, tests)) ∙ all-rows p [] a.edges.now n c.requires.edges_in_bounds
