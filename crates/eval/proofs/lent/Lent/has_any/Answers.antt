use mathlib.Core.Path.{◌∙◌}
use borrow.Author.Tests.{tests}
use lib.ListN.{take}
use Rattle.std.proofs.Common.{rules}
use Rattle.std.proofs.lemmas.Iterator.{YieldsList-from_slice}
use Rattle.std.proofs.lemmas.Iterator.Search.{any_from_yields_List}
use Rattle.eval.specs.Edges.{edge_of, edges_of, under}
use Rattle.eval.specs.InLent.{deck_in}
use Rattle.eval.proofs.ChainLaws.{any-map}
use Rattle.eval.proofs.lent.Lent.has_any.Goals as goal

pub returns : goal.returns
unfolding edges_of
returns c =
    let a = c.args.self.now in
    let p = under (deck_in a) c.args.r.0 in
    let rows = take a.shape.edges a.edges.now in
    any_from_yields_List (λ w. p (edge_of w)) _ _ _ c.any.ensures.ran (YieldsList-from_slice rows cc) (λ x b q k. search (rules, tests)) ∙ any-map p edge_of rows
