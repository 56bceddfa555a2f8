use mathlib.Core.Path.{sym, ◌∙◌}
use borrow.Author.Tests.{tests}
use lib.ListN.{take}
use Rattle.std.proofs.Common.{rules}
use Rattle.std.proofs.lemmas.Iterator.{YieldsList-from_slice}
use Rattle.std.proofs.lemmas.Iterator.Consumers.{YieldsList-from_filter, count_from_yields_List}
use Rattle.deck.specs.Content.{deck_of}
use Rattle.eval.specs.Edges.{edge_of, edges_of, under}
use Rattle.model.proofs.KeyLaws.{none_left}
use Rattle.model.proofs.pairs.count_pairs.Goals as goal

pub returns : goal.returns
unfolding edges_of
returns c =
    let p = under (deck_of c.args.deck.now.bytes.now) c.args.r.0 in
    let rows = take c.args.count c.args.edges.now in
    let n = count_from_yields_List c.filter.result _ c.count.ensures.ran (YieldsList-from_filter _ (λ w. p (edge_of w)) (YieldsList-from_slice rows cc) c.filter.ensures.closure (λ x b q k. search (rules, tests))) in
    λ z. none_left p rows (sym n ∙ z)
