use mathlib.Core.Bool.{◌&&◌}
use mathlib.Core.Path.{refl, ◌∙◌}
use lib.Dec.{eqb}
use borrow.Author.Tests.{tests, eq-eqb}
use Rattle.std.proofs.Common.{rules}
use Rattle.std.proofs.lemmas.Iterator.Consumers.{YieldsList-from_first}
use Rattle.std.proofs.lemmas.Iterator.Search.{any_from_yields_List}
use Rattle.eval.specs.declared.edges.Edge.{Edge}
use Rattle.deck.specs.Content.{deck_of}
use Rattle.eval.specs.Edges.{edges_of, goes, linked, under}
use Rattle.eval.specs.Leaving.{left, leaving}
use Rattle.eval.proofs.IndexLaws.{goes-off}
use Rattle.eval.proofs.LeavingLaws.{any-leaving}
use Rattle.eval.proofs.index.EdgeIndex.has_edge.Goals as goal

pub returns : goal.returns
unfolding linked
returns c =
    let a = c.args in
    let D = deck_of a.deck.now.bytes.now in
    let p = goes D a.r.0 a.x.0 a.y.0 in
    let q = λ (e : Edge). eqb e.to.0 a.y.0 && under D a.r.0 e in
    let es = edges_of a.self.now.edges.now a.self.now.count in
    any_from_yields_List q c.any.new.self _ _ c.any.ensures.ran (YieldsList-from_first (λ (e : Edge). e) left (leaving a.x.0 es) c.leaving.ensures) (λ x b q k. search (rules, tests))
    ∙ any-leaving q p a.x.0 (λ e h. rw (eq-eqb _ _ h) refl) (λ e d. goes-off D a.r.0 a.x.0 e d a.y.0) es
