use mathlib.Core.Path.{refl, ◌∙◌}
use native.Mathlib.Omega.{arith}
use borrow.Author.Tests.{tests}
use Rattle.std.proofs.Common.{rules}
use Rattle.std.proofs.lemmas.Iterator.{YieldsList-from_range}
use Rattle.std.proofs.lemmas.Iterator.Search.{all_from_yields_List}
use Rattle.deck.specs.Content.{deck_of}
use Rattle.eval.specs.Foreign.{label_fits, labels_fit}
use Rattle.eval.proofs.ChainLaws.{all-range}
use Rattle.eval.proofs.labels.Labels.fit.Goals as goal

pub returns : goal.returns
unfolding labels_fit
returns c =
    let a = c.args in
    let p = label_fits (deck_of a.self.now.deck.bytes.now) a.self.now.words.now in
    let n = a.shape.elements in
    all_from_yields_List p _ _ _ c.all.ensures.ran (YieldsList-from_range 0 n n refl (omega arith)) (λ x b q k. search (rules, tests)) ∙ all-range p n
