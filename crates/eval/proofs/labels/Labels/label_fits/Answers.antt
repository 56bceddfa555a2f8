use mathlib.Core.Path.{sym}
use native.Mathlib.Omega.{arith}
use Rattle.deck.specs.Content.{deck_of}
use Rattle.eval.proofs.ForeignLaws.{label-full, label_is}
use Rattle.eval.proofs.labels.Labels.label_fits.Goals as goal

pub returns-then-used-eq0 : goal.returns-then-used-eq0
returns-then-used-eq0 c =
    let a = c.args in
    sym (label-full (deck_of a.self.now.deck.bytes.now) a.self.now.words.now a.e.0 (omega (arith, c.if-used-eq0.true, c.class_count-n.ensures.is)))

pub returns : goal.returns
returns c =
    let a = c.args in
    let D = deck_of a.self.now.deck.bytes.now in
    let n = c.class_count-n.ensures.is in
    let law = label_is D a.self.now.words.now a.e.0 (λ z. c.if-used-eq0.false (omega (arith, z, n))) (omega (arith, rw n at c.word.ensures, c.word.type_inv)) in
    cc (law, n, c.word.ensures)
