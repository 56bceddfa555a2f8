use mathlib.Core.Path.{◌∙◌}
use native.Mathlib.Omega.{arith}
use native.Mathlib.Nat.{max-le}
use Rattle.deck.specs.Content.{deck_of}
use Rattle.model.proofs.NeedLaws.{bounds-in, top-max}
use Rattle.model.proofs.need.Task.top.Goals as goal

pub returns : goal.returns
returns c =
    let n = c.class_count.ensures in
    let b = bounds-in _ _ c.args.self.now.within in
    ((rw n.is at c.max.ensures) ∙ top-max (deck_of c.args.self.now.deck.bytes.now) c.args.self.now.bounds, rw c.max.ensures (max-le (omega (arith, n.most)) b.elements))
