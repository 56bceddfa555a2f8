use Prim.Native.Nat.{ℕ}
use mathlib.Core.List.{List}
use mathlib.Core.Path.{sym, ap, ◌∙◌}
use lib.ListN.{length}
use Rattle.deck.specs.Content.{deck_of}
use Rattle.eval.specs.Lent.{label_width}
use Rattle.build.proofs.BuildLaws.{all_fit}
use Rattle.model.proofs.RecallLaws.{row-length}
use Rattle.model.proofs.expand.next_class.Goals as goal

pub next_class-requires-clause-label_len : goal.next_class-requires-clause-label_len
next_class-requires-clause-label_len c =
    ap length c.label_at.ensures ∙ row-length _ _ _ _ (all_fit c.requires.ready) c.requires.e_lt_elements ∙ ap (λ (s : List ℕ). label_width (deck_of s)) (sym c.requires.own)
