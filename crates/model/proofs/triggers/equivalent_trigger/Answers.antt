use mathlib.Core.List.{List}
use Prim.Native.Nat.{ℕ}
use mathlib.Core.Path.{ap, ◌∙◌}
use Rattle.deck.specs.Deck.{Axiom}
use Rattle.deck.specs.Reads.{list_of}
use Rattle.deck.proofs.TableLaws.{list_length}
use Rattle.model.proofs.TriggerLaws.{trigger-is, two-members}
use Rattle.model.proofs.triggers.equivalent_trigger.Goals as goal

pub returns-then-list-eq2 : goal.returns-then-list-eq2
returns-then-list-eq2 c =
    let s = c.args.deck.now.bytes.now in
    let two = two-members (list_of s c.args.list) (list_length s c.args.list.start c.args.list.count ∙ c.if-list-eq2.true) c.member-a.ensures.is c.member-b.ensures.is in
    trigger-is _ _ (ap (λ (l : List ℕ). Axiom.EquivalentClasses l) two) c.pair_trigger.ensures
