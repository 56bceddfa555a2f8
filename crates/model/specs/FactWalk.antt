-- A walk over the facts of a class, as its iterator does it, and how many facts are of classes of a label.
use Rattle.std.specs.Prelude.{ℕ, ◌+◌, ◌-◌, cond, List, [], length, eqb, Option, Some, None}
use Rattle.deck.specs.Deck.{Deck, class_count, fact_count, fact_at}
use Rattle.deck.specs.Content.{deck_of}
use Rattle.eval.specs.Lists.{range, keep}
use Rattle.atoms.specs.Label.{label_has}
use Rattle.atoms.specs.Walk.{walk}
use Rattle.model.specs.declared.fact_index.FactsOf.{FactsOf}

-- the facts from i on that are of class k, by their numbers
abbrev pub facts_from : Deck → ℕ → ℕ → List ℕ
facts_from D k i = keep (λ f. eqb (fact_at D f).from k) (range i (fact_count D - i))

-- the same from a fact on, if there is one
abbrev pub facts_at : Deck → ℕ → Option ℕ → List ℕ
facts_at D k None = []
facts_at D k (Some i) = facts_from D k i

-- those that the iterator has left
abbrev pub left : FactsOf → List ℕ
left s = facts_at (deck_of s.index.deck.bytes.now) s.class.0 s.next

-- those of class k more, where the label has it
abbrev pub and_facts : Deck → List ℕ → ℕ → ℕ → ℕ
and_facts D held k n = cond (label_has held k) (n + length (facts_from D k 0)) n

-- how many facts are of classes that the label has
abbrev pub facts_held : Deck → List ℕ → ℕ
facts_held D held = walk (and_facts D held) (range 0 (class_count D)) 0
