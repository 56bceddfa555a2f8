-- What a concept leads to through Ands, and a walk over it from the concept's number downward.
use Rattle.std.specs.Prelude.{ℕ, zero, suc, ◌<◌, Bool, true, false, cond, ◌≡◌, length, Option, Some, None, IfSome, Result, Ok, Err}
use mathlib.Core.List.{List, [], ◌∷◌, ◌++◌, map, flat_map}
use Rattle.deck.specs.Deck.{Deck, Concept, concept_at, has}
use Rattle.deck.specs.declared.numbers.ConceptId.{ConceptId}
use Rattle.eval.specs.Lists.{every}
use Rattle.eval.specs.Numbered.{numbered}
use Rattle.atoms.specs.declared.leaves.Question.{Question}
use Rattle.atoms.specs.declared.leaves.Question.TheVariants.{Universal, Atomless, Held}
use Rattle.atoms.specs.declared.short.Stop.{Stop}
use Rattle.atoms.specs.declared.short.Stop.TheVariants.{No, Undecided}
use Rattle.atoms.specs.Label.{label_has}

-- "reached through Ands, in order": the numbers of the concepts that are no And, where f has those of smaller concepts
unfoldable pub leaves_of : ℕ → Concept → (ℕ → List ℕ) → List ℕ
leaves_of c (Concept.And l) f = flat_map f l
leaves_of c Concept.Top f = c ∷ []
leaves_of c Concept.Bot f = c ∷ []
leaves_of c (Concept.Atomic k) f = c ∷ []
leaves_of c (Concept.Nominal i) f = c ∷ []
leaves_of c (Concept.SelfRestriction r) f = c ∷ []
leaves_of c (Concept.Not b) f = c ∷ []
leaves_of c (Concept.Or l) f = c ∷ []
leaves_of c (Concept.Some r b) f = c ∷ []
leaves_of c (Concept.All r b) f = c ∷ []
leaves_of c (Concept.Min m r b) f = c ∷ []
leaves_of c (Concept.Max m r b) f = c ∷ []

-- it is no And
abbrev pub IsLeaf : Concept → Type 0
IsLeaf (Concept.And l) = ⊥
IsLeaf Concept.Top = Unit {0}
IsLeaf Concept.Bot = Unit {0}
IsLeaf (Concept.Atomic k) = Unit {0}
IsLeaf (Concept.Nominal i) = Unit {0}
IsLeaf (Concept.SelfRestriction r) = Unit {0}
IsLeaf (Concept.Not b) = Unit {0}
IsLeaf (Concept.Or l) = Unit {0}
IsLeaf (Concept.Some r b) = Unit {0}
IsLeaf (Concept.All r b) = Unit {0}
IsLeaf (Concept.Min m r b) = Unit {0}
IsLeaf (Concept.Max m r b) = Unit {0}

unfoldable pub leaves : Deck → ℕ → List ℕ
leaves D = numbered [] (λ c f. leaves_of c (concept_at D c) f)

-- what is asked of each: to be Top; to be no atom; to be no atom that the label lacks
abbrev pub holds_atom : Question → ℕ → Bool
holds_atom Universal k = false
holds_atom Atomless k = false
holds_atom (Held label) k = label_has label.now k

abbrev pub allows : Question → Bool
allows Universal = false
allows Atomless = true
allows (Held label) = true

abbrev pub answer_of : Question → Concept → Bool
answer_of q Concept.Top = true
answer_of q (Concept.Atomic k) = holds_atom q k
answer_of q Concept.Bot = allows q
answer_of q (Concept.Nominal i) = allows q
answer_of q (Concept.SelfRestriction r) = allows q
answer_of q (Concept.Not b) = allows q
answer_of q (Concept.And l) = allows q
answer_of q (Concept.Or l) = allows q
answer_of q (Concept.Some r b) = allows q
answer_of q (Concept.All r b) = allows q
answer_of q (Concept.Min m r b) = allows q
answer_of q (Concept.Max m r b) = allows q

unfoldable pub answer : Deck → Question → ℕ → Bool
answer D q k = answer_of q (concept_at D k)

unfoldable pub every_leaf : Deck → Question → ℕ → Bool
every_leaf D q c = every (map (answer D q) (leaves D c))

-- what a short walk came to is right of the answer b
abbrev pub Decides : Result ℕ Stop → Bool → Type 0
Decides (Ok left) b = b ≡ true
Decides (Err No) b = b ≡ false
Decides (Err Undecided) b = Unit {0}

-- ---- a walk downward, by marks
-- what the marked concepts below i lead to
unfoldable pub pending : Deck → List ℕ → ℕ → List ℕ
pending D marks zero = []
pending D marks (suc i) = cond (label_has marks i) (leaves D i ++ pending D marks i) (pending D marks i)

-- the highest marked number below i, where there is one
unfoldable pub highest_mark : List ℕ → ℕ → Option ConceptId
highest_mark marks zero = None
highest_mark marks (suc i) = cond (label_has marks i) (Some (record { 0 = i })) (highest_mark marks i)

-- a concept, where there is one, and what the marked ones below it lead to
abbrev pub and_below : Deck → List ℕ → Option ConceptId → List ℕ
and_below D marks None = []
and_below D marks (Some k) = k.0 ∷ pending D marks k.0

-- lists with the same members
abbrev pub Same : List ℕ → List ℕ → Type 0
Same xs ys = (x : ℕ) → has xs x ≡ has ys x

-- what is marked stays marked
abbrev pub Grown : List ℕ → List ℕ → Type 0
Grown was marks = (j : ℕ) → label_has was j ≡ true → label_has marks j ≡ true

-- the next one of a walk that stood at i: nothing is lost, it is no And, the marks only grow, and the walk goes down, so that no list is read twice
pub record Next (D : Deck) (was : List ℕ) (i : ℕ) (marks : List ℕ) (next : Option ConceptId) : Type 0 where
  pub same : Same (pending D was i) (and_below D marks next)
  pub down : IfSome next (λ k. k.0 < i)
  pub leaf : IfSome next (λ k. IsLeaf (concept_at D k.0))
  pub grown : Grown was marks
  pub wide : length marks ≡ length was
