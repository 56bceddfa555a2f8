-- "truth is W3C OWL 2 Direct Semantics": the sets that the standard gives to every construct, those that judging leaves open
-- included. They are one choice, so what holds under every choice holds in the standard's sense.
use Rattle.std.specs.Prelude.{ℕ, ◌<◌, Bool, true, false, not, ◌&&◌, ◌||◌, map, eqb, leb, length}
use Rattle.deck.specs.Deck.{Deck, Role, Concept, Axiom, concept_at, axiom_count, axiom_at}
use Rattle.eval.specs.Numbered.{numbered}
use Rattle.eval.specs.Lists.{keep, every, any}
use Rattle.eval.specs.Structure.{Structure, elements, has_pair}
use Rattle.eval.specs.Truth.{Choice, True}

-- is the element y a successor of x by the role word, and in a set?
abbrev pub reaches : Deck → Structure → Role → (ℕ → Bool) → ℕ → ℕ → Bool
reaches D S r p x y = has_pair D S r x y && p y

-- how many elements are
abbrev pub reached : Deck → Structure → Role → (ℕ → Bool) → ℕ → ℕ
reached D S r p x = length (keep (reaches D S r p x) (elements S))

-- is x in the set of a construct, where ι gives each individual its element and f gives each operand its set?
unfoldable pub set_of : Deck → Structure → (ℕ → ℕ) → Concept → (ℕ → ℕ → Bool) → ℕ → Bool
set_of D S ι Concept.Top f x = true
set_of D S ι Concept.Bot f x = false
set_of D S ι (Concept.Atomic k) f x = S.member x k
-- ObjectOneOf: the individual's element alone
set_of D S ι (Concept.Nominal i) f x = eqb x (ι i)
-- ObjectHasSelf: a pair with itself
set_of D S ι (Concept.SelfRestriction r) f x = has_pair D S r x x
-- ObjectComplementOf: not in the operand
set_of D S ι (Concept.Not b) f x = not (f b x)
-- ObjectIntersectionOf: in every operand; ObjectUnionOf: in one
set_of D S ι (Concept.And l) f x = every (map (λ o. f o x) l)
set_of D S ι (Concept.Or l) f x = any (map (λ o. f o x) l)
-- ObjectSomeValuesFrom: a successor in the body; ObjectAllValuesFrom: every successor in it
set_of D S ι (Concept.Some r b) f x = any (map (reaches D S r (f b) x) (elements S))
set_of D S ι (Concept.All r b) f x = every (map (λ y. not (has_pair D S r x y) || f b y) (elements S))
-- ObjectMinCardinality: at least m successors in the body; ObjectMaxCardinality: at most m
set_of D S ι (Concept.Min m r b) f x = leb m (reached D S r (f b) x)
set_of D S ι (Concept.Max m r b) f x = leb (reached D S r (f b) x) m

-- is x in the set of concept c?
unfoldable pub in_set : Deck → Structure → (ℕ → ℕ) → ℕ → ℕ → Bool
in_set D S ι = numbered (λ x. false) (λ c f. set_of D S ι (concept_at D c) f)

-- the standard as a choice
abbrev pub standard : Deck → Structure → (ℕ → ℕ) → Choice
standard D S ι = record { sets = in_set D S ι; individuals = ι }

-- the structure satisfies an axiom, and all axioms of the deck
abbrev pub Satisfied : Deck → Structure → (ℕ → ℕ) → Axiom → Type 0
Satisfied D S ι a = True D S (standard D S ι) a

abbrev pub AllSatisfied : Deck → Structure → (ℕ → ℕ) → Type 0
AllSatisfied D S ι = (k : ℕ) → k < axiom_count D → Satisfied D S ι (axiom_at D k)
