-- Judging a concept at an element (`eval_concept`): document 01, section 4.
use Rattle.std.specs.Prelude.{ℕ, Bool, true, false, cond, ◌≡◌, List, [], ◌∷◌}
use Rattle.deck.specs.Deck.{Deck, Concept, concept_at}
use Rattle.eval.specs.declared.judgement.Construct.TheVariants as construct
use Rattle.eval.specs.declared.judgement.Judgement.{Judgement}
use Rattle.eval.specs.declared.judgement.Judgement.TheVariants.{False, True, Unresolved}
use Rattle.eval.specs.declared.standing.Standing.{Standing}
use Rattle.eval.specs.Standing.{fresh, and_next, some_next, and_close, some_close}
use Rattle.eval.specs.Numbered.{numbered}
use Rattle.eval.specs.Structure.{Structure, successors_of, inverse}

abbrev pub truth : Bool → Judgement
truth true = True
truth false = False

-- "An And carries its standing from operand to operand", from a standing on
unfoldable pub and_from : (ℕ → Judgement) → Standing → List ℕ → Judgement
and_from f s [] = and_close s
and_from f s (x ∷ xs) = and_from f (and_next s (f x)) xs

-- a Some, from a standing on: successor by successor
unfoldable pub some_from : (ℕ → Judgement) → Standing → List ℕ → Judgement
some_from f s [] = some_close s
some_from f s (x ∷ xs) = some_from f (some_next s (f x)) xs

-- a concept at e, where f judges smaller concepts: "Plain constructs are tags 0, 1, 2, 6 and Some with a named role; all others are unresolved, named by tag."
unfoldable pub judge_of : Deck → Structure → Concept → (ℕ → ℕ → Judgement) → ℕ → Judgement
judge_of D S Concept.Top f e = True
judge_of D S Concept.Bot f e = False
judge_of D S (Concept.Atomic k) f e = truth (S.member e k)
judge_of D S (Concept.Nominal i) f e = Unresolved construct.Nominal
judge_of D S (Concept.SelfRestriction r) f e = Unresolved construct.SelfRestriction
judge_of D S (Concept.Not b) f e = Unresolved construct.Not
judge_of D S (Concept.And l) f e = and_from (λ o. f o e) fresh l
judge_of D S (Concept.Or l) f e = Unresolved construct.Or
judge_of D S (Concept.Some r b) f e = cond (inverse r) (Unresolved construct.InverseSome) (some_from (f b) fresh (successors_of D S r e))
judge_of D S (Concept.All r b) f e = Unresolved construct.All
judge_of D S (Concept.Min m r b) f e = Unresolved construct.Min
judge_of D S (Concept.Max m r b) f e = Unresolved construct.Max

-- concept c at element e
unfoldable pub judge : Deck → Structure → ℕ → ℕ → Judgement
judge D S = numbered (λ e. False) (λ c f. judge_of D S (concept_at D c) f)

-- a judgement that is right of a truth value: an unresolved one says nothing
abbrev pub Right : Judgement → Bool → Type 0
Right False b = b ≡ false
Right True b = b ≡ true
Right (Unresolved t) b = Unit {0}

-- is a judgement one of the two truth values?
abbrev pub decided : Judgement → Bool
decided False = true
decided True = true
decided (Unresolved t) = false
