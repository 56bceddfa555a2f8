-- Checking an axiom (`check_axiom`): document 01, section 5.
use Rattle.std.specs.Prelude.{ℕ, ◌+◌, Bool, true, false, cond, ◌||◌, ◌&&◌, List, [], ◌∷◌, map, Option, Some, None, eqb, leb, ltb}
use Rattle.deck.specs.Deck.{Deck, Role, role_id, Axiom}
use Rattle.eval.specs.declared.judgement.Construct.{Construct}
use Rattle.eval.specs.declared.judgement.Judgement.{Judgement}
use Rattle.eval.specs.declared.judgement.Judgement.TheVariants.{False, True, Unresolved}
use Rattle.eval.specs.declared.standing.Standing.{Standing}
use Rattle.eval.specs.declared.votes.Votes.{Votes}
use Rattle.eval.specs.declared.verdict.Witnesses.{Witnesses}
use Rattle.eval.specs.declared.verdict.Witnesses.TheVariants.{One, Two, Three}
use Rattle.eval.specs.declared.verdict.Unhandled.{Unhandled}
use Rattle.eval.specs.declared.verdict.Unhandled.TheVariants.{Variety, Inverse, ChainLength}
use Rattle.eval.specs.declared.verdict.Verdict.{Verdict}
use Rattle.eval.specs.declared.verdict.Verdict.TheVariants.{Holds, Fails, UnhandledAxiom, UnhandledConcept, GuardedRoleHasEdges}
use Rattle.eval.specs.Construct.{tag_of}
use Rattle.eval.specs.Standing.{fresh, and_next, unless_noted}
use Rattle.eval.specs.Structure.{Structure, elements, has_edge, has_pair, successors, Pair, pairs_of, pairs, any_inverse}
use Rattle.eval.specs.Judge.{truth, judge}

-- ---- the words of a verdict
abbrev pub witnesses_of : Witnesses → List ℕ
witnesses_of (One x) = x.0 ∷ []
witnesses_of (Two x y) = x.0 ∷ y.0 ∷ []
witnesses_of (Three x y z) = x.0 ∷ y.0 ∷ z.0 ∷ []

-- "Remaining words are 0, after Fails 4,294,967,295."
abbrev pub fail_words : Witnesses → List ℕ
fail_words (One x) = 1 ∷ x.0 ∷ 4294967295 ∷ 4294967295 ∷ []
fail_words (Two x y) = 1 ∷ x.0 ∷ y.0 ∷ 4294967295 ∷ []
fail_words (Three x y z) = 1 ∷ x.0 ∷ y.0 ∷ z.0 ∷ []

-- "0 the variety, 1 inverse, 2 chain length"
abbrev pub part_of : Unhandled → ℕ
part_of Variety = 0
part_of Inverse = 1
part_of ChainLength = 2

-- "Four words: 0 Holds; 1 Fails, then witnesses; 2 UnhandledAxiom (tag; ..); 3 UnhandledConcept (concept tag, 0); 4 GuardedRoleHasEdges (role, 0)."
abbrev pub words_of : Verdict → List ℕ
words_of Holds = 0 ∷ 0 ∷ 0 ∷ 0 ∷ []
words_of (Fails w) = fail_words w
words_of (UnhandledAxiom tag part) = 2 ∷ tag ∷ part_of part ∷ 0 ∷ []
words_of (UnhandledConcept t) = 3 ∷ tag_of t ∷ 0 ∷ 0 ∷ []
words_of (GuardedRoleHasEdges r) = 4 ∷ r.0 ∷ 0 ∷ 0 ∷ []

-- ---- the outcome at one place: True it holds, False it fails, else it is undecided
-- "at one element a superclass's before its subclass's" (`implication`)
abbrev pub implies : Judgement → Judgement → Judgement
implies sub True = True
implies False False = True
implies True False = False
implies (Unresolved t) False = Unresolved t
implies False (Unresolved u) = True
implies True (Unresolved u) = Unresolved u
implies (Unresolved t) (Unresolved u) = Unresolved u

-- how many members are judged true, false and unresolved, and the last construct left open
abbrev pub no_votes : Votes
no_votes = record { trues = 0; falses = 0; unresolved = 0; noted = None }

abbrev pub vote : Votes → Judgement → Votes
vote v True = record { trues = v.trues + 1; falses = v.falses; unresolved = v.unresolved; noted = v.noted }
vote v False = record { trues = v.trues; falses = v.falses + 1; unresolved = v.unresolved; noted = v.noted }
vote v (Unresolved t) = record { trues = v.trues; falses = v.falses; unresolved = v.unresolved + 1; noted = Some t }

unfoldable pub votes : Votes → List Judgement → Votes
votes v [] = v
votes v (j ∷ js) = votes (vote v j) js

-- do all members agree? An unresolved one may disagree with any other (`all_agree`)
abbrev pub agreement : Votes → Judgement
agreement v =
    cond (ltb 0 v.trues && ltb 0 v.falses) False
    (cond (ltb 0 v.trues || ltb 0 v.falses || leb 2 v.unresolved) (unless_noted v.noted True) True)

unfoldable pub all_agree : List Judgement → Judgement
all_agree js = agreement (votes no_votes js)

-- is at most one member true? An unresolved one may be (`at_most_one`)
abbrev pub disjointness : Votes → Judgement
disjointness v =
    cond (leb 2 v.trues) False
    (cond (leb 2 (v.trues + v.unresolved)) (unless_noted v.noted True) True)

unfoldable pub at_most_one : List Judgement → Judgement
at_most_one js = disjointness (votes no_votes js)

-- ---- place after place
-- the construct that was noted, if any
abbrev pub open_or_holds : Option Construct → Verdict
open_or_holds None = Holds
open_or_holds (Some t) = UnhandledConcept t

-- no place fails: "of several unresolved constructs the last noted counts"
abbrev pub verdict_of : Standing → Verdict
verdict_of s = open_or_holds s.noted

abbrev pub fails_at : Judgement → Witnesses → Verdict → Verdict
fails_at False w v = Fails w
fails_at True w v = v
fails_at (Unresolved t) w v = v

-- the first place that fails ends the check
module _ {A : Type 0} where
  unfoldable pub scan : (A → Judgement) → (A → Witnesses) → Standing → List A → Verdict
  scan f w s [] = verdict_of s
  scan f w s (x ∷ xs) = fails_at (f x) (w x) (scan f w (and_next s (f x)) xs)

abbrev pub is_holds : Verdict → Bool
is_holds Holds = true
is_holds (Fails w) = false
is_holds (UnhandledAxiom tag part) = false
is_holds (UnhandledConcept t) = false
is_holds (GuardedRoleHasEdges r) = false

-- one check after another: the first that does not hold ends them
abbrev pub or_else : Verdict → Verdict → Verdict
or_else Holds v = v
or_else (Fails w) v = Fails w
or_else (UnhandledAxiom tag part) v = UnhandledAxiom tag part
or_else (UnhandledConcept t) v = UnhandledConcept t
or_else (GuardedRoleHasEdges r) v = GuardedRoleHasEdges r

unfoldable pub in_turn : List Verdict → Verdict
in_turn [] = Holds
in_turn (v ∷ vs) = or_else v (in_turn vs)

abbrev pub one : ℕ → Witnesses
one x = One (record { 0 = x })

abbrev pub two : ℕ → ℕ → Witnesses
two x y = Two (record { 0 = x }) (record { 0 = y })

abbrev pub three : ℕ → ℕ → ℕ → Witnesses
three x y z = Three (record { 0 = x }) (record { 0 = y }) (record { 0 = z })

-- ---- the axioms
-- "2 UnhandledAxiom (tag; 0 the variety, 1 inverse, 2 chain length, tested before inverse)"
abbrev pub unless_inverse : ℕ → List Role → Verdict → Verdict
unless_inverse tag rs v = cond (any_inverse rs) (UnhandledAxiom tag Inverse) v

-- an outcome at each element; the element is the witness
abbrev pub at_elements : Structure → (ℕ → Judgement) → Verdict
at_elements S f = scan f one fresh (elements S)

-- an outcome at each pair of a role word
abbrev pub at_pairs : Deck → Structure → Role → (Pair → Judgement) → (Pair → Witnesses) → Verdict
at_pairs D S r f w = scan f w fresh (pairs_of D S r)

-- each pair of sub is one of sup
unfoldable pub within : Deck → Structure → Role → Role → Verdict
within D S sub sup = at_pairs D S sub (λ p. truth (has_pair D S sup p.from p.to)) (λ p. two p.from p.to)

-- an edge from x to y, then each edge of b from y on: its end is to be an edge of sup from x
unfoldable pub onward : Deck → Structure → ℕ → ℕ → ℕ → ℕ → Verdict
onward D S b sup x y = scan (λ z. truth (has_edge D S sup x z)) (three x y) fresh (successors D S b y)

-- each edge of a, and each of b that goes on from it
unfoldable pub composed : Deck → Structure → ℕ → ℕ → ℕ → Verdict
composed D S a b sup = in_turn (map (λ p. onward D S b sup p.from p.to) (pairs D S a))

-- a chain a, b
abbrev pub links : Deck → Structure → Role → Role → Role → Verdict
links D S a b sup = unless_inverse 5 (a ∷ b ∷ sup ∷ []) (composed D S (role_id a) (role_id b) (role_id sup))

abbrev pub chain : Deck → Structure → List Role → Role → Verdict
chain D S [] sup = UnhandledAxiom 5 ChainLength
chain D S (a ∷ []) sup = UnhandledAxiom 5 ChainLength
chain D S (a ∷ b ∷ []) sup = links D S a b sup
chain D S (a ∷ b ∷ c ∷ l) sup = UnhandledAxiom 5 ChainLength

-- the pairs of one member in another; a role is not held against itself
abbrev pub across : Deck → Structure → Role → Role → Verdict
across D S a b = cond (eqb (role_id a) (role_id b)) Holds (within D S a b)

-- the same, or, turned, the pairs of the other in the one
abbrev pub across_by : Bool → Deck → Structure → Role → Role → Verdict
across_by false D S = across D S
across_by true D S = λ a b. across D S b a

-- each ordered pair of members
unfoldable pub equivalent : Deck → Structure → List Role → Verdict
equivalent D S l = in_turn (map (λ a. in_turn (map (across D S a) l)) l)

-- "4 GuardedRoleHasEdges (role, 0)"
abbrev pub guarded_by : List Pair → ℕ → Verdict
guarded_by [] r = Holds
guarded_by (p ∷ ps) r = GuardedRoleHasEdges (record { 0 = r })

abbrev pub guarded : Deck → Structure → ℕ → Verdict
guarded D S r = guarded_by (pairs D S r) r

-- "Steps and witnesses are `check_axiom`'s"
unfoldable pub verdict : Deck → Structure → Axiom → Verdict
verdict D S (Axiom.SubClassOf sub sup) = at_elements S (λ e. implies (judge D S sub e) (judge D S sup e))
verdict D S (Axiom.EquivalentClasses l) = at_elements S (λ e. all_agree (map (λ c. judge D S c e) l))
verdict D S (Axiom.DisjointClasses l) = at_elements S (λ e. at_most_one (map (λ c. judge D S c e) l))
verdict D S (Axiom.DisjointUnion k l) = UnhandledAxiom 3 Variety
verdict D S (Axiom.SubObjectPropertyOf sub sup) = unless_inverse 4 (sub ∷ sup ∷ []) (within D S sub sup)
verdict D S (Axiom.SubObjectPropertyChain l sup) = chain D S l sup
verdict D S (Axiom.EquivalentObjectProperties l) = unless_inverse 6 l (equivalent D S l)
verdict D S (Axiom.DisjointObjectProperties l) = UnhandledAxiom 7 Variety
verdict D S (Axiom.InverseObjectProperties p q) = unless_inverse 8 (p ∷ q ∷ []) (or_else (guarded D S (role_id p)) (guarded D S (role_id q)))
verdict D S (Axiom.ObjectPropertyDomain r c) = unless_inverse 9 (r ∷ []) (at_pairs D S r (λ p. judge D S c p.from) (λ p. one p.from))
verdict D S (Axiom.ObjectPropertyRange r c) = unless_inverse 10 (r ∷ []) (at_pairs D S r (λ p. judge D S c p.to) (λ p. one p.to))
verdict D S (Axiom.TransitiveRole r) = unless_inverse 11 (r ∷ []) (composed D S (role_id r) (role_id r) (role_id r))
verdict D S (Axiom.SymmetricRole r) = unless_inverse 12 (r ∷ []) (guarded D S (role_id r))
verdict D S (Axiom.AsymmetricRole r) = UnhandledAxiom 13 Variety
verdict D S (Axiom.ReflexiveRole r) = UnhandledAxiom 14 Variety
verdict D S (Axiom.IrreflexiveRole r) = UnhandledAxiom 15 Variety
verdict D S (Axiom.FunctionalRole r) = UnhandledAxiom 16 Variety
verdict D S (Axiom.InverseFunctionalRole r) = UnhandledAxiom 17 Variety
verdict D S (Axiom.ClassAssertion c i) = UnhandledAxiom 18 Variety
verdict D S (Axiom.ObjectPropertyAssertion r i j) = UnhandledAxiom 19 Variety
verdict D S (Axiom.NegativeObjectPropertyAssertion r i j) = UnhandledAxiom 20 Variety
verdict D S (Axiom.SameIndividual l) = UnhandledAxiom 21 Variety
verdict D S (Axiom.DifferentIndividuals l) = UnhandledAxiom 22 Variety
verdict D S (Axiom.DeclareClass k) = Holds
verdict D S (Axiom.DeclareObjectProperty r) = Holds
verdict D S (Axiom.DeclareNamedIndividual i) = Holds
