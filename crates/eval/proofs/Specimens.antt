-- The starred specimens 1 to 11 of document 01, as instances of one statement: deck W with further concepts and axioms is
-- sound, and in W's structure the question has the answer.
use Prim.Native.Nat.{ℕ, zero, suc, ◌+◌, ◌<◌}
use mathlib.Core.Bool.{true, false, ◌&&◌}
use mathlib.Core.Path.{◌≡◌, refl}
use mathlib.Core.List.{List, [], ◌∷◌, map}
use native.Mathlib.Omega.{arith}
use native.Mathlib.Nat.{add-zero}
use lib.Dec.{eqb}
use lib.ListN.{length, get_or}
use Rattle.deck.specs.Forms.{Counts}
use Rattle.deck.specs.Deck.{Deck, Role, Concept, Axiom, has, axiom_at}
use Rattle.deck.specs.Sound.{Sound, Each, EachBelow, Rises, ClassFits, RoleFits, FactFits, ConceptFits, AxiomFits}
use Rattle.eval.specs.declared.judgement.Construct.TheVariants as construct
use Rattle.eval.specs.declared.judgement.Judgement.{Judgement}
use Rattle.eval.specs.declared.judgement.Judgement.TheVariants.{False, True, Unresolved}
use Rattle.eval.specs.declared.verdict.Verdict.{Verdict}
use Rattle.eval.specs.declared.verdict.Verdict.TheVariants.{Holds, Fails, UnhandledConcept, GuardedRoleHasEdges}
use Rattle.eval.specs.Numbered.{numbered, below}
use Rattle.eval.specs.Lists.{range, keep, any}
use Rattle.eval.specs.Structure.{Structure, elements, has_edge, successors, pairs}
use Rattle.eval.specs.Judge.{judge, judge_of, and_from, some_from}
use Rattle.eval.specs.Verdict.{verdict, one, scan, in_turn, votes, all_agree, at_most_one, onward, composed}

-- ---- deck W and its structure
-- "Deck W: N = M = 2, rows {0}, {0, 1}; role 0, row {0}, no range; concepts Atomic 0, Atomic 1, Some(0, concept 0);
-- axioms SubClassOf(1, 0), SubClassOf(1, 2); fact (1, 0, 0)", with further concepts from number 3 and axioms from number 2 on
abbrev pub W : List Concept → List Axiom → Deck
W concepts axioms = record {
  real = 2;
  dropped = 0;
  classes = record { unsatisfiable = false; row = 0 ∷ [] } ∷ record { unsatisfiable = false; row = 0 ∷ 1 ∷ [] } ∷ [];
  roles = record { sub_roles = 0 ∷ []; range = [] } ∷ [];
  injected = [];
  concepts = Concept.Atomic 0 ∷ Concept.Atomic 1 ∷ Concept.Some (Role.Named 0) 0 ∷ concepts;
  axioms = Axiom.SubClassOf 1 0 ∷ Axiom.SubClassOf 1 2 ∷ axioms;
  facts = record { from = 1; role = 0; to = 0 } ∷ [];
}

-- "Elements {0}, {0, 1}, edge 1 to 0."
abbrev pub E : Structure
E = record {
  size = 2;
  member = λ e k. has (get_or ((0 ∷ []) ∷ (0 ∷ 1 ∷ []) ∷ []) e []) k;
  edge = λ r x y. eqb r 0 && (eqb x 1 && eqb y 0);
}

-- ---- what is asked, and what is answered: a concept at each element, an axiom
pub data Question : Type 0 where
  concept : ℕ → Question
  axiom-no : ℕ → Question

pub data Answer : Type 0 where
  judged : List Judgement → Answer
  checked : Verdict → Answer

unfoldable pub asked : Deck → Structure → Question → Answer
asked D S (concept c) = judged (map (judge D S c) (elements S))
asked D S (axiom-no k) = checked (verdict D S (axiom_at D k))

-- the common statement
pub record Specimen (concepts : List Concept) (axioms : List Axiom) (q : Question) (r : Answer) : Type 0 where
  pub sound : Sound (W concepts axioms)
  pub answer : asked (W concepts axioms) E q ≡ r

-- ---- W is sound if what is added fits
abbrev All : {A : Type 0} → (A → Type 0) → List A → Type 0
All P [] = Unit {0}
All P (x ∷ xs) = P x × All P xs

each : {A : Type 0} (d : A) (P : A → Type 0) (l : List A) → All P l → Each d P l
each d P [] a i h = absurd (omega arith)
each d P (x ∷ xs) a zero h = a.0
each d P (x ∷ xs) a (suc i) h = each d P xs a.1 i (omega arith)

below_all : (n : ℕ) (l : List ℕ) → All (λ x. x < n) l → EachBelow n l
below_all n l a = each 0 (λ x. x < n) l a

abbrev counts : Counts
counts = record { classes = 2; real = 2; roles = 1 }

-- concepts that fit as numbers k, k + 1, ..
abbrev ConceptsFit : ℕ → List Concept → Type 0
ConceptsFit k [] = Unit {0}
ConceptsFit k (c ∷ cs) = ConceptFits counts k c × ConceptsFit (suc k) cs

concept-fits : (k : ℕ) (cs : List Concept) → ConceptsFit k cs → (i : ℕ) → i < length cs → ConceptFits counts (k + i) (get_or cs i Concept.Top)
concept-fits k [] h i l = absurd (omega arith)
concept-fits k (c ∷ cs) h zero l = rw (add-zero k) h.0
concept-fits k (c ∷ cs) h (suc i) l = let e : k + suc i ≡ suc k + i = omega arith in rw e (concept-fits (suc k) cs h.1 i (omega arith))

sound-W : (concepts : List Concept) (axioms : List Axiom) → ConceptsFit 3 concepts → All (AxiomFits counts (3 + length concepts)) axioms → Sound (W concepts axioms)
unfolding has
sound-W concepts axioms hc ha = record {
  real = omega arith;
  classes = classes;
  roles = roles;
  injected = λ k h. absurd (omega arith);
  sorted = λ k h. absurd (omega arith);
  concepts = λ k h. let e : 0 + k ≡ k = omega arith in rw e at (concept-fits 0 (W concepts axioms).concepts (omega arith, (omega arith, ((omega arith, omega arith), hc))) k h);
  axioms = each (Axiom.DeclareClass 0) (AxiomFits counts (length (W concepts axioms).concepts)) (W concepts axioms).axioms
      ((omega arith, omega arith), ((omega arith, omega arith), let n : 3 + length concepts ≡ length (W concepts axioms).concepts = omega arith in rw n at ha));
  facts = facts;
}
  where
    rises-two : Rises (0 ∷ 1 ∷ [])
    rises-two zero h = omega arith
    rises-two (suc i) h = absurd (omega arith)

    classes : (k : ℕ) → k < 2 → ClassFits counts k (get_or (W concepts axioms).classes k (record { unsatisfiable = true; row = [] }))
    classes zero h = record { below = below_all 2 (0 ∷ []) (omega arith); rises = λ i h. absurd (omega arith); own = λ e. refl }
    classes (suc zero) h = record { below = below_all 2 (0 ∷ 1 ∷ []) (omega arith); rises = rises-two; own = λ e. refl }
    classes (suc (suc k)) h = absurd (omega arith)

    roles : (k : ℕ) → k < 1 → RoleFits counts k (get_or (W concepts axioms).roles k (record { sub_roles = []; range = [] }))
    roles zero h = record { below = below_all 1 (0 ∷ []) (omega arith); rises = λ i h. absurd (omega arith); own = refl; range-below = below_all 2 [] tt; range-rises = λ i h. absurd (omega arith) }
    roles (suc k) h = absurd (omega arith)

    facts : (k : ℕ) → k < 1 → FactFits counts (get_or (W concepts axioms).facts k (record { from = 0; role = 0; to = 0 }))
    facts zero h = record { from = omega arith; role = omega arith; to = omega arith }
    facts (suc k) h = absurd (omega arith)

-- ---- the specimens; Not is number 3 where it is added
-- "1 concept 2: false at 0, true at 1."
pub specimen-1 : Specimen [] [] (concept 2) (judged (False ∷ True ∷ []))
unfolding asked judge numbered below judge_of some_from successors has_edge range keep any has
specimen-1 = record { sound = sound-W [] [] tt tt; answer = refl }

-- "2 empty And: true."
pub specimen-2 : Specimen (Concept.And [] ∷ []) [] (concept 3) (judged (True ∷ True ∷ []))
unfolding asked judge numbered below judge_of and_from range
specimen-2 = record { sound = sound-W (Concept.And [] ∷ []) [] (below_all 3 [] tt, tt) tt; answer = refl }

abbrev Not : Concept
Not = Concept.Not 0

-- "3 And(Atomic 1, Not): false at 0, unresolved 5 at 1."
pub specimen-3 : Specimen (Not ∷ Concept.And (1 ∷ 3 ∷ []) ∷ []) [] (concept 4) (judged (False ∷ Unresolved construct.Not ∷ []))
unfolding asked judge numbered below judge_of and_from range has
specimen-3 = record { sound = sound-W (Not ∷ Concept.And (1 ∷ 3 ∷ []) ∷ []) [] (omega arith, (below_all 4 (1 ∷ 3 ∷ []) (omega arith), tt)) tt; answer = refl }

-- "4 EquivalentClasses(Not): Holds; 5 with Not twice: UnhandledConcept."
pub specimen-4 : Specimen (Not ∷ []) (Axiom.EquivalentClasses (3 ∷ []) ∷ []) (axiom-no 2) (checked Holds)
unfolding asked verdict scan all_agree votes judge numbered below judge_of range
specimen-4 = record { sound = sound-W (Not ∷ []) (Axiom.EquivalentClasses (3 ∷ []) ∷ []) (omega arith, tt) (below_all 4 (3 ∷ []) (omega arith), tt); answer = refl }

pub specimen-5 : Specimen (Not ∷ []) (Axiom.EquivalentClasses (3 ∷ 3 ∷ []) ∷ []) (axiom-no 2) (checked (UnhandledConcept construct.Not))
unfolding asked verdict scan all_agree votes judge numbered below judge_of range
specimen-5 = record { sound = sound-W (Not ∷ []) (Axiom.EquivalentClasses (3 ∷ 3 ∷ []) ∷ []) (omega arith, tt) (below_all 4 (3 ∷ 3 ∷ []) (omega arith), tt); answer = refl }

-- "6 DisjointClasses(Atomic 1, Atomic 1): Fails at 1; 7 Atomic 1 alone: Holds; 8 (Not, Atomic 1): UnhandledConcept."
pub specimen-6 : Specimen [] (Axiom.DisjointClasses (1 ∷ 1 ∷ []) ∷ []) (axiom-no 2) (checked (Fails (one 1)))
unfolding asked verdict scan at_most_one votes judge numbered below judge_of range has
specimen-6 = record { sound = sound-W [] (Axiom.DisjointClasses (1 ∷ 1 ∷ []) ∷ []) tt (below_all 3 (1 ∷ 1 ∷ []) (omega arith), tt); answer = refl }

pub specimen-7 : Specimen [] (Axiom.DisjointClasses (1 ∷ []) ∷ []) (axiom-no 2) (checked Holds)
unfolding asked verdict scan at_most_one votes judge numbered below judge_of range has
specimen-7 = record { sound = sound-W [] (Axiom.DisjointClasses (1 ∷ []) ∷ []) tt (below_all 3 (1 ∷ []) (omega arith), tt); answer = refl }

pub specimen-8 : Specimen (Not ∷ []) (Axiom.DisjointClasses (3 ∷ 1 ∷ []) ∷ []) (axiom-no 2) (checked (UnhandledConcept construct.Not))
unfolding asked verdict scan at_most_one votes judge numbered below judge_of range has
specimen-8 = record { sound = sound-W (Not ∷ []) (Axiom.DisjointClasses (3 ∷ 1 ∷ []) ∷ []) (omega arith, tt) (below_all 4 (3 ∷ 1 ∷ []) (omega arith), tt); answer = refl }

-- "9 SubClassOf(Bot, Not): Holds."
pub specimen-9 : Specimen (Not ∷ Concept.Bot ∷ []) (Axiom.SubClassOf 4 3 ∷ []) (axiom-no 2) (checked Holds)
unfolding asked verdict scan judge numbered below judge_of range
specimen-9 = record { sound = sound-W (Not ∷ Concept.Bot ∷ []) (Axiom.SubClassOf 4 3 ∷ []) (omega arith, (tt, tt)) ((omega arith, omega arith), tt); answer = refl }

-- "10 TransitiveRole 0: Holds; 11 SymmetricRole 0: GuardedRoleHasEdges."
pub specimen-10 : Specimen [] (Axiom.TransitiveRole (Role.Named 0) ∷ []) (axiom-no 2) (checked Holds)
unfolding asked verdict composed onward scan in_turn pairs successors has_edge range keep any mathlib.Core.List.flat_map
specimen-10 = record { sound = sound-W [] (Axiom.TransitiveRole (Role.Named 0) ∷ []) tt (omega arith, tt); answer = refl }

pub specimen-11 : Specimen [] (Axiom.SymmetricRole (Role.Named 0) ∷ []) (axiom-no 2) (checked (GuardedRoleHasEdges (record { 0 = 0 })))
unfolding asked verdict pairs successors has_edge range keep any mathlib.Core.List.flat_map
specimen-11 = record { sound = sound-W [] (Axiom.SymmetricRole (Role.Named 0) ∷ []) tt (omega arith, tt); answer = refl }
