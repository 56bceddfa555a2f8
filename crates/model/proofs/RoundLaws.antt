-- Rounds of rules.
--     axiom-case                        an axiom, by what it does to a model
--     pair_stuck, …, visit-stuck        after a trip nothing changes
--     fire-yes, fire-no                 a rule at an element, as the code tests it
--     pair_same, pair-differs           two members
--     sub-class-fires, …, other-fires   an axiom that was read
--     Rounding                           rounds, one after the other
use Prim.Native.Nat.{ℕ, zero, suc, ◌+◌, ◌-◌, ◌<◌, ◌≤◌}
use mathlib.Core.Bool.{Bool, true, false, cond, ◌||◌, ◌&&◌, or-true}
use mathlib.Core.Path.{◌≡◌, refl, sym, ap, ◌∙◌}
use mathlib.Core.List.{List, []}
use native.Mathlib.Nat.{sub-zero}
use native.Mathlib.Omega.{arith}
use lib.ListN.{length, get_or}
use lib.Dec.{eqb}
use borrow.Author.Tests.{eq-eqb, ne_eqb}
use Rattle.std.specs.Prelude.{max}
use Rattle.deck.specs.declared.axioms.AxiomRecord.{AxiomRecord}
use Rattle.deck.specs.Deck.{Deck, Axiom, axiom_at}
use Rattle.deck.specs.Content.{deck_of, axiom_of, make_axiom}
use Rattle.deck.specs.Reads.{AxiomRead, list_of}
use Rattle.deck.proofs.CaseLaws.{Cases, case_at}
use Rattle.eval.specs.Lent.{label_width}
use Rattle.eval.specs.Lists.{range}
use Rattle.build.specs.declared.bounds.Bounds.{Bounds}
use Rattle.build.specs.declared.building.Build.{Build}
use Rattle.atoms.specs.Walk.{walk}
use Rattle.atoms.specs.Reasons.{bound_tripped, noted, counted}
use Rattle.build.specs.Model.{Model, trip_in, Built}
use Rattle.build.specs.Building.{deck_in, buffers, step_to, model_of, model_by, Ready, Same, Holds}
use Rattle.build.specs.Exists.{work}
use Rattle.model.specs.Rounds.{fire, fire_pair, fire_from, fire_axiom, visit, round, rounds, expand_from_axioms}
use Rattle.atoms.specs.Antecedent.{is_rule, holds_atoms}
use Rattle.build.proofs.ExistsLaws.{work-stuck}
use Rattle.atoms.proofs.RowLaws.{length-rows}
use Rattle.build.proofs.IdleLaws.{either}
use Rattle.atoms.proofs.FloorLaws.{axiom-sub-class, axiom-equivalent}
use Rattle.atoms.proofs.WalkLaws.{walk-fixed, walk-placed}
use Rattle.build.proofs.BuildLaws.{built-is, built-start, built-tripped, built-count, built-quiet, built-trip, built-trans}
use Rattle.build.proofs.BuildingLaws.{same-trans, holds-same, holds-is, ready-after}

-- ---- an axiom: what holds of the model as it was, of a rule, and of the pairs of a list holds after it
module _ (D : Deck) (floor : List ℕ) (B : Bounds) (e : ℕ) (m : Model) (Q : Model → Type 0) (same : Q m) (rule : (ante sup : ℕ) → Q (fire D floor B e ante sup m)) (pairs : (l : List ℕ) → Q (walk (fire_from D floor B e l) l m)) where
  pub axiom-case : (x : Axiom) → Q (fire_axiom D floor B e x m)
  unfolding fire_axiom
  axiom-case (Axiom.SubClassOf sub sup) = rule sub sup
  axiom-case (Axiom.EquivalentClasses l) = pairs l
  axiom-case (Axiom.DisjointClasses l) = same
  axiom-case (Axiom.DisjointUnion k l) = same
  axiom-case (Axiom.SubObjectPropertyOf p q) = same
  axiom-case (Axiom.SubObjectPropertyChain l q) = same
  axiom-case (Axiom.EquivalentObjectProperties l) = same
  axiom-case (Axiom.DisjointObjectProperties l) = same
  axiom-case (Axiom.InverseObjectProperties p q) = same
  axiom-case (Axiom.ObjectPropertyDomain r c) = same
  axiom-case (Axiom.ObjectPropertyRange r c) = same
  axiom-case (Axiom.TransitiveRole r) = same
  axiom-case (Axiom.SymmetricRole r) = same
  axiom-case (Axiom.AsymmetricRole r) = same
  axiom-case (Axiom.ReflexiveRole r) = same
  axiom-case (Axiom.IrreflexiveRole r) = same
  axiom-case (Axiom.FunctionalRole r) = same
  axiom-case (Axiom.InverseFunctionalRole r) = same
  axiom-case (Axiom.ClassAssertion c i) = same
  axiom-case (Axiom.ObjectPropertyAssertion r i j) = same
  axiom-case (Axiom.NegativeObjectPropertyAssertion r i j) = same
  axiom-case (Axiom.SameIndividual l) = same
  axiom-case (Axiom.DifferentIndividuals l) = same
  axiom-case (Axiom.DeclareClass k) = same
  axiom-case (Axiom.DeclareObjectProperty r) = same
  axiom-case (Axiom.DeclareNamedIndividual i) = same

pub visit-in-order : (D : Deck) (floor : List ℕ) (B : Bounds) (e : ℕ) (m : Model) → visit D floor B e m ≡ walk (fire_axiom D floor B e) D.axioms m
unfolding visit
visit-in-order D floor B e m = walk-placed (Axiom.DeclareClass 0) (fire_axiom D floor B e) D.axioms m

-- ---- after a trip
module _ (D : Deck) (floor : List ℕ) (B : Bounds) (e : ℕ) (m : Model) (w : m.state.tripped ≡ true) where
  fire-stuck : (ante sup : ℕ) → fire D floor B e ante sup m ≡ m
  unfolding fire
  fire-stuck ante sup = either (holds_atoms D (get_or m.labels e []) ante && is_rule D ante) (work-stuck D floor B sup e m w) refl

  pub pair_stuck : (a b : ℕ) → fire_pair D floor B e a b m ≡ m
  unfolding fire_pair
  pair_stuck a b = either (eqb a b) refl (fire-stuck a b)

  pub from-stuck : (l : List ℕ) (a : ℕ) → fire_from D floor B e l a m ≡ m
  unfolding fire_from
  from-stuck l a = walk-fixed (fire_pair D floor B e a) l m (pair_stuck a)

  pub axiom-stuck : (x : Axiom) → fire_axiom D floor B e x m ≡ m
  axiom-stuck = axiom-case D floor B e m (λ k. k ≡ m) refl fire-stuck (λ l. walk-fixed (fire_from D floor B e l) l m (from-stuck l))

  pub visit-stuck : visit D floor B e m ≡ m
  visit-stuck = visit-in-order D floor B e m ∙ walk-fixed (fire_axiom D floor B e) D.axioms m axiom-stuck

module _ (D : Deck) (floor : List ℕ) (B : Bounds) (e : ℕ) (m : Model) where
  -- ---- a rule, as the code tests it
  module _ (ante sup : ℕ) {f : Bool} (k : f ≡ (holds_atoms D (get_or m.labels e []) ante && is_rule D ante)) where
    pub fire-yes : f ≡ true → work D floor B sup e m ≡ fire D floor B e ante sup m
    unfolding fire
    fire-yes w = rw (sym k ∙ w)

    pub fire-no : f ≡ false → m ≡ fire D floor B e ante sup m
    unfolding fire
    fire-no w = rw (sym k ∙ w)

  -- ---- two members
  pub pair_same : (a b : ℕ) → a ≡ b → m ≡ fire_pair D floor B e a b m
  unfolding fire_pair
  pair_same a b q = rw (eq-eqb a b q)

  pub pair-differs : (a b : ℕ) → (a ≡ b → ⊥) → fire D floor B e a b m ≡ fire_pair D floor B e a b m
  unfolding fire_pair
  pair-differs a b q = rw (ne_eqb a b q)

  -- ---- an axiom, by its tag
  module _ (s : List ℕ) (x y z : ℕ) where
    Idle : ℕ → Type 0
    Idle k = m ≡ fire_axiom D floor B e (axiom_of s (2 + k) x y z) m

    all-idle : Cases Idle 24
    unfolding Idle axiom_of make_axiom fire_axiom
    all-idle = ((((((((((((((((((((((((tt, refl), refl), refl), refl), refl), refl), refl), refl), refl), refl), refl), refl), refl), refl), refl), refl), refl), refl), refl), refl), refl), refl), refl), refl)

    idle-tag : (tag : ℕ) → 2 ≤ tag → tag < 26 → m ≡ fire_axiom D floor B e (axiom_of s tag x y z) m
    unfolding Idle
    idle-tag tag h k = let q : 2 + (tag - 2) ≡ tag = omega arith in rw q at (case_at Idle 24 (tag - 2) all-idle (omega arith))

-- ---- an axiom that was read
module _ {s : List ℕ} {a : ℕ} {r : AxiomRecord} (R : AxiomRead s a r) (floor : List ℕ) (B : Bounds) (e : ℕ) (m : Model) where
  pub sub-class-fires : r.tag ≡ 0 → fire (deck_of s) floor B e r.first r.second m ≡ fire_axiom (deck_of s) floor B e (axiom_at (deck_of s) a) m
  unfolding fire_axiom
  sub-class-fires q = ap (λ x. fire_axiom (deck_of s) floor B e x m) (axiom-sub-class s a R q)

  pub equivalent-fires : r.tag ≡ 1
      → fire_axiom (deck_of s) floor B e (Axiom.EquivalentClasses (list_of s (record { start = r.first; count = r.second }))) m ≡ fire_axiom (deck_of s) floor B e (axiom_at (deck_of s) a) m
  equivalent-fires q = ap (λ x. fire_axiom (deck_of s) floor B e x m) (axiom-equivalent s a R q)

  pub other-fires : 2 ≤ r.tag → m ≡ fire_axiom (deck_of s) floor B e (axiom_at (deck_of s) a) m
  other-fires h = idle-tag (deck_of s) floor B e m s r.first r.second r.third r.tag h R.known ∙ ap (λ x. fire_axiom (deck_of s) floor B e x m) R.is

-- ---- a round: the elements that the tally counts
pub round-walk : (b : Build) → walk (visit (deck_in b) b.plan.floor.now b.plan.bounds) (range 0 (b.tally.elements - 0)) (model_of b) ≡ round (deck_in b) b.plan.floor.now b.plan.bounds (model_of b)
unfolding round
round-walk b = rw (sub-zero b.tally.elements, length-rows (label_width (deck_in b)) b.tally.elements b.labels.now)

-- ---- rounds
module _ (D : Deck) (floor : List ℕ) (B : Bounds) where
  -- what is left where so many rounds may still come, and the bound trips after the last
  abbrev pub rest : ℕ → Model → Model
  rest zero m = trip_in (bound_tripped 2 B.max_rounds) m
  rest (suc k) m = rounds D floor B k m

  module _ (m : Model) where
    ended : Bool
    ended = (round D floor B m).state.tripped || eqb (length (round D floor B m).labels) (length m.labels)

    one_round : (k : ℕ) → rounds D floor B k m ≡ cond ended (round D floor B m) (rest k (round D floor B m))
    unfolding rounds ended
    one_round zero = refl
    one_round (suc k) = refl

    ends_it : ended ≡ true → (k : ℕ) → rounds D floor B k m ≡ round D floor B m
    ends_it q k = one_round k ∙ rw q

    goes_on : ended ≡ false → (k : ℕ) → rounds D floor B k m ≡ rest k (round D floor B m)
    goes_on q k = one_round k ∙ rw q

    ended-trip : (round D floor B m).state.tripped ≡ true → ended ≡ true
    unfolding ended
    ended-trip w = rw w

    ended-still : length (round D floor B m).labels ≡ length m.labels → ended ≡ true
    unfolding ended
    ended-still w = rw (eq-eqb (length (round D floor B m).labels) (length m.labels) w, or-true)

    not-ended : (round D floor B m).state.tripped ≡ false → (length (round D floor B m).labels ≡ length m.labels → ⊥) → ended ≡ false
    unfolding ended
    not-ended w h = rw w (ne_eqb (length (round D floor B m).labels) (length m.labels) h)

  of-suc : (k : ℕ) → 0 < k → (m : Model) → rest k m ≡ rounds D floor B (k - 1) m
  of-suc zero h m = absurd (omega arith)
  of-suc (suc k) h m = let z : suc k - 1 ≡ k = omega arith in ap (λ j. rounds D floor B j m) (sym z)

-- the rounds from a on have come so far that k may still come, and b holds where they are
pub record Rounding (a : Build) (k : ℕ) (b : Build) : Type 0 where
  pub holds : Holds a b false (model_by a b)
  pub goes : expand_from_axioms (deck_in a) a.plan.floor.now a.plan.bounds (model_of a) ≡ rest (deck_in a) a.plan.floor.now a.plan.bounds k (model_by a b)

pub rounding-start : {a : Build} → Ready a → {k : ℕ} → k ≡ max a.plan.bounds.max_rounds 1 → Rounding a k a
unfolding expand_from_axioms
rounding-start {a} P {k} q = record { holds = holds-same P; goes = let z : k - 1 ≡ a.plan.bounds.max_rounds - 1 = omega (arith, q) in rw z at (sym (of-suc (deck_in a) a.plan.floor.now a.plan.bounds k (omega (arith, q)) (model_of a))) }

module _ {a b : Build} {k : ℕ} (G : Rounding a k b) where
  pub rounding-ready : Ready a → Ready b
  rounding-ready P = ready-after P G.holds

  abbrev D : Deck
  D = deck_in a

  abbrev floor : List ℕ
  floor = a.plan.floor.now

  abbrev B : Bounds
  B = a.plan.bounds

  -- another round
  module _ {c : Build} {r : Bool} (H : Holds b c r (round (deck_in b) b.plan.floor.now b.plan.bounds (model_of b))) (h : 0 < k) where
    turn : Holds a c r (round D floor B (model_by a b))
    turn = record { same = same-trans G.holds.same H.same; built = built-trans G.holds.built (rw G.holds.same.plan at H.built) }

    this : expand_from_axioms D floor B (model_of a) ≡ rounds D floor B (k - 1) (model_by a b)
    this = G.goes ∙ of-suc D floor B k h (model_by a b)

    pub rounding-trip : r ≡ true → Holds a c r (expand_from_axioms D floor B (model_of a))
    rounding-trip w = holds-is turn (sym (this ∙ ends_it D floor B _ (ended-trip D floor B _ (built-tripped turn.built ∙ w)) (k - 1)))

    counts : length (model_by a b).labels ≡ b.tally.elements
    counts = length-rows (label_width D) b.tally.elements b.labels.now

    pub rounding-still : c.tally.elements ≡ b.tally.elements → Holds a c r (expand_from_axioms D floor B (model_of a))
    rounding-still w = holds-is turn (sym (this ∙ ends_it D floor B _ (ended-still D floor B _ (built-count turn.built ∙ w ∙ sym counts)) (k - 1)))

    pub rounding-more : r ≡ false → (c.tally.elements ≡ b.tally.elements → ⊥) → Rounding a (k - 1) c
    rounding-more w n =
        let e : ended D floor B (model_by a b) ≡ false = not-ended D floor B _ (built-tripped turn.built ∙ w) (λ q. n (sym (built-count turn.built) ∙ q ∙ counts)) in
        let s = built-start turn.built w in
        record {
          holds = record { same = turn.same; built = built-quiet turn.built w };
          goes = this ∙ goes_on D floor B _ e (k - 1) ∙ ap (rest D floor B (k - 1)) (sym s);
        }

  -- none left: the bound trips
  pub rounding-last : Ready a → k ≡ 0 → {c : Build} → Same b c → c.log.now ≡ noted b.log.now b.tally.reasons (bound_tripped 2 B.max_rounds) → c.tally ≡ record { elements = b.tally.elements; edges = b.tally.edges; reasons = counted b.tally.reasons }
      → (c.label ≡ b.label) × (c.labels ≡ b.labels) × (c.edges ≡ b.edges) → Holds a c true (expand_from_axioms D floor B (model_of a))
  rounding-last P z {c} S l t u =
      let x = bound_tripped 2 B.max_rounds in
      let Y : Built (deck_in b) b.plan.bounds (buffers b) b.tally (buffers c) c.label.now (step_to c true) (trip_in x (model_of b)) = rw (u.0, u.1, u.2) (built-trip (rounding-ready P) x l (rw t)) in
      let e : expand_from_axioms D floor B (model_of a) ≡ trip_in x (model_by a b) = rw z at G.goes in
      record { same = same-trans G.holds.same S; built = built-is (built-trans G.holds.built (rw G.holds.same.plan at Y)) (sym e) }
