-- Rounds of rules keep labels, and edges that fit: a Some's role is one of R, and its body is worked from the element that its label became.
use Prim.Native.Nat.{ℕ, zero, suc, ◌-◌, ◌<◌}
use mathlib.Core.Bool.{false, ◌||◌, ◌&&◌}
use mathlib.Core.Path.{◌≡◌}
use mathlib.Core.List.{List, []}
use native.Mathlib.Omega.{arith}
use lib.ListN.{length, get_or}
use lib.Dec.{eqb}
use Rattle.deck.specs.Deck.{Deck, Role, Concept, Axiom, concept_at}
use Rattle.deck.specs.Sound.{Sound, ConceptFits, counts_in}
use Rattle.eval.specs.Lists.{range}
use Rattle.eval.specs.Numbered.{numbered, below}
use Rattle.eval.proofs.Falling.{falling}
use Rattle.eval.proofs.ListLaws.{in-range}
use Rattle.eval.proofs.Steps.{fits, each_below}
use Rattle.build.specs.declared.bounds.Bounds.{Bounds}
use Rattle.build.specs.Intern.{index_of}
use Rattle.atoms.specs.Reasons.{bound_tripped}
use Rattle.build.specs.Model.{Model, trip_in, reach}
use Rattle.build.specs.Exists.{body_in, body_label, with_reasons, reach_body, work_of, work_step, idle, work}
use Rattle.model.specs.Rounds.{fire, fire_pair, fire_from, fire_axiom, visit, round, rounds, expand_from_axioms}
use Rattle.atoms.specs.Antecedent.{is_rule, holds_atoms}
use Rattle.build.proofs.InternLaws.{by_cond, by-case}
use Rattle.model.proofs.TidyLaws.{Tidy, tidy-zeros, tidy-floored, takes-row}
use Rattle.atoms.proofs.BodyLaws.{body-keeps}
use Rattle.build.proofs.ExistsLaws.{below-work}
use Rattle.model.proofs.RoundLaws.{axiom-case, visit-in-order}
use Rattle.model.proofs.KeepLaws.{Kept, kept_same, kept_trans, trip-kept, reasons-kept, walk_kept, index_below, reach-kept}

module _ (D : Deck) (W : Sound D) (floor : List ℕ) (T : Tidy D floor) (B : Bounds) where
  body-label-tidy : (r b : ℕ) (m : Model) → Tidy D (body_label D floor B r b m)
  body-label-tidy r b m = tidy-floored D floor (body_in D floor B r b m).label T (body-keeps D (Tidy D) (takes-row D W) (tidy-zeros D) r b m.state.log m.state.reasons)

  -- ---- a consequent from an element: `work` of smaller concepts keeps
  of-kept : (c : ℕ) (k : Concept) → ConceptFits (counts_in D) c k → (f : ℕ → ℕ → Model → Model) → ((o : ℕ) → o < c → (e : ℕ) (m : Model) → e < length m.labels → Kept D B m (f o e m))
      → (e : ℕ) (m : Model) → e < length m.labels → m.state.tripped ≡ false → Kept D B m (work_of D floor B f k e m)
  unfolding work_of reach_body reach
  of-kept c (Concept.And l) F f ih e m h q = walk_kept (suc e) (λ o. f o e) l (λ o i k. ih o (each_below c l F o i) e k) m h
  of-kept c (Concept.Some (Role.Named r) b) F f ih e m h q =
      let l = body_label D floor B r b m in
      let k = with_reasons m (body_in D floor B r b m) in
      kept_trans (reasons-kept m (body_in D floor B r b m)) (kept_trans (reach-kept B r e l k (body-label-tidy r b m) F.0 h q) (ih b F.1 (index_of m.labels l) (reach B r e l k) (index_below m.labels l)))
  of-kept c (Concept.Some (Role.Inverse r) b) F f ih e m h q = kept_same m
  of-kept c Concept.Top F f ih e m h q = kept_same m
  of-kept c Concept.Bot F f ih e m h q = kept_same m
  of-kept c (Concept.Atomic k) F f ih e m h q = kept_same m
  of-kept c (Concept.Nominal i) F f ih e m h q = kept_same m
  of-kept c (Concept.SelfRestriction r) F f ih e m h q = kept_same m
  of-kept c (Concept.Not b) F f ih e m h q = kept_same m
  of-kept c (Concept.Or l) F f ih e m h q = kept_same m
  of-kept c (Concept.All r b) F f ih e m h q = kept_same m
  of-kept c (Concept.Min n r b) F f ih e m h q = kept_same m
  of-kept c (Concept.Max n r b) F f ih e m h q = kept_same m

  step_kept : (c : ℕ) → ((o : ℕ) → o < c → (e : ℕ) (m : Model) → e < length m.labels → Kept D B m (work D floor B o e m)) → (e : ℕ) (m : Model) → e < length m.labels → Kept D B m (work D floor B c e m)
  unfolding work numbered work_step
  step_kept c ih e m h =
      let f : ℕ → ℕ → Model → Model = below (idle D floor B) (work_step D floor B) c in
      by-case (Kept D B m) m.state.tripped m (work_of D floor B f (concept_at D c) e m) (λ w. kept_same m)
      (of-kept c (concept_at D c) (fits D W c) f (λ o l e m h. rw (below-work D floor B c o l) (ih o l e m h)) e m h)

  pub work-kept : (c e : ℕ) (m : Model) → e < length m.labels → Kept D B m (work D floor B c e m)
  work-kept = falling (λ c. (e : ℕ) (m : Model) → e < length m.labels → Kept D B m (work D floor B c e m)) step_kept

  -- ---- rules at an element
  module _ (e : ℕ) where
    fire-kept : (ante sup : ℕ) (m : Model) → e < length m.labels → Kept D B m (fire D floor B e ante sup m)
    unfolding fire
    fire-kept ante sup m h = by_cond (Kept D B m) (holds_atoms D (get_or m.labels e []) ante && is_rule D ante) (work D floor B sup e m) m (work-kept sup e m h) (kept_same m)

    pair-kept : (a b : ℕ) (m : Model) → e < length m.labels → Kept D B m (fire_pair D floor B e a b m)
    unfolding fire_pair
    pair-kept a b m h = by_cond (Kept D B m) (eqb a b) m (fire D floor B e a b m) (kept_same m) (fire-kept a b m h)

    from-kept : (l : List ℕ) (a : ℕ) (m : Model) → e < length m.labels → Kept D B m (fire_from D floor B e l a m)
    unfolding fire_from
    from-kept l a = walk_kept (suc e) (fire_pair D floor B e a) l (λ b i. pair-kept a b)

    axiom-kept : (x : Axiom) (m : Model) → e < length m.labels → Kept D B m (fire_axiom D floor B e x m)
    axiom-kept x m h = axiom-case D floor B e m (Kept D B m) (kept_same m) (λ ante sup. fire-kept ante sup m h) (λ l. walk_kept (suc e) (fire_from D floor B e l) l (λ a i. from-kept l a) m h) x

    visit-kept : (m : Model) → e < length m.labels → Kept D B m (visit D floor B e m)
    visit-kept m h = rw (visit-in-order D floor B e m) (walk_kept (suc e) (fire_axiom D floor B e) D.axioms (λ x i. axiom-kept x) m h)

  -- ---- rounds
  round-kept : (m : Model) → Kept D B m (round D floor B m)
  unfolding round
  round-kept m =
      let n = length m.labels in
      walk_kept n (visit D floor B) (range 0 n) (λ e i k l. visit-kept e k (omega (arith, (in-range 0 n e i).1, l))) m (omega arith)

  rounds-kept : (more : ℕ) (m : Model) → Kept D B m (rounds D floor B more m)
  unfolding rounds
  rounds-kept zero m =
      let n = round D floor B m in
      by_cond (Kept D B m) (n.state.tripped || eqb (length n.labels) (length m.labels)) n (trip_in (bound_tripped 2 B.max_rounds) n) (round-kept m)
      (kept_trans (round-kept m) (trip-kept (bound_tripped 2 B.max_rounds) n))
  rounds-kept (suc more) m =
      let n = round D floor B m in
      by_cond (Kept D B m) (n.state.tripped || eqb (length n.labels) (length m.labels)) n (rounds D floor B more n) (round-kept m) (kept_trans (round-kept m) (rounds-kept more n))

  pub axioms-kept : (m : Model) → Kept D B m (expand_from_axioms D floor B m)
  unfolding expand_from_axioms
  axioms-kept m = rounds-kept (B.max_rounds - 1) m
