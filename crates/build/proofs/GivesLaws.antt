-- What building gives does not hang on the log: a step that leaves elements and edges as they were gives the same reasons, whatever the log.
--     Adds                                    what a step may do
--     adds-none, adds-then, adds-walk         no step, two steps, a walk of steps
--     work-adds                               a consequent from an element
--     work-grows                              so where the total of reasons stands too, nothing has changed
use Prim.Native.Nat.{ℕ, zero, suc, ◌+◌, ◌<◌, ◌≤◌}
use mathlib.Core.Bool.{Bool, true, false, cond}
use mathlib.Core.Path.{◌≡◌, refl, sym, ap, ◌∙◌}
use mathlib.Core.List.{List, [], ◌∷◌, ◌++◌}
use mathlib.Core.Logic.{⊎_elim}
use native.Mathlib.Omega.{arith}
use lib.ListN.{length, length-append}
use lib.Dec.{eqb, ltb}
use Rattle.deck.specs.Deck.{Deck, Role, Concept, concept_at}
use Rattle.deck.proofs.CaseLaws.{lt-or-le}
use Rattle.eval.specs.declared.edges.Edge.{Edge}
use Rattle.eval.specs.Edges.{edge_in}
use Rattle.eval.specs.Numbered.{numbered, below}
use Rattle.eval.proofs.Clash.{clash}
use Rattle.build.specs.declared.bounds.Bounds.{Bounds}
use Rattle.atoms.specs.Walk.{walk}
use Rattle.atoms.specs.Floor.{floored, required_atoms}
use Rattle.atoms.specs.Reasons.{bound_tripped, counted, Log, note}
use Rattle.atoms.specs.Body.{reasons_of}
use Rattle.build.specs.Intern.{index_of, interned}
use Rattle.build.specs.Push.{State, edge, added, push_edge}
use Rattle.build.specs.Model.{Model, trip_state, linked, reach}
use Rattle.build.specs.Exists.{body_in, body_label, with_reasons, reach_body, work_of, work_step, idle, work}
use Rattle.build.specs.Again.{structure_size, LiveModel, log_of, with_log, Given}
use Rattle.build.proofs.InternLaws.{interned-known, interned-new, interned-grows, by_cond}
use Rattle.build.proofs.GrowLaws.{counted-up, notes-grow, Builds}
use Rattle.atoms.proofs.BodyLaws.{body-label, body-reasons}
use Rattle.atoms.proofs.WalkLaws.{walk-append}

-- elements, edges and reasons do not fall, and where elements and edges stand, and what is left is live, reasons were given and no more
pub record Adds (f : Model → Model) (m : Model) : Type 0 where
  pub up : structure_size m ≤ structure_size (f m)
  pub more : m.state.reasons ≤ (f m).state.reasons
  pub still : structure_size (f m) ≡ structure_size m → LiveModel (f m) → Given f m

-- what it leaves
pub given-now : {f : Model → Model} {m : Model} → (G : Given f m) → f m ≡ with_log m (walk note G.reasons (log_of m))
given-now {f} {m} G = G.is (log_of m)

-- ---- no step, two steps, a walk of steps
pub adds-none : (m : Model) → Adds (λ n. n) m
unfolding walk
adds-none m = record { up = omega arith; more = omega arith; still = λ q v. record { reasons = []; is = λ g. refl } }

-- the second by what k reads of the structure before the first
module _ {A : Type 0} (f : Model → Model) (h : A → Model → Model) (k : Model → A) {m : Model} (K : (g : Log) → k (with_log m g) ≡ k m) (X : Adds f m) (Y : Adds (h (k m)) (f m)) where
  then-is : (F : Given f m) (H : Given (h (k m)) (f m)) (g : Log) → h (k (with_log m g)) (f (with_log m g)) ≡ with_log m (walk note (F.reasons ++ H.reasons) g)
  then-is F H g =
      let g₁ : Log = walk note F.reasons g in
      let same : (u : Log) → with_log (f m) u ≡ with_log m u = λ u. ap (λ (n : Model). with_log n u) (given-now F) in
      let first : h (k (with_log m g)) (f (with_log m g)) ≡ h (k m) (with_log (f m) g₁) = rw (K g, F.is g, same g₁) refl in
      first ∙ H.is g₁ ∙ same (walk note H.reasons g₁) ∙ ap (with_log m) (sym (walk-append note F.reasons H.reasons g))

  pub adds-then : Adds (λ n. h (k n) (f n)) m
  adds-then = record {
    up = omega (arith, X.up, Y.up);
    more = omega (arith, X.more, Y.more);
    still = λ q v.
        let H : Given (h (k m)) (f m) = Y.still (omega (arith, X.up, Y.up, q)) v in
        let live : LiveModel (f m) = sym (ap (λ (n : Model). n.state.tripped) (given-now H)) ∙ v in
        let F : Given f m = X.still (omega (arith, X.up, Y.up, q)) live in
        record { reasons = F.reasons ++ H.reasons; is = then-is F H };
  }

pub adds-walk : {A : Type 0} (f : A → Model → Model) (l : List A) → ((x : A) (m : Model) → Adds (f x) m) → (m : Model) → Adds (walk f l) m
unfolding walk
adds-walk f [] a m = adds-none m
adds-walk {A} f (x ∷ xs) a m = adds-then {A = ℕ} (f x) (λ i. walk f xs) (λ n. 0) (λ g. refl) (a x m) (adds-walk f xs a (f x m))

-- after a trip nothing
adds-live : (h : Model → Model) (m : Model) → Adds h m → Adds (λ n. cond n.state.tripped n (h n)) m
adds-live h m X = go m.state.tripped refl
  where
    go : (b : Bool) → m.state.tripped ≡ b → Adds (λ n. cond n.state.tripped n (h n)) m
    go true p =
        let e : cond m.state.tripped m (h m) ≡ m = ap (λ (c : Bool). cond c m (h m)) p in
        record {
          up = omega (arith, ap structure_size e);
          more = omega (arith, ap (λ (k : Model). k.state.reasons) e);
          still = λ q v. let w : true ≡ false = sym (ap (λ (k : Model). k.state.tripped) e ∙ p) ∙ v in clash (cc);
        }
    go false p =
        let e : cond m.state.tripped m (h m) ≡ h m = ap (λ (c : Bool). cond c m (h m)) p in
        record {
          up = omega (arith, X.up, ap structure_size e);
          more = omega (arith, X.more, ap (λ (k : Model). k.state.reasons) e);
          still = λ q v.
              let G : Given h m = X.still (sym (ap structure_size e) ∙ q) (sym (ap (λ (k : Model). k.state.tripped) e) ∙ v) in
              record { reasons = G.reasons; is = λ g. ap (λ (c : Bool). cond c (with_log m g) (h (with_log m g))) p ∙ G.is g };
        }

-- ---- the element of a label, and the edge to it
interned-still : (ls : List (List ℕ)) (l : List ℕ) → length (interned ls l) ≡ length ls → interned ls l ≡ ls
interned-still ls l q =
    ⊎_elim (λ (h : index_of ls l < length ls). interned-known ls l h)
    (λ (h : length ls ≤ index_of ls l). absurd (omega (arith, q, ap length (interned-new ls l h), length-append ls (l ∷ [])))) (lt-or-le (index_of ls l) (length ls))

module _ (B : Bounds) (n : ℕ) (e : Edge) (s : State) where
  abbrev Up : State → Type 0
  Up s' = (length s.edges ≤ length s'.edges) × (s.reasons ≤ s'.reasons)

  added-up : Up (added B.max_edges e s)
  added-up =
      let trips = ltb B.max_edges (length s.edges + 1) in
      (omega (arith, length-append s.edges (e ∷ [])), by_cond (λ (r : ℕ). s.reasons ≤ r) trips (counted s.reasons) s.reasons (counted-up s.reasons) (omega arith))

  pub linked-up : Up (linked B n e s)
  unfolding push_edge
  linked-up =
      let new : State = added B.max_edges e s in
      let known = edge_in s.edges e.role.0 e.from.0 e.to.0 in
      by_cond Up (ltb B.max_elements n) (trip_state (bound_tripped 0 B.max_elements) s) (push_edge B.max_edges e s) (omega arith, counted-up s.reasons)
      (by_cond Up s.tripped s (cond known s new) (omega arith, omega arith) (by_cond Up known s new (omega arith, omega arith) added-up))

  -- where the edges stand, and nothing tripped, the edge was known
  pub record KnownEdge : Type 0 where
    pub within : ltb B.max_elements n ≡ false
    pub live : s.tripped ≡ false
    pub known : edge_in s.edges e.role.0 e.from.0 e.to.0 ≡ true

  pub linked-still : length (linked B n e s).edges ≡ length s.edges → (linked B n e s).tripped ≡ false → KnownEdge
  unfolding push_edge
  linked-still q v = go (ltb B.max_elements n) s.tripped (edge_in s.edges e.role.0 e.from.0 e.to.0) refl refl refl
    where
      go : (o t k : Bool) → ltb B.max_elements n ≡ o → s.tripped ≡ t → edge_in s.edges e.role.0 e.from.0 e.to.0 ≡ k → KnownEdge
      go true t k p u w = let z : (linked B n e s).tripped ≡ true = rw p refl in clash (cc)
      go false true k p u w = let z : (linked B n e s).tripped ≡ true = rw (p, u) refl in clash (cc)
      go false false false p u w = let z : length (linked B n e s).edges ≡ length (s.edges ++ (e ∷ [])) = rw (p, u, w) refl in absurd (omega (arith, z, q, length-append s.edges (e ∷ [])))
      go false false true p u w = record { within = p; live = u; known = w }

reach-known : (B : Bounds) (r x : ℕ) (l : List ℕ) (m : Model) → KnownEdge B (length (interned m.labels l)) (edge r x (index_of m.labels l)) m.state → interned m.labels l ≡ m.labels → (g : Log) → reach B r x l (with_log m g) ≡ with_log m (walk note [] g)
unfolding reach push_edge walk
reach-known B r x l m K e g =
    let p : reach B r x l (with_log m g) ≡ record { labels = interned m.labels l; state = (with_log m g).state } = rw (K.within, K.live, K.known) refl in
    p ∙ ap (λ (ls : List (List ℕ)). record { labels = ls; state = (with_log m g).state }) e

reach-adds : (B : Bounds) (r x : ℕ) (l : List ℕ) (m : Model) → Adds (reach B r x l) m
unfolding reach
reach-adds B r x l m =
    let n : ℕ = length (interned m.labels l) in
    let e : Edge = edge r x (index_of m.labels l) in
    let up = linked-up B n e m.state in
    let grown = (interned-grows m.labels l).0 in
    record {
      up = omega (arith, grown, up.0);
      more = up.1;
      still = λ q v. record { reasons = []; is = reach-known B r x l m (linked-still B n e m.state (omega (arith, grown, up.0, q)) v) (interned-still m.labels l (omega (arith, grown, up.0, q))) };
    }

-- ---- a consequent from an element
module _ (D : Deck) (floor : List ℕ) (B : Bounds) where
  abbrev noted_body : ℕ → ℕ → Model → Model
  noted_body r b m = with_reasons m (body_in D floor B r b m)

  body-is : (r b : ℕ) (m : Model) → noted_body r b m ≡ with_log m (walk note (reasons_of D r (required_atoms D b)) (log_of m))
  body-is r b m = ap (with_log m) (body-reasons D r m.state.log m.state.reasons b)

  body-adds : (r b : ℕ) (m : Model) → Adds (noted_body r b) m
  body-adds r b m = record {
    up = omega arith;
    more = omega (arith, (notes-grow (reasons_of D r (required_atoms D b)) (log_of m)).up, ap (λ (k : Model). k.state.reasons) (body-is r b m));
    still = λ q v. record { reasons = reasons_of D r (required_atoms D b); is = λ g. body-is r b (with_log m g) };
  }

  -- the label of a body hangs on the deck alone
  label-same : (r b : ℕ) (m : Model) (g : Log) → body_label D floor B r b (with_log m g) ≡ body_label D floor B r b m
  label-same r b m g = ap (floored D floor) (body-label D r g.words g.total b ∙ sym (body-label D r m.state.log m.state.reasons b))

  pub reach-body-adds : (r b e : ℕ) (m : Model) → Adds (reach_body D floor B r b e) m
  unfolding reach_body
  reach-body-adds r b e m =
      adds-then (noted_body r b) (reach B r e) (body_label D floor B r b) (label-same r b m) (body-adds r b m) (reach-adds B r e (body_label D floor B r b m) (noted_body r b m))

  -- `work` of smaller concepts adds
  of-adds : (k : Concept) (f : ℕ → ℕ → Model → Model) → ((o e : ℕ) (m : Model) → Adds (f o e) m) → (e : ℕ) (m : Model) → Adds (work_of D floor B f k e) m
  unfolding work_of
  of-adds (Concept.And l) f ih e m = adds-walk (λ o. f o e) l (λ o. ih o e) m
  of-adds (Concept.Some (Role.Named r) b) f ih e m =
      adds-then (reach_body D floor B r b e) (f b) (λ n. index_of n.labels (body_label D floor B r b n)) (λ g. ap (index_of m.labels) (label-same r b m g)) (reach-body-adds r b e m)
      (ih b (index_of m.labels (body_label D floor B r b m)) (reach_body D floor B r b e m))
  of-adds (Concept.Some (Role.Inverse r) b) f ih e m = adds-none m
  of-adds Concept.Top f ih e m = adds-none m
  of-adds Concept.Bot f ih e m = adds-none m
  of-adds (Concept.Atomic k) f ih e m = adds-none m
  of-adds (Concept.Nominal i) f ih e m = adds-none m
  of-adds (Concept.SelfRestriction r) f ih e m = adds-none m
  of-adds (Concept.Not b) f ih e m = adds-none m
  of-adds (Concept.Or l) f ih e m = adds-none m
  of-adds (Concept.All r b) f ih e m = adds-none m
  of-adds (Concept.Min n r b) f ih e m = adds-none m
  of-adds (Concept.Max n r b) f ih e m = adds-none m

  step-adds : (c : ℕ) (f : ℕ → ℕ → Model → Model) → ((o e : ℕ) (m : Model) → Adds (f o e) m) → (e : ℕ) (m : Model) → Adds (work_step D floor B c f e) m
  unfolding work_step
  step-adds c f ih e m = adds-live (work_of D floor B f (concept_at D c) e) m (of-adds (concept_at D c) f ih e m)

  below-adds : (n o e : ℕ) (m : Model) → Adds (below (idle D floor B) (work_step D floor B) n o e) m
  unfolding below
  below-adds zero o e m = adds-none m
  below-adds (suc n) o e m =
      let f : ℕ → ℕ → Model → Model = below (idle D floor B) (work_step D floor B) n in
      by_cond (λ (g : ℕ → Model → Model). Adds (g e) m) (eqb o n) (work_step D floor B n f) (f o) (step-adds n f (below-adds n) e m) (below-adds n o e m)

  pub work-adds : (c e : ℕ) (m : Model) → Adds (work D floor B c e) m
  unfolding work numbered
  work-adds c e m = step-adds c (below (idle D floor B) (work_step D floor B) c) (below-adds c) e m

-- ---- where the reasons stand too, nothing has changed
pub adds-build : (f : Model → Model) (m : Model) → Adds f m → Builds m (f m)
adds-build f m X = record {
  up = omega (arith, X.up, X.more);
  still = λ q v.
      let G : Given f m = X.still (omega (arith, X.up, X.more, q)) v in
      let e : f m ≡ with_log m (walk note G.reasons (log_of m)) = given-now G in
      let n : (walk note G.reasons (log_of m)).total ≡ m.state.reasons = omega (arith, X.up, X.more, q, ap (λ (k : Model). k.state.reasons) e) in
      e ∙ ap (with_log m) ((notes-grow G.reasons (log_of m)).still n tt);
}

pub work-grows : (D : Deck) (floor : List ℕ) (B : Bounds) (c e : ℕ) (m : Model) → Builds m (work D floor B c e m)
work-grows D floor B c e m = adds-build (work D floor B c e) m (work-adds D floor B c e m)
