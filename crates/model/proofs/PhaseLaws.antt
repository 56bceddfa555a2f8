-- The phases one after the other, as the code takes them. Assumes nothing.
--     later-one … later-four      where the phases after seeding end
--     holds-two … holds-four      what each phase leaves of a structure in the making
--     ready-seeded, seeded-fit    what the phases after seeding need
--     built-up                    all that is built
use Prim.Native.Nat.{ℕ, zero, suc, ◌+◌, ◌*◌, ◌<◌, ◌≤◌}
use mathlib.Core.Bool.{Bool, true, false, cond}
use mathlib.Core.Path.{◌≡◌, refl, sym, ap, subst, ◌∙◌}
use mathlib.Core.List.Memᴰ.{not-nil as nothing-in}
use mathlib.Core.List.{List, map}
use native.Mathlib.Nat.{mul-le-mul_right}
use native.Mathlib.Omega.{arith}
use lib.ListN.{length, length-map}
use lib.Dec.{leb, ltb}
use borrow.Author.Tests.{le-leb, lt-leb}
use Rattle.deck.specs.Deck.{Deck, class_count}
use Rattle.deck.specs.Content.{deck_of}
use Rattle.eval.specs.Edges.{edges_of, row_of}
use Rattle.eval.specs.Lent.{label_width}
use Rattle.build.specs.declared.bounds.Bounds.{Bounds}
use Rattle.build.specs.declared.building.Build.{Build}
use Rattle.build.specs.declared.plan.Plan.{Plan}
use Rattle.build.specs.declared.tally.Tally.{Tally}
use Rattle.build.specs.Push.{Step}
use Rattle.atoms.specs.Rows.{put, flat}
use Rattle.build.specs.Intern.{Held}
use Rattle.atoms.specs.Floor.{floor_label}
use Rattle.build.specs.Seed.{is_seeded, row_label, seeds, last_label, Seeded}
use Rattle.atoms.specs.Reasons.{noted, counted, axioms_dropped}
use Rattle.build.specs.Push.{State, start, stored, Room}
use Rattle.build.specs.Building.{deck_in, buffers, model_of, model_by, state_of, Ready, Seeds, Pushed, Holds}
use Rattle.model.specs.Closing as closing
use Rattle.model.specs.Closing.{close, EdgesFit}
use Rattle.build.specs.Model.{Model, with_state, note_in, Buffers, lent, begun, among, top, Built}
use Rattle.model.specs.Expand.{expand, expand_in}
use Rattle.model.specs.Rounds.{expand_from_axioms}
use Rattle.model.specs.Phases.{phase, seeded, close_in, later_phases, phases, with_dropped, construct, Dropped, Constructed}
use Rattle.atoms.proofs.RowLaws.{length-rows, rows-put}
use Rattle.build.proofs.InternLaws.{by_cond, held-length, held_on}
use Rattle.build.proofs.SeedLaws.{length-row-label, seeds-wide, seeds-few}
use Rattle.build.proofs.PushLaws.{left-words, left-edges, left-log, left-count}
use Rattle.model.proofs.JudgingLaws.{put-sets}
use Rattle.build.proofs.BuildLaws.{top-classes, built-is, built-count, prepared-after}
use Rattle.build.proofs.BuildingLaws.{holds-is, holds-trans, holds-pushed, holds-start, ready-after}
use Rattle.model.proofs.TidyLaws.{tidy-floor}
use Rattle.model.proofs.KeepLaws.{kept_trans}
use Rattle.model.proofs.ExpandKeeps.{expand-kept}
use Rattle.model.proofs.RoundKeeps.{axioms-kept}
use Rattle.deck.proofs.SoundLaws.{sound}

-- ---- a phase
module _ (k last : ℕ) (f : Model → Model) (m : Model) where
  phase-off : last < k → phase k last f m ≡ m
  unfolding phase
  phase-off h = rw (lt-leb k last h)

  phase-stuck : m.state.tripped ≡ true → phase k last f m ≡ m
  unfolding phase
  phase-stuck w = by (leb k last)
    where
      by : (b : Bool) → cond b (cond m.state.tripped m (f m)) m ≡ m
      by true = rw w
      by false = refl

  phase-on : k ≤ last → m.state.tripped ≡ false → phase k last f m ≡ f m
  unfolding phase
  phase-on h w = rw (le-leb k last h, w)

-- ---- where the phases after seeding end
module _ (D : Deck) (B : Bounds) (m : Model) where
  -- the model after phase 2, and after phase 3
  abbrev pub two : Model
  two = expand D (floor_label D) B m

  abbrev pub three : Model
  three = expand_from_axioms D (floor_label D) B two

module _ (D : Deck) (B : Bounds) (last : ℕ) (m : Model) (w : m.state.tripped ≡ false) where
  abbrev p3 : Model → Model
  p3 = phase 3 last (expand_from_axioms D (floor_label D) B)

  abbrev p4 : Model → Model
  p4 = phase 4 last (close_in D B)

  pub later-one : last < 2 → later_phases D B last m ≡ m
  unfolding later_phases
  later-one h =
      ap (λ z. p4 (p3 z)) (phase-off 2 last (expand D (floor_label D) B) m h) ∙ ap p4 (phase-off 3 last (expand_from_axioms D (floor_label D) B) m (omega arith))
      ∙ phase-off 4 last (close_in D B) m (omega arith)

  module _ (h : 2 ≤ last) where
    after_two : later_phases D B last m ≡ p4 (p3 (two D B m))
    unfolding later_phases
    after_two = ap (λ z. p4 (p3 z)) (phase-on 2 last (expand D (floor_label D) B) m h w)

    pub later-two : last < 3 → later_phases D B last m ≡ (two D B m)
    later-two l = after_two ∙ ap p4 (phase-off 3 last (expand_from_axioms D (floor_label D) B) (two D B m) l) ∙ phase-off 4 last (close_in D B) (two D B m) (omega arith)

    pub two-trips : (two D B m).state.tripped ≡ true → later_phases D B last m ≡ (two D B m)
    two-trips u = after_two ∙ ap p4 (phase-stuck 3 last (expand_from_axioms D (floor_label D) B) (two D B m) u) ∙ phase-stuck 4 last (close_in D B) (two D B m) u

    module _ (k : 3 ≤ last) (u : (two D B m).state.tripped ≡ false) where
      after-three : later_phases D B last m ≡ p4 (three D B m)
      after-three = after_two ∙ ap p4 (phase-on 3 last (expand_from_axioms D (floor_label D) B) (two D B m) k u)

      pub later-three : last < 4 → later_phases D B last m ≡ (three D B m)
      later-three l = after-three ∙ phase-off 4 last (close_in D B) (three D B m) l

      pub three-trips : (three D B m).state.tripped ≡ true → later_phases D B last m ≡ (three D B m)
      three-trips v = after-three ∙ phase-stuck 4 last (close_in D B) (three D B m) v

      pub later-four : 4 ≤ last → (three D B m).state.tripped ≡ false → later_phases D B last m ≡ close_in D B (three D B m)
      later-four l v = after-three ∙ phase-on 4 last (close_in D B) (three D B m) l v

-- closing, over as many elements as there are labels
pub close-begun : (D : Deck) (B : Bounds) (b : Buffers) (t : Tally) → with_state (begun D b t) (close D t.elements B.max_edges (start b.edges b.log t)) ≡ close_in D B (begun D b t)
unfolding close_in
close-begun D B b t = rw (length-rows (label_width D) t.elements b.labels)

-- ---- the beginning: no edges, no reasons
pub begun-seeded : (D : Deck) (L L' : List ℕ) (E : List (List ℕ)) (G : List ℕ) (n : ℕ) → L' ≡ put L (flat (seeds D (floor_label D) (class_count D))) → n ≡ length (seeds D (floor_label D) (class_count D))
    → begun D (lent L' E G) (record { elements = n; edges = 0; reasons = 0 }) ≡ seeded D G
unfolding seeded edges_of
begun-seeded D L L' E G n p q = rw (p, q, rows-put (seeds-wide D (floor_label D) (class_count D)) L)

-- ---- the same of a structure in the making
module _ {b : Build} (P : Ready b) (F : b.plan.floor.now ≡ floor_label (deck_in b)) where
  pub holds-two : {b₁ : Build} {r : Bool} → ((d : ℕ) → Holds b b₁ r (expand_in (deck_in b) b.plan.floor.now b.plan.bounds (65536 + d) (model_of b))) → Holds b b₁ r (two (deck_in b) b.plan.bounds (model_of b))
  unfolding expand
  holds-two {b₁} {r} X = subst (λ (f : List ℕ). Holds b b₁ r (expand_in (deck_in b) f b.plan.bounds 65536 (model_of b))) F (X 0)

  module _ {b₁ : Build} (X : Holds b b₁ false (two (deck_in b) b.plan.bounds (model_of b))) where
    pub holds-three : {b₂ : Build} {r : Bool} → Holds b₁ b₂ r (expand_from_axioms (deck_in b₁) b₁.plan.floor.now b₁.plan.bounds (model_of b₁)) → Holds b b₂ r (three (deck_in b) b.plan.bounds (model_of b))
    holds-three Y =
        holds-is (holds-trans X Y)
        (ap (λ (p : Plan). expand_from_axioms (deck_of p.deck.bytes.now) p.floor.now p.bounds (begun (deck_of p.deck.bytes.now) (buffers b₁) b₁.tally)) X.same.plan
        ∙ ap (λ (f : List ℕ). expand_from_axioms (deck_in b) f b.plan.bounds (model_by b b₁)) F ∙ ap (expand_from_axioms (deck_in b) (floor_label (deck_in b)) b.plan.bounds) (holds-start X))

    module _ {b₂ : Build} (Y : Holds b b₂ false (three (deck_in b) b.plan.bounds (model_of b))) where
      -- what closing needs
      pub ready-three : EdgesFit (deck_in b) b.tally.elements (edges_of b.edges.now b.tally.edges) → closing.Ready b₂.plan.deck.bytes.now b₂.plan.bounds.max_edges b₂.edges.now b₂.tally
      ready-three fits =
          let D = deck_in b in
          let B = b.plan.bounds in
          let Q = prepared-after P Y.built refl in
          let W = sound b.plan.deck.bytes.now P.accepted in
          let K = kept_trans (expand-kept D W (floor_label D) (tidy-floor D W) B (model_of b)) (axioms-kept D W (floor_label D) (tidy-floor D W) B (two D B (model_of b))) in
          let f = K.fits (rw (length-rows (label_width D) b.tally.elements b.labels.now) fits) in
          rw Y.same.plan (record { accepted = P.accepted; few = omega (arith, Q.few, Q.most); space = Q.space; fits = rw (← built-count Y.built, left-edges Y.built.left) f })

      pub holds-four : {b₃ : Build} {r : Bool} → Pushed b₂ b₃ r (close (deck_in b₂) b₂.tally.elements b₂.plan.bounds.max_edges (state_of b₂)) → Holds b b₃ r (close_in (deck_in b) b.plan.bounds (three (deck_in b) b.plan.bounds (model_of b)))
      holds-four Q =
          holds-is (holds-trans Y (holds-pushed (ready-after P Y) Q))
          (ap (λ (p : Plan). with_state (begun (deck_of p.deck.bytes.now) (buffers b₂) b₂.tally) (close (deck_of p.deck.bytes.now) b₂.tally.elements p.bounds.max_edges (state_of b₂))) Y.same.plan
          ∙ close-begun (deck_in b) b.plan.bounds (buffers b₂) b₂.tally ∙ ap (close_in (deck_in b) b.plan.bounds) (holds-start Y))

-- ---- reason 4: what it changes
module _ (D : Deck) (m : Model) where
  dropped-labels : (with_dropped D m).labels ≡ m.labels
  unfolding with_dropped
  dropped-labels = by (ltb 0 D.dropped)
    where
      by : (c : Bool) → (cond c (note_in (axioms_dropped D.dropped) m) m).labels ≡ m.labels
      by true = refl
      by false = refl

  dropped-edges : (with_dropped D m).state.edges ≡ m.state.edges
  unfolding with_dropped
  dropped-edges = by (ltb 0 D.dropped)
    where
      by : (c : Bool) → (cond c (note_in (axioms_dropped D.dropped) m) m).state.edges ≡ m.state.edges
      by true = refl
      by false = refl

  dropped-log : (with_dropped D m).state.log ≡ cond (ltb 0 D.dropped) (noted m.state.log m.state.reasons (axioms_dropped D.dropped)) m.state.log
  unfolding with_dropped
  dropped-log = by (ltb 0 D.dropped)
    where
      by : (c : Bool) → (cond c (note_in (axioms_dropped D.dropped) m) m).state.log ≡ cond c (noted m.state.log m.state.reasons (axioms_dropped D.dropped)) m.state.log
      by true = refl
      by false = refl

  dropped-reasons : (with_dropped D m).state.reasons ≡ cond (ltb 0 D.dropped) (counted m.state.reasons) m.state.reasons
  unfolding with_dropped
  dropped-reasons = by (ltb 0 D.dropped)
    where
      by : (c : Bool) → (cond c (note_in (axioms_dropped D.dropped) m) m).state.reasons ≡ cond c (counted m.state.reasons) m.state.reasons
      by true = refl
      by false = refl

-- ---- all of it
-- what seeding, the phases after it and reason 4 leave
module _ (s : List ℕ) (B : Bounds) (last : ℕ) (b : Buffers) {L₁ : List ℕ} {n : ℕ} (p : L₁ ≡ put b.labels (flat (seeds (deck_of s) (floor_label (deck_of s)) (class_count (deck_of s)))))
    (q : n ≡ length (seeds (deck_of s) (floor_label (deck_of s)) (class_count (deck_of s)))) where
  abbrev D₁ : Deck
  D₁ = deck_of s

  abbrev none_yet : Tally
  none_yet = record { elements = n; edges = 0; reasons = 0 }

  first-held : Held (label_width D₁) b.labels L₁ n (seeds D₁ (floor_label D₁) (class_count D₁))
  first-held = record { is = p; count = q; wide = seeds-wide D₁ (floor_label D₁) (class_count D₁) }

  module _ {b' : Buffers} {l : List ℕ} {r : Step} (X : Built D₁ B (lent L₁ b.edges b.log) none_yet b' l r (later_phases D₁ B last (begun D₁ (lent L₁ b.edges b.log) none_yet))) where
    Y : Built D₁ B (lent L₁ b.edges b.log) none_yet b' l r (phases D₁ B last b.log)
    unfolding phases
    Y = built-is X (ap (later_phases D₁ B last) (begun-seeded D₁ b.labels L₁ b.edges b.log n p q))

    last-held : Held (label_width D₁) b.labels b'.labels r.tally.elements (phases D₁ B last b.log).labels
    last-held = held_on first-held b'.labels r.tally.elements (phases D₁ B last b.log).labels Y.held (omega (arith, q, Y.more, Y.held.count))

    last-edges : b'.edges ≡ put b.edges (map row_of (phases D₁ B last b.log).state.edges)
    unfolding stored
    last-edges =
        let es = (phases D₁ B last b.log).state.edges in
        let k : length (map row_of es) ≤ length b.edges = omega (arith, length-map es row_of, ap length (left-edges Y.left), left-count Y.left, Y.left.room, Y.left.size) in
        left-words Y.left ∙ put-sets b.edges (map row_of es) k

    reasons-are : r.tally.reasons ≡ (phases D₁ B last b.log).state.reasons
    reasons-are = ap (λ (u : State). u.reasons) Y.left.is

    edges_are : r.tally.edges ≡ length (phases D₁ B last b.log).state.edges
    edges_are = sym (left-count Y.left) ∙ ap length (left-edges Y.left)

    pub constructed : {G : List ℕ} {t : Tally} → Dropped D₁ b'.log r.tally G t → Constructed D₁ B last b (lent b'.labels b'.edges G) t
    unfolding construct
    constructed {G} {t} Z =
        let m = phases D₁ B last b.log in
        record {
          labels = last-held.is ∙ ap (λ ls. put b.labels (flat ls)) (sym (dropped-labels D₁ m));
          edges = last-edges ∙ ap (λ es. put b.edges (map row_of es)) (sym (dropped-edges D₁ m));
          log = Z.log_is ∙ rw (left-log Y.left, reasons-are) (sym (dropped-log D₁ m));
          tally = Z.tally ∙ rw (last-held.count, edges_are, reasons-are, dropped-labels D₁ m, dropped-edges D₁ m, dropped-reasons D₁ m);
          few = omega (arith, Y.most, ap (λ (t : Tally). t.elements) Z.tally);
          room = omega (arith, Y.left.room, ap (λ (t : Tally). t.edges) Z.tally);
        }

-- ---- from seeding on
pub seeded-as : (D : Deck) {floor : List ℕ} → floor ≡ floor_label D → {l l' L L' : List ℕ} {n : ℕ} → Seeded D floor l l' L L' n
    → (L' ≡ put L (flat (seeds D (floor_label D) (class_count D)))) × (n ≡ length (seeds D (floor_label D) (class_count D)))
seeded-as D e Z = (rw e at Z.buffer, rw e at Z.count)

pub none-fit : (D : Deck) (n : ℕ) (rows : List (List ℕ)) → EdgesFit D n (edges_of rows 0)
unfolding EdgesFit edges_of
none-fit D n rows e i = absurd (nothing-in i)

-- the label in the making keeps its width
last-wide : (D : Deck) (floor l : List ℕ) → length l ≡ label_width D → (k : ℕ) → length (last_label D floor l k) ≡ label_width D
unfolding last_label
last-wide D floor l w zero = w
last-wide D floor l w (suc k) = by_cond (λ (x : List ℕ). length x ≡ label_width D) (is_seeded D k) (row_label D floor k) (last_label D floor l k) (length-row-label D floor k) (last-wide D floor l w k)

-- what the phases after seeding need
module _ {a b : Build} (F : a.plan.floor.now ≡ floor_label (deck_in a)) (t : a.tally ≡ record { elements = 0; edges = 0; reasons = 0 }) (S : Seeds a b) where
  seeds-as : (b.labels.now ≡ put a.labels.now (flat (seeds (deck_in a) (floor_label (deck_in a)) (class_count (deck_in a))))) × (b.tally.elements ≡ length (seeds (deck_in a) (floor_label (deck_in a)) (class_count (deck_in a))))
  seeds-as = seeded-as (deck_in a) F S.seeded

  none_yet_of : b.tally ≡ record { elements = b.tally.elements; edges = 0; reasons = 0 }
  none_yet_of = S.tally ∙ ap (among b.tally.elements) t

  pub ready-seeded : length a.label.now ≡ label_width (deck_in a) → top (deck_in a) a.plan.bounds < 65536 → (top (deck_in a) a.plan.bounds + 1) * label_width (deck_in a) ≤ length a.labels.now → Room a.plan.bounds.max_edges a.edges.now 0 → Ready b
  ready-seeded w m r R =
      let D = deck_in a in
      let H : Held (label_width D) a.labels.now b.labels.now b.tally.elements (seeds D (floor_label D) (class_count D)) = record { is = seeds-as.0; count = seeds-as.1; wide = seeds-wide D (floor_label D) (class_count D) } in
      let f : b.tally.elements ≤ top D a.plan.bounds = omega (arith, seeds-as.1, seeds-few D (floor_label D) (class_count D), top-classes D a.plan.bounds) in
      let z : length b.labels.now ≡ length a.labels.now = held-length H (omega (arith, r, mul-le-mul_right {m = b.tally.elements} {n = top D a.plan.bounds + 1} (label_width D) (omega (arith, f)))) in
      rw (S.same.plan, S.edges, ap (λ (x : Tally). x.edges) none_yet_of)
      (record { accepted = a.plan.deck.accepted; few = f; most = m; rows = omega (arith, r, z); space = R; floor-wide = a.plan.floor_wide; label-wide = ap length S.seeded.label ∙ last-wide D a.plan.floor.now a.label.now w (class_count D) })

  pub seeded-fit : EdgesFit (deck_in b) b.tally.elements (edges_of b.edges.now b.tally.edges)
  seeded-fit = rw none_yet_of (none-fit (deck_in b) b.tally.elements b.edges.now)

  -- all that is built
  pub built-up : (last : ℕ) {c : Build} {r : Bool} → Holds b c r (later_phases (deck_in b) b.plan.bounds last (model_of b)) → (d : Build) → Dropped (deck_in c) c.log.now c.tally d.log.now d.tally → d.labels ≡ c.labels → d.edges ≡ c.edges
      → Constructed (deck_in a) a.plan.bounds last (buffers a) (buffers d) d.tally
  built-up last {c} X d Z l e =
      rw (l, e) (constructed a.plan.deck.bytes.now a.plan.bounds last (buffers a) seeds-as.0 seeds-as.1 (rw (S.same.plan, S.edges, S.log, none_yet_of) at X.built) (rw (X.same.plan ∙ S.same.plan) at Z))
