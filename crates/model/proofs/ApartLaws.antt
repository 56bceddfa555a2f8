-- The edges that a turn of expanding adds all leave its element, so older edges need not be looked at.
--     classes-apart                         a turn of e adds no edge from another element
--     Since                                 edges leave elements that are taken
use Prim.Native.Nat.{ℕ, ◌/◌, ◌<◌}
use mathlib.Core.Path.{◌≡◌, refl, sym, ap, ◌∙◌}
use mathlib.Core.Bool.{Bool, true, false, cond}
use mathlib.Core.List.{List, [], ◌∷◌, ◌++◌}
use native.Mathlib.Omega.{arith}
use lib.ListN.{length, get_or}
use lib.Dec.{eqb, ltb}
use borrow.Author.Tests.{ne_eqb, eqb-true, eqb-false}
use Rattle.deck.specs.Deck.{Deck, Fact, class_count}
use Rattle.eval.specs.Lists.{any, range}
use Rattle.eval.specs.declared.edges.Edge.{Edge}
use Rattle.eval.specs.Edges.{edges_of, edge_in}
use Rattle.build.specs.declared.bounds.Bounds.{Bounds}
use Rattle.atoms.specs.declared.target_label.Target.{Target}
use Rattle.atoms.specs.declared.target_label.Target.TheVariants.{Row, Delta, NotClosed}
use Rattle.atoms.specs.Label.{label_has, insert_bit}
use Rattle.build.specs.Seed.{row_label}
use Rattle.build.specs.Intern.{interned, index_of}
use Rattle.atoms.specs.Reasons.{bound_tripped, run_delta}
use Rattle.atoms.specs.Target.{target_of}
use Rattle.build.specs.Push.{State, edge, added, push_edge, leaves_any, Tail}
use Rattle.build.specs.Model.{Model, note_in, trip_state, reach}
use Rattle.model.specs.Expand.{link_target, work_fact, fact_step, work_facts, class_step, work_classes}
use Rattle.build.proofs.TailLaws.{or-both, any_append, tail_none}
use Rattle.build.proofs.InternLaws.{by_cond}
use Rattle.atoms.proofs.WalkLaws.{walk-keeps}
use Rattle.atoms.proofs.MemberLaws.{has-insert}
use Rattle.model.proofs.ExpandLaws.{facts-in-order}

-- ---- a turn of e adds no edge from x
module _ (x : ℕ) where
  abbrev Apart : Model → Type 0
  Apart m = leaves_any m.state.edges x ≡ false

  snoc-apart : (es : List Edge) (e : Edge) → (e.from.0 ≡ x → ⊥) → leaves_any es x ≡ false → leaves_any (es ++ (e ∷ [])) x ≡ false
  unfolding leaves_any any
  snoc-apart es e n w = any_append (λ (f : Edge). eqb f.from.0 x) es (e ∷ []) w (rw (ne_eqb e.from.0 x n))

  push-apart : (limit : ℕ) (e : Edge) (s : State) → (e.from.0 ≡ x → ⊥) → leaves_any s.edges x ≡ false → leaves_any (push_edge limit e s).edges x ≡ false
  unfolding push_edge
  push-apart limit e s n w =
      let Q : State → Type 0 = λ u. leaves_any u.edges x ≡ false in
      by_cond Q s.tripped s (cond (edge_in s.edges e.role.0 e.from.0 e.to.0) s (added limit e s)) w
      (by_cond Q (edge_in s.edges e.role.0 e.from.0 e.to.0) s (added limit e s) w (snoc-apart s.edges e n w))

  module _ (D : Deck) (floor : List ℕ) (B : Bounds) (e : ℕ) (n : e ≡ x → ⊥) where
    reach-apart : (r : ℕ) (l : List ℕ) (m : Model) → Apart m → Apart (reach B r e l m)
    unfolding reach
    reach-apart r l m w =
        by_cond (λ (u : State). leaves_any u.edges x ≡ false) (ltb B.max_elements (length (interned m.labels l))) (trip_state (bound_tripped 0 B.max_elements) m.state) (push_edge B.max_edges (edge r e (index_of m.labels l)) m.state) w
        (push-apart B.max_edges (edge r e (index_of m.labels l)) m.state n w)

    link_apart : (y r : ℕ) (target : Target) (m : Model) → Apart m → Apart (link_target D floor B e y r target m)
    link_apart y r (Row k) m w = reach-apart r (row_label D floor k.0) m w
    link_apart y r (Delta k) m w = reach-apart r (row_label D floor k.0) (note_in (run_delta y) m) w
    link_apart y r NotClosed m w = w

    fact-apart : (k : ℕ) (f : Fact) (m : Model) → Apart m → Apart (fact_step D floor B e k f m)
    unfolding fact_step work_fact
    fact-apart k f m w =
        let linked = link_target D floor B e f.to f.role (target_of D f.to f.role) m in
        by_cond Apart (eqb f.from k) (cond m.state.tripped m linked) m (by_cond Apart m.state.tripped m linked w (link_apart f.to f.role (target_of D f.to f.role) m w)) w

    class-apart : (k : ℕ) (m : Model) → Apart m → Apart (class_step D floor B e k m)
    unfolding class_step
    class-apart k m w =
        by_cond Apart (label_has (get_or m.labels e []) k) (work_facts D floor B e k m) m
        (rw (facts-in-order D floor B e k m) (walk-keeps Apart (fact_step D floor B e k) D.facts (λ f i. fact-apart k f) m w)) w

    pub classes-apart : (m : Model) → Apart m → Apart (work_classes D floor B e m)
    unfolding work_classes
    classes-apart = walk-keeps Apart (class_step D floor B e) (range 0 (class_count D)) (λ k i. class-apart k)

-- ---- where expanding began without an edge, each edge leaves an element that is taken
pub record Since (first : ℕ) (es : List Edge) (taken : List ℕ) : Type 0 where
  pub told : first ≡ 0 → (x : ℕ) → label_has taken x ≡ false → leaves_any es x ≡ false

pub since-start : (rows : List (List ℕ)) (first : ℕ) (taken : List ℕ) → Since first (edges_of rows first) taken
since-start rows first taken = record { told = λ z x w. ap (λ (n : ℕ). leaves_any (edges_of rows n) x) z ∙ (tail_none rows 0 x).none }

pub since-next : {first : ℕ} {es : List Edge} {taken : List ℕ} → Since first es taken → (D : Deck) (floor : List ℕ) (B : Bounds) (e : ℕ) (m : Model) → m.state.edges ≡ es → e / 64 < length taken
    → {next : List ℕ} → next ≡ insert_bit taken e → {es' : List Edge} → (work_classes D floor B e m).state.edges ≡ es' → Since first es' next
since-next {first} {es} {taken} S D floor B e m p h {next} q {es'} p' = record { told = λ z x w. told z x w }
  where
    told : first ≡ 0 → (x : ℕ) → label_has next x ≡ false → leaves_any es' x ≡ false
    told z x w =
        let o = or-both (label_has taken x) (eqb e x) (sym (has-insert taken e x h) ∙ ap (λ (l : List ℕ). label_has l x) (sym q) ∙ w) in
        ap (λ (l : List Edge). leaves_any l x) (sym p')
        ∙ classes-apart x D floor B e (eqb-false e x o.1) m (ap (λ (l : List Edge). leaves_any l x) p ∙ S.told z x o.0)

-- the element of a turn is not taken, so its turn begins after all edges
pub since-tail : {first : ℕ} {rows : List (List ℕ)} {count : ℕ} {taken : List ℕ} → Since first (edges_of rows count) taken → (e : ℕ) → label_has taken e ≡ false → {since : ℕ} → since ≡ cond (eqb first 0) count 0 → Tail rows count since e
since-tail {first} {rows} {count} {taken} S e w {since} q = rw q (by (eqb first 0) refl)
  where
    by : (b : Bool) → eqb first 0 ≡ b → Tail rows count (cond b count 0) e
    by true z = record { within = omega arith; none = S.told (eqb-true first 0 z) e w }
    by false z = tail_none rows count e
