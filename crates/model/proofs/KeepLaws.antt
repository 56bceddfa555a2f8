-- What every step of building keeps: labels are only appended, tidy and apart, so elements keep theirs; edges that fit still fit; and past a bound there is only what tripped it.
--     kept_same, kept_trans                              no step, two steps
--     kept-state, note-kept, trip-kept, reasons-kept     edges as they were
--     reach-kept                                         a label interned, and the edge to it
--     walk_kept                                          a walk of steps
use Prim.Native.Nat.{ℕ, ◌+◌, ◌<◌, ◌≤◌}
use mathlib.Core.Bool.{false, cond}
use mathlib.Core.Path.{◌≡◌, refl}
use mathlib.Core.List.{List, [], ◌∷◌, Memᴰ as Member}
use mathlib.Core.Logic.{⊎_elim}
use native.Mathlib.Omega.{arith}
use lib.ListN.{length, length-append}
use lib.Dec.{ltb}
use borrow.Author.Tests.{ltb-false}
use Rattle.deck.specs.Deck.{Deck, role_count}
use Rattle.deck.proofs.CaseLaws.{lt-or-le}
use Rattle.eval.specs.declared.edges.Edge.{Edge}
use Rattle.eval.specs.Edges.{edge_in}
use Rattle.eval.specs.Lent.{EdgeFits}
use Rattle.eval.proofs.Clash.{clash}
use Rattle.build.specs.declared.bounds.Bounds.{Bounds}
use Rattle.atoms.specs.declared.reasons.Reason.{Reason}
use Rattle.atoms.specs.Walk.{walk}
use Rattle.build.specs.Intern.{index_of, interned}
use Rattle.atoms.specs.Reasons.{bound_tripped}
use Rattle.build.specs.Push.{State, edge, added, push_edge}
use Rattle.model.specs.Closing.{EdgesFit}
use Rattle.build.specs.Model.{Model, note_state, trip_state, note_in, trip_in, with_state, reach, top}
use Rattle.build.specs.Exists.{with_reasons}
use Rattle.atoms.specs.Body.{Body}
use Rattle.build.proofs.InternLaws.{Extends, extends-same, extends-trans, extends-interned, extends-length, interned-known, interned-new, interned-grows, by_cond, by-case, index-le}
use Rattle.model.proofs.TidyLaws.{Tidy, Labels, labels-interned}
use Rattle.model.proofs.CloseLaws.{fits_snoc, Bound, bound-added}
use Rattle.build.proofs.BuildLaws.{top-bound}
use Rattle.atoms.proofs.WalkLaws.{walk-keeps}

-- past a bound there is only the element or edge that tripped it
pub record Within (D : Deck) (B : Bounds) (m : Model) : Type 0 where
  pub few : m.state.tripped ≡ false → length m.labels ≤ top D B
  pub elements : length m.labels ≤ top D B + 1
  pub edges : Bound B.max_edges m.state

-- elements keep their labels, labels stay tidy and apart, edges that fit still fit, and the bounds are kept
pub record Kept (D : Deck) (B : Bounds) (m m' : Model) : Type 0 where
  pub extends : Extends m.labels m'.labels
  pub labels : Labels D m.labels → Labels D m'.labels
  pub fits : EdgesFit D (length m.labels) m.state.edges → EdgesFit D (length m'.labels) m'.state.edges
  pub within : Within D B m → Within D B m'

module _ {D : Deck} {B : Bounds} where
  pub kept_same : (m : Model) → Kept D B m m
  kept_same m = record { extends = extends-same m.labels; labels = λ L. L; fits = λ F. F; within = λ X. X }

  pub kept_trans : {m k n : Model} → Kept D B m k → Kept D B k n → Kept D B m n
  kept_trans X Y = record { extends = extends-trans X.extends Y.extends; labels = λ L. Y.labels (X.labels L); fits = λ F. Y.fits (X.fits F); within = λ Z. Y.within (X.within Z) }

  -- an element stays one
  pub kept-below : {m k : Model} → Kept D B m k → {n : ℕ} → n ≤ length m.labels → n ≤ length k.labels
  kept-below X h = omega (arith, h, extends-length X.extends)

  -- ---- edges as they were
  pub kept-state : (m : Model) (s : State) → s.edges ≡ m.state.edges → (s.tripped ≡ false → m.state.tripped ≡ false) → Kept D B m (with_state m s)
  unfolding Bound
  kept-state m s e q = record {
    extends = extends-same m.labels;
    labels = λ L. L;
    fits = λ F. rw e F;
    within = λ X. record { few = λ w. X.few (q w); elements = X.elements; edges = rw e (λ w. X.edges.0 (q w), X.edges.1) };
  }

  pub note-kept : (x : Reason) (m : Model) → Kept D B m (note_in x m)
  note-kept x m = kept-state m (note_state x m.state) refl (λ q. q)

  pub trip-kept : (x : Reason) (m : Model) → Kept D B m (trip_in x m)
  trip-kept x m = kept-state m (trip_state x m.state) refl (λ q. clash (cc))

  pub reasons-kept : (m : Model) (s : Body) → Kept D B m (with_reasons m s)
  reasons-kept m s = kept-state m (with_reasons m s).state refl (λ q. q)

  -- ---- a walk of steps, each of which keeps wherever there are n elements
  pub walk_kept : {A : Type 0} (n : ℕ) (f : A → Model → Model) (xs : List A) → ((x : A) → Member x xs → (k : Model) → n ≤ length k.labels → Kept D B k (f x k))
      → (m : Model) → n ≤ length m.labels → Kept D B m (walk f xs m)
  walk_kept n f xs h m l = walk-keeps (Kept D B m) f xs (λ x i k q. kept_trans q (h x i k (kept-below q l))) m (kept_same m)

-- ---- a label interned, and the edge to it
-- where a label stands once it is interned
pub index_below : (ls : List (List ℕ)) (l : List ℕ) → index_of ls l < length (interned ls l)
index_below ls l =
    ⊎_elim (λ (h : index_of ls l < length ls). rw (interned-known ls l h) h)
    (λ (h : length ls ≤ index_of ls l). rw (interned-new ls l h) (omega (arith, index-le ls l, length-append ls (l ∷ []))))
    (lt-or-le (index_of ls l) (length ls))

-- what fits n elements fits more
fits_more : (D : Deck) {n k : ℕ} (es : List Edge) → n ≤ k → EdgesFit D n es → EdgesFit D k es
unfolding EdgesFit
fits_more D es l F e i = let f = F e i in record { role = f.role; from = omega (arith, f.from, l); to = omega (arith, f.to, l) }

-- an edge that fits may be added
push-fits : (D : Deck) (n limit : ℕ) (e : Edge) (s : State) → EdgesFit D n s.edges → EdgeFits D n e → EdgesFit D n (push_edge limit e s).edges
unfolding push_edge
push-fits D n limit e s F f =
    let Q : State → Type 0 = λ t. EdgesFit D n t.edges in
    by_cond Q s.tripped s (cond (edge_in s.edges e.role.0 e.from.0 e.to.0) s (added limit e s)) F
    (by_cond Q (edge_in s.edges e.role.0 e.from.0 e.to.0) s (added limit e s) F (fits_snoc D n s.edges e F f))

-- and keeps the bound
push-bound : (limit : ℕ) (e : Edge) (s : State) → Bound limit s → Bound limit (push_edge limit e s)
unfolding push_edge
push-bound limit e s b =
    by-case (Bound limit) s.tripped s (cond (edge_in s.edges e.role.0 e.from.0 e.to.0) s (added limit e s)) (λ w. b)
    (λ w. by_cond (Bound limit) (edge_in s.edges e.role.0 e.from.0 e.to.0) s (added limit e s) b (bound-added limit e s w b))

-- from a state that has not tripped, to the element of a tidy label
module _ {D : Deck} (B : Bounds) (r x : ℕ) (l : List ℕ) (m : Model) (T : Tidy D l) (hr : r < role_count D) (hx : x < length m.labels) (q : m.state.tripped ≡ false) where
  abbrev ls : List (List ℕ)
  ls = interned m.labels l

  abbrev over : State
  over = trip_state (bound_tripped 0 B.max_elements) m.state

  abbrev linked : State
  linked = push_edge B.max_edges (edge r x (index_of m.labels l)) m.state

  more : length m.labels ≤ length ls
  more = (interned-grows m.labels l).0

  reach-fits : EdgesFit D (length m.labels) m.state.edges → EdgesFit D (length ls) (reach B r x l m).state.edges
  unfolding reach
  reach-fits F =
      let G : EdgesFit D (length ls) m.state.edges = fits_more D m.state.edges more F in
      by_cond (λ (s : State). EdgesFit D (length ls) s.edges) (ltb B.max_elements (length ls)) over linked G
      (push-fits D (length ls) B.max_edges (edge r x (index_of m.labels l)) m.state G (record { role = hr; from = omega (arith, hx, more); to = index_below m.labels l }))

  reach-within : Within D B m → Within D B (reach B r x l m)
  unfolding reach Bound
  reach-within X =
      let room : length ls ≤ top D B + 1 = omega (arith, X.few q, (interned-grows m.labels l).1) in
      by-case (λ (s : State). Within D B (record { labels = ls; state = s })) (ltb B.max_elements (length ls)) over linked
      (λ w. record { few = λ z. clash (cc); elements = room; edges = (λ z. clash (cc), X.edges.1) })
      (λ w. record {
        few = λ z. omega (arith, ltb-false B.max_elements (length ls) w, top-bound D B);
        elements = room;
        edges = push-bound B.max_edges (edge r x (index_of m.labels l)) m.state X.edges;
      })

  pub reach-kept : Kept D B m (reach B r x l m)
  unfolding reach
  reach-kept = record { extends = extends-interned m.labels l; labels = λ L. labels-interned D l L T; fits = reach-fits; within = reach-within }
