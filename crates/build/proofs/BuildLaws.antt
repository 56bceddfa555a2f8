-- What a step of building leaves in the buffers, and steps one after the other.
--     built-same, built-trans, built-is     no step, two steps, the same model
--     built-log                             another log, and another total of reasons
--     built-note, built-trip                a reason, and one that ends building
--     reach-full, reach-link                a label interned, and the edge to it
--     OnModel                               every loop that walks a list
use Prim.Native.Nat.{ℕ, ◌+◌, ◌-◌, ◌*◌, ◌<◌, ◌≤◌}
use mathlib.Core.Bool.{true, false, cond}
use mathlib.Core.Path.{◌≡◌, refl, sym, ◌∙◌}
use mathlib.Core.List.{List, [], ◌∷◌}
use mathlib.Core.Logic.{⊎_elim}
use native.Mathlib.Nat.{mul-le-mul_right}
use Rattle.deck.proofs.CaseLaws.{lt-or-le}
use native.Mathlib.Omega.{arith}
use lib.ListN.{length}
use lib.Dec.{ltb}
use borrow.Author.Tests.{lt-ltb, le-ltb}
use Rattle.deck.specs.Deck.{Deck, class_count}
use Rattle.deck.specs.Content.{deck_of}
use Rattle.eval.specs.Lent.{label_width}
use Rattle.eval.specs.Lists.{range}
use Rattle.eval.proofs.Clash.{both_ways}
use Rattle.build.specs.declared.bounds.Bounds.{Bounds}
use Rattle.build.specs.declared.tally.Tally.{Tally}
use Rattle.build.specs.Push.{Step}
use Rattle.atoms.specs.declared.reasons.Reason.{Reason}
use Rattle.atoms.specs.Walk.{walk}
use Rattle.atoms.specs.Rows.{rows_of}
use Rattle.build.specs.Intern.{interned, Placed, Held}
use Rattle.atoms.specs.Reasons.{noted, counted, bound_tripped}
use Rattle.build.specs.Push.{State, edge, push_edge, start, quiet, Left, Room}
use Rattle.build.specs.Model.{Model, note_state, trip_state, note_in, trip_in, reach, linked, Buffers, lent, begun, top, among, Prepared, Built}
use Rattle.build.specs.Again.{of_total}
use Rattle.atoms.proofs.RowLaws.{length-rows}
use Rattle.atoms.proofs.StandingLaws.{noted-length}
use Rattle.build.proofs.InternLaws.{held_start, held_rows, held-length, held_on, held-intern, interned-grows}
use Rattle.build.proofs.PushLaws.{left-same, left-trans, left-start, left-quiet, left-tripped, left-room}
use Rattle.atoms.proofs.WalkLaws.{On, done, stop, onward}

-- ---- the larger of N and the bound
larger-left : (a b : ℕ) → a ≤ cond (ltb a b) b a
larger-left a b = ⊎_elim (λ (h : a < b). rw (lt-ltb a b h) (omega arith)) (λ (h : b ≤ a). rw (le-ltb a b h) (omega arith)) (lt-or-le a b)

larger-right : (a b : ℕ) → b ≤ cond (ltb a b) b a
larger-right a b = ⊎_elim (λ (h : a < b). rw (lt-ltb a b h) (omega arith)) (λ (h : b ≤ a). rw (le-ltb a b h) h) (lt-or-le a b)

pub top-classes : (D : Deck) (B : Bounds) → class_count D ≤ top D B
top-classes D B = larger-left (class_count D) B.max_elements

pub top-bound : (D : Deck) (B : Bounds) → B.max_elements ≤ top D B
top-bound D B = larger-right (class_count D) B.max_elements

-- ---- edges and reasons, whatever the number of elements
pub left-among : {limit : ℕ} {was : List (List ℕ)} {log : List ℕ} {t : Tally} {now : List (List ℕ)} {log' : List ℕ} {r : Step} {s : State} → Left limit was log t now log' r s → (n : ℕ)
    → Left limit was log (among n t) now log' (record { tally = among n r.tally; tripped = r.tripped }) s
left-among L n = record {
  is = L.is;
  words = L.words;
  old = L.old;
  elements = refl;
  size = L.size;
  log-size = L.log-size;
  grown = L.grown;
  room = L.room;
  within = L.within;
}

module _ (limit : ℕ) (was : List (List ℕ)) (log : List ℕ) (t : Tally) (R : Room limit was t.edges) (x : Reason) where
  -- one more reason
  left-note : Left limit was log t was (noted log t.reasons x) (quiet (record { elements = t.elements; edges = t.edges; reasons = counted t.reasons })) (note_state x (start was log t))
  left-note =
      let L = left-same limit was log t R in
      record {
        is = refl;
        words = L.words;
        old = refl;
        elements = refl;
        size = refl;
        log-size = noted-length log t.reasons x;
        grown = L.grown;
        room = L.room;
        within = L.within;
      }

  -- one that ends building
  pub left-trip : Left limit was log t was (noted log t.reasons x) (record { tally = record { elements = t.elements; edges = t.edges; reasons = counted t.reasons }; tripped = true }) (trip_state x (start was log t))
  left-trip =
      let L = left-same limit was log t R in
      record {
        is = refl;
        words = L.words;
        old = refl;
        elements = refl;
        size = refl;
        log-size = noted-length log t.reasons x;
        grown = L.grown;
        room = L.room;
        within = λ e. R.bound;
      }

-- ---- steps
module _ {D : Deck} {B : Bounds} {b : Buffers} {t : Tally} {b' : Buffers} {l : List ℕ} {r : Step} {m : Model} (X : Built D B b t b' l r m) where
  pub built-is : {k : Model} → m ≡ k → Built D B b t b' l r k
  built-is e = rw e at X

  pub built-start : r.tripped ≡ false → begun D b' r.tally ≡ m
  built-start w = let p : begun D b' r.tally ≡ record { labels = m.labels; state = m.state } = rw (held_rows X.held, left-start X.left w) in p

  pub built-tripped : m.state.tripped ≡ r.tripped
  built-tripped = left-tripped X.left

  pub built-count : length m.labels ≡ r.tally.elements
  built-count = sym X.held.count

  pub built-quiet : r.tripped ≡ false → Built D B b t b' l (quiet r.tally) (begun D b' r.tally)
  built-quiet w = record {
    held = rw (held_rows X.held) X.held;
    left = left-quiet X.left w;
    more = X.more;
    most = X.most;
    few = λ e. X.few w;
    wide = X.wide;
  }

pub built-trans : {D : Deck} {B : Bounds} {b : Buffers} {t : Tally} {b₁ : Buffers} {l₁ : List ℕ} {u : Tally} {m : Model} {b₂ : Buffers} {l₂ : List ℕ} {r : Step} {k : Model}
    → Built D B b t b₁ l₁ (quiet u) m → Built D B b₁ u b₂ l₂ r k → Built D B b t b₂ l₂ r k
built-trans {b₂ = b₂} {r = r} {k = k} X Y = record {
  held = held_on X.held b₂.labels r.tally.elements k.labels Y.held (omega (arith, X.held.count, Y.held.count, Y.more));
  left = left-trans (left-among X.left r.tally.elements) Y.left;
  more = omega (arith, X.more, Y.more);
  most = Y.most;
  few = Y.few;
  wide = Y.wide;
}

module _ {s : List ℕ} {B : Bounds} {b : Buffers} {t : Tally} {floor label : List ℕ} (P : Prepared s B b t floor label) where
  -- so many elements fit in the buffer
  pub fits_in : (n : ℕ) → n ≤ top (deck_of s) B + 1 → n * label_width (deck_of s) ≤ length b.labels
  fits_in n h = omega (arith, P.rows, mul-le-mul_right {m = n} {n = top (deck_of s) B + 1} (label_width (deck_of s)) h)

  pub next_fits : (t.elements + 1) * label_width (deck_of s) ≤ length b.labels
  next_fits = fits_in (t.elements + 1) (omega (arith, P.few))

  pub all_fit : t.elements * label_width (deck_of s) ≤ length b.labels
  all_fit = fits_in t.elements (omega (arith, P.few))

  pub built-same : Built (deck_of s) B b t b label (quiet t) (begun (deck_of s) b t)
  built-same = record {
    held = held_start (label_width (deck_of s)) t.elements b.labels all_fit;
    left = left-same B.max_edges b.edges b.log t P.space;
    more = omega arith;
    most = omega (arith, P.few);
    few = λ e. P.few;
    wide = P.label-wide;
  }

  -- another log of its length, another total of reasons, and another label in the making
  pub built-log : (g : List ℕ) → length g ≡ length b.log → (n : ℕ) → {l : List ℕ} → length l ≡ label_width (deck_of s)
      → Built (deck_of s) B b t (lent b.labels b.edges g) l (quiet (of_total n t)) (begun (deck_of s) (lent b.labels b.edges g) (of_total n t))
  built-log g size n wide =
      let L = left-same B.max_edges b.edges b.log t P.space in
      record {
        held = built-same.held;
        left = record {
          is = refl;
          words = L.words;
          old = refl;
          elements = refl;
          size = refl;
          log-size = size;
          grown = L.grown;
          room = L.room;
          within = L.within;
        };
        more = omega arith;
        most = omega (arith, P.few);
        few = λ e. P.few;
        wide = wide;
      }

  -- what follows a step that tripped no bound is prepared
  pub prepared-after : {b' : Buffers} {l : List ℕ} {r : Step} {m : Model} → Built (deck_of s) B b t b' l r m → r.tripped ≡ false → Prepared s B b' r.tally floor l
  prepared-after {b'} {l} {r} X w = record {
    accepted = P.accepted;
    few = X.few w;
    most = P.most;
    rows = omega (arith, P.rows, held-length X.held (fits_in r.tally.elements X.most));
    space = left-room X.left P.space w;
    floor-wide = P.floor-wide;
    label-wide = X.wide;
  }

  -- the same with another label in the making
  pub prepared-with : {l : List ℕ} → length l ≡ label_width (deck_of s) → Prepared s B b t floor l
  prepared-with e = record { accepted = P.accepted; few = P.few; most = P.most; rows = P.rows; space = P.space; floor-wide = P.floor-wide; label-wide = e }

  -- one more reason
  pub built-note : (x : Reason) {log' : List ℕ} {held : Tally} → log' ≡ noted b.log t.reasons x → held ≡ record { elements = t.elements; edges = t.edges; reasons = counted t.reasons }
      → Built (deck_of s) B b t (lent b.labels b.edges log') label (quiet held) (note_in x (begun (deck_of s) b t))
  built-note x p q = rw (p, q) (record {
    held = built-same.held;
    left = left-note B.max_edges b.edges b.log t P.space x;
    more = omega arith;
    most = omega (arith, P.few);
    few = λ e. P.few;
    wide = P.label-wide;
  })

  -- one that ends building
  pub built-trip : (x : Reason) {log' : List ℕ} {r : Step} → log' ≡ noted b.log t.reasons x → r ≡ record { tally = record { elements = t.elements; edges = t.edges; reasons = counted t.reasons }; tripped = true }
      → Built (deck_of s) B b t (lent b.labels b.edges log') label r (trip_in x (begun (deck_of s) b t))
  built-trip x p q = rw (p, q) (record {
    held = built-same.held;
    left = left-trip B.max_edges b.edges b.log t P.space x;
    more = omega arith;
    most = omega (arith, P.few);
    few = λ e. P.few;
    wide = P.label-wide;
  })

  -- the label buffer keeps its length
  pub built-size : {b' : Buffers} {l : List ℕ} {r : Step} {m : Model} → Built (deck_of s) B b t b' l r m → length b'.labels ≡ length b.labels
  built-size {r = r} X = held-length X.held (fits_in r.tally.elements X.most)

  -- ---- a label that is interned, and the edge of r from x to it
  module _ {l L' : List ℕ} {e n : ℕ} (wide : length l ≡ label_width (deck_of s)) (I : Placed b.labels L' (rows_of (label_width (deck_of s)) t.elements b.labels) l e n) where
    now-held : Held (label_width (deck_of s)) b.labels L' n (interned (rows_of (label_width (deck_of s)) t.elements b.labels) l)
    now-held = held-intern (held_start (label_width (deck_of s)) t.elements b.labels all_fit) l L' e n wide I

    grown : (t.elements ≤ n) × (n ≤ t.elements + 1)
    grown =
        let ls = rows_of (label_width (deck_of s)) t.elements b.labels in
        (omega (arith, I.count, (interned-grows ls l).0, length-rows (label_width (deck_of s)) t.elements b.labels), omega (arith, I.count, (interned-grows ls l).1, length-rows (label_width (deck_of s)) t.elements b.labels))

    pub reach-full : {label' : List ℕ} → length label' ≡ label_width (deck_of s) → (r x : ℕ) → B.max_elements < n → {log' : List ℕ} {reasons : ℕ} → log' ≡ noted b.log t.reasons (bound_tripped 0 B.max_elements) → reasons ≡ counted t.reasons
        → Built (deck_of s) B b t (lent L' b.edges log') label' (record { tally = record { elements = n; edges = t.edges; reasons = reasons }; tripped = true }) (reach B r x l (begun (deck_of s) b t))
    unfolding reach
    reach-full wide' r x h p q =
        rw (p, q, lt-ltb B.max_elements (length (interned (rows_of (label_width (deck_of s)) t.elements b.labels) l)) (omega (arith, I.count)))
        (record {
          held = now-held;
          left = left-among (left-trip B.max_edges b.edges b.log t P.space (bound_tripped 0 B.max_elements)) n;
          more = grown.0;
          most = omega (arith, P.few, grown.1);
          few = λ w. absurd (let y : ◌≡◌ {A = ℕ} 0 1 = cc in omega arith);
          wide = wide';
        })

    pub reach-link : {label' : List ℕ} → length label' ≡ label_width (deck_of s) → (r x : ℕ) → n ≤ B.max_elements → {E' : List (List ℕ)} {log' : List ℕ} {z : Step}
        → Left B.max_edges b.edges b.log (among n t) E' log' z (push_edge B.max_edges (edge r x e) (start b.edges b.log (among n t)))
        → Built (deck_of s) B b t (lent L' E' log') label' z (reach B r x l (begun (deck_of s) b t))
    unfolding reach
    reach-link wide' r x h {E'} {log'} {z} L =
        let k : z.tally.elements ≡ n = L.elements in
        rw (le-ltb B.max_elements (length (interned (rows_of (label_width (deck_of s)) t.elements b.labels) l)) (omega (arith, I.count)), ← I.place)
        (record {
          held = rw k now-held;
          left = rw k (left-among L n);
          more = omega (arith, k, grown.0);
          most = omega (arith, k, h, top-bound (deck_of s) B);
          few = λ w. omega (arith, k, h, top-bound (deck_of s) B);
          wide = wide';
        })

    -- the same by either
    pub reach-linked : {label' : List ℕ} → length label' ≡ label_width (deck_of s) → (r x : ℕ) → {E' : List (List ℕ)} {log' : List ℕ} {z : Step}
        → Left B.max_edges b.edges b.log (among n t) E' log' z (linked B n (edge r x e) (start b.edges b.log (among n t)))
        → Built (deck_of s) B b t (lent L' E' log') label' z (reach B r x l (begun (deck_of s) b t))
    unfolding reach
    reach-linked wide' r x {E'} {log'} {z} L =
        ⊎_elim
        (λ (h : B.max_elements < n).
        let M = rw (lt-ltb B.max_elements n h) at L in
        let k : z.tally.elements ≡ n = M.elements in
        rw (lt-ltb B.max_elements (length (interned (rows_of (label_width (deck_of s)) t.elements b.labels) l)) (omega (arith, I.count)))
        (record {
          held = rw k now-held;
          left = rw k (left-among M n);
          more = omega (arith, k, grown.0);
          most = omega (arith, k, P.few, grown.1);
          few = λ w. absurd (both_ways (sym w ∙ sym (left-tripped M)) refl);
          wide = wide';
        }))
        (λ (h : n ≤ B.max_elements). reach-link wide' r x h (rw (le-ltb B.max_elements n h) at L))
        (lt-or-le B.max_elements n)

-- ---- a walk of steps that build: `On` of proofs/WalkLaws.antt
abbrev pub OnModel : {A : Type 0} → Deck → Bounds → (A → Model → Model) → List A → List A → Buffers → Tally → Buffers → List ℕ → Tally → Type 0
OnModel D B f all rest b t b' l held = On (Built D B b t b' l (quiet held)) f all rest (begun D b t) (begun D b' held)

pub model-start : {A : Type 0} {s : List ℕ} {B : Bounds} {b : Buffers} {t : Tally} {floor label : List ℕ} (f : A → Model → Model) (all : List A) → Prepared s B b t floor label → OnModel (deck_of s) B f all all b t b label t
model-start f all P = record { built = built-same P; goes = refl }

-- the numbers from 0 on, as a loop counts them
pub from_zero : {D : Deck} {B : Bounds} {f : ℕ → Model → Model} {b : Buffers} {t : Tally} {b' : Buffers} {l : List ℕ} {held : Tally} (n : ℕ)
    → OnModel D B f (range 0 n) (range 0 n) b t b' l held → OnModel D B f (range 0 n) (range 0 (n - 0)) b t b' l held
from_zero n G = let z : n - 0 ≡ n = omega arith in rw z G

module _ {A : Type 0} {D : Deck} {B : Bounds} {f : A → Model → Model} {all rest : List A} {b : Buffers} {t : Tally} {b₁ : Buffers} {l₁ : List ℕ} {held : Tally} (G : OnModel D B f all rest b t b₁ l₁ held) where
  pub model-done : rest ≡ [] → Built D B b t b₁ l₁ (quiet held) (walk f all (begun D b t))
  model-done = done G

  module _ {x : A} {more : List A} (q : rest ≡ x ∷ more) {b₂ : Buffers} {l₂ : List ℕ} {r : Step} (X : Built D B b₁ held b₂ l₂ r (f x (begun D b₁ held))) where
    pub model-stop : ((y : A) (u : Model) → u.state.tripped ≡ true → f y u ≡ u) → r.tripped ≡ true → Built D B b t b₂ l₂ r (walk f all (begun D b t))
    model-stop stuck w = stop G q (Built D B b t b₂ l₂ r) (built-trans G.built X) (λ y. stuck y _ (built-tripped X ∙ w))

    pub model-next : r.tripped ≡ false → OnModel D B f all more b t b₂ l₂ r.tally
    model-next w = onward G q (Built D B b t b₂ l₂ (quiet r.tally)) (built-quiet (built-trans G.built X) w) (built-start X w)
