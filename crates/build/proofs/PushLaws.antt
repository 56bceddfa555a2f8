-- What a step leaves in the buffers, and steps one after the other.
--     left-same, left-trans, left_is     no step, two steps, the same state
--     left-trips, left-stays, left-known, left-new   adding an edge
--     left-words, left-log               the contract as plain equalities
use Prim.Native.Nat.{ℕ, zero, suc, ◌+◌, ◌<◌, ◌≤◌}
use mathlib.Core.Bool.{Bool, true, false, cond}
use mathlib.Core.Path.{◌≡◌, refl, sym, ap, ◌∙◌}
use mathlib.Core.List.{List, [], ◌∷◌, ◌++◌, map}
use native.Mathlib.Omega.{arith}
use native.Mathlib.Numerals.{add-one}
use lib.ListN.{length, take, drop, set, length-set, drop_of_length-le, length-map, length-drop, take-append-drop}
use lib.Seq.{take-suc-set, take-set-le, take-take, drop_at, drop-append-le, sets}
use lib.Dec.{ltb}
use borrow.Author.Tests.{ltb-false}
use Rattle.eval.specs.declared.edges.Edge.{Edge}
use Rattle.eval.specs.Edges.{edge_of, edges_of, row_of, edge_in}
use Rattle.eval.proofs.EdgeWalks.{edges-length}
use Rattle.build.specs.declared.tally.Tally.{Tally}
use Rattle.build.specs.Push.{Step}
use Rattle.atoms.proofs.ListWalks.{map-append}
use Rattle.atoms.proofs.StandingLaws.{noted-length}
use Rattle.atoms.specs.Reasons.{noted, counted, bound_tripped}
use Rattle.build.specs.Push.{State, added, push_edge, reached, quiet, start, stored, Room, Left}

-- ---- lists
map-take : {A B : Type 0} (f : A → B) (n : ℕ) (xs : List A) → map f (take n xs) ≡ take n (map f xs)
map-take f zero xs = refl
map-take f (suc n) [] = refl
map-take f (suc n) (x ∷ xs) = ap (λ l. f x ∷ l) (map-take f n xs)

pub sets-append : {A : Type 0} (xs ys l : List A) (i : ℕ) → sets l i (xs ++ ys) ≡ sets (sets l i xs) (i + length xs) ys
sets-append [] ys l i = let e : i + 0 ≡ i = omega arith in rw e
sets-append (x ∷ xs) ys l i = let e : suc i + length xs ≡ i + suc (length xs) = omega arith in sets-append xs ys (set l i x) (suc i) ∙ rw e

-- ---- the lent list
-- an edge stored at the end
pub edges-append : (rows : List (List ℕ)) (n : ℕ) (e : Edge) → n < length rows → edges_of (set rows n (row_of e)) (n + 1) ≡ edges_of rows n ++ (e ∷ [])
unfolding edges_of
edges-append rows n e h = rw (add-one, take-suc-set rows n (row_of e)) (map-append edge_of (take n rows) (row_of e ∷ []))

-- older edges stay
pub edges-kept : (rows : List (List ℕ)) (n m : ℕ) (w : List ℕ) → m ≤ n → edges_of (set rows n w) m ≡ edges_of rows m
unfolding edges_of
edges-kept rows n m w h = rw (take-set-le m rows n w h)

pub edges-take : (rows : List (List ℕ)) (m n : ℕ) → m ≤ n → edges_of rows m ≡ take m (edges_of rows n)
unfolding edges_of
edges-take rows m n h = rw (← take-take m n rows h) (map-take edge_of m (take n rows))

-- so buffers that agree up to n agree up to m
edges-less : (a b : List (List ℕ)) (m n : ℕ) → m ≤ n → edges_of a n ≡ edges_of b n → edges_of a m ≡ edges_of b m
edges-less a b m n h e = edges-take a m n h ∙ ap (take m) e ∙ sym (edges-take b m n h)

-- no edge, one edge, and some edges after others, stored
stored-none : (was : List (List ℕ)) (count : ℕ) → count ≤ length was → stored was count (edges_of was count) ≡ was
unfolding stored
stored-none was count h = let l : length (edges_of was count) ≤ count = omega (arith, edges-length was count h) in rw (drop_of_length-le (edges_of was count) l)

stored_one : (was : List (List ℕ)) (count : ℕ) (es : List Edge) (e : Edge) → length es ≡ count → stored was count (es ++ (e ∷ [])) ≡ set was count (row_of e)
unfolding stored
stored_one was count es e h = rw (drop_at es (e ∷ []) count h)

stored_more : (was : List (List ℕ)) (count held : ℕ) (es fs : List Edge) → count ≤ held → length es ≡ held → take held fs ≡ es → stored (stored was count es) held fs ≡ stored was count fs
unfolding stored
stored_more was count held es fs h k e =
    let l : count ≤ length es = omega arith in
    let d : drop count fs ≡ drop count es ++ drop held fs = ap (drop count) (sym (take-append-drop held fs) ∙ ap (λ b. b ++ drop held fs) e) ∙ drop-append-le count es (drop held fs) l in
    let m : count + length (map row_of (drop count es)) ≡ held = omega (arith, length-map (drop count es) row_of, length-drop count es) in
    sym
    (ap (λ b. sets was count (map row_of b)) d
    ∙ ap (sets was count) (map-append row_of (drop count es) (drop held fs))
    ∙ sets-append (map row_of (drop count es)) (map row_of (drop held fs)) was count
    ∙ ap (λ i. sets (sets was count (map row_of (drop count es))) i (map row_of (drop held fs))) m)

-- ---- steps
module _ {limit : ℕ} {was : List (List ℕ)} {log : List ℕ} {t : Tally} {now : List (List ℕ)} {log' : List ℕ} {r : Step} {s : State} (L : Left limit was log t now log' r s) where
  pub left_is : {u : State} → s ≡ u → Left limit was log t now log' r u
  left_is e = record {
    is = L.is ∙ e;
    words = L.words;
    old = L.old;
    elements = L.elements;
    size = L.size;
    log-size = L.log-size;
    grown = L.grown;
    room = L.room;
    within = L.within;
  }

  pub left-start : r.tripped ≡ false → start now log' r.tally ≡ s
  left-start e = let c : reached now log' r ≡ start now log' r.tally = rw e in sym c ∙ L.is

  pub left-quiet : r.tripped ≡ false → Left limit was log t now log' (quiet r.tally) (start now log' r.tally)
  left-quiet e = record {
    is = refl;
    words = L.words;
    old = L.old;
    elements = L.elements;
    size = L.size;
    log-size = L.log-size;
    grown = L.grown;
    room = L.room;
    within = λ q. L.within e;
  }

  pub left-count : length (edges_of now r.tally.edges) ≡ r.tally.edges
  left-count = edges-length now r.tally.edges L.room

  pub left-room : Room limit was t.edges → r.tripped ≡ false → Room limit now r.tally.edges
  left-room R e = record { bound = L.within e; room = omega (arith, L.size, R.room); most = R.most }

  pub left-tripped : s.tripped ≡ r.tripped
  left-tripped = sym (ap (λ (u : State). u.tripped) L.is)

  pub left-edges : edges_of now r.tally.edges ≡ s.edges
  left-edges = ap (λ (u : State). u.edges) L.is

  -- the same as equalities: the lent list and the log
  pub left-words : now ≡ stored was t.edges s.edges
  left-words = L.words ∙ ap (stored was t.edges) left-edges

  pub left-log : log' ≡ s.log
  left-log = ap (λ (u : State). u.log) L.is

pub left-same : (limit : ℕ) (was : List (List ℕ)) (log : List ℕ) (t : Tally) → Room limit was t.edges → Left limit was log t was log (quiet t) (start was log t)
left-same limit was log t R = record {
  is = refl;
  words = sym (stored-none was t.edges (omega (arith, R.bound, R.room)));
  old = refl;
  elements = refl;
  size = refl;
  log-size = refl;
  grown = omega arith;
  room = omega (arith, R.bound, R.room);
  within = λ e. R.bound;
}

pub left-trans : {limit : ℕ} {was : List (List ℕ)} {log : List ℕ} {t : Tally} {mid : List (List ℕ)} {log₁ : List ℕ} {held : Tally} {s : State} {now : List (List ℕ)} {log₂ : List ℕ} {r : Step} {u : State}
    → Left limit was log t mid log₁ (quiet held) s → Left limit mid log₁ held now log₂ r u → Left limit was log t now log₂ r u
left-trans {limit} {was} {log} {t} {mid} {log₁} {held} {s} {now} {log₂} {r} {u} L M = record {
  is = M.is;
  words =
      M.words ∙ ap (λ b. stored b held.edges (edges_of now r.tally.edges)) L.words
      ∙ stored_more was t.edges held.edges (edges_of mid held.edges) (edges_of now r.tally.edges) L.grown (edges-length mid held.edges L.room) (sym (edges-take now held.edges r.tally.edges M.grown) ∙ M.old);
  old = edges-less now mid t.edges held.edges L.grown M.old ∙ L.old;
  elements = M.elements ∙ L.elements;
  size = M.size ∙ L.size;
  log-size = M.log-size ∙ L.log-size;
  grown = omega (arith, L.grown, M.grown);
  room = M.room;
  within = M.within;
}

-- ---- one edge
module _ (limit : ℕ) (was : List (List ℕ)) (log : List ℕ) (t : Tally) (e : Edge) (R : Room limit was t.edges) where
  left-added : {now : List (List ℕ)} {log' : List ℕ} {reasons : ℕ} {b : Bool} → now ≡ set was t.edges (row_of e) → b ≡ ltb limit (t.edges + 1)
      → log' ≡ cond b (noted log t.reasons (bound_tripped 1 limit)) log → reasons ≡ cond b (counted t.reasons) t.reasons
      → Left limit was log t now log' (record { tally = record { elements = t.elements; edges = t.edges + 1; reasons = reasons }; tripped = b }) (added limit e (start was log t))
  left-added {now} {log'} {reasons} {b} p q l m =
      let k : t.edges < length was = omega (arith, R.bound, R.room) in
      let n : length (edges_of was t.edges) ≡ t.edges = edges-length was t.edges (omega arith) in
      record {
        is = rw (p, l, m, q, n, edges-append was t.edges e k);
        words = rw p (sym (ap (stored was t.edges) (edges-append was t.edges e k) ∙ stored_one was t.edges (edges_of was t.edges) e n));
        old = rw p (edges-kept was t.edges t.edges (row_of e) (omega arith));
        elements = refl;
        size = rw p (length-set was t.edges (row_of e));
        log-size = ap length l ∙ kept b;
        grown = omega arith;
        room = rw p (omega (arith, length-set was t.edges (row_of e)));
        within = λ w. ltb-false limit (t.edges + 1) (sym q ∙ w);
      }
    where
      kept : (b : Bool) → length (cond b (noted log t.reasons (bound_tripped 1 limit)) log) ≡ length log
      kept true = noted-length log t.reasons (bound_tripped 1 limit)
      kept false = refl

  -- the same where the bound trips, and where it does not
  pub left-trips : {now : List (List ℕ)} {log' : List ℕ} {reasons : ℕ} {b : Bool} → now ≡ set was t.edges (row_of e) → b ≡ ltb limit (t.edges + 1)
      → b ≡ true → log' ≡ noted log t.reasons (bound_tripped 1 limit) → reasons ≡ counted t.reasons
      → Left limit was log t now log' (record { tally = record { elements = t.elements; edges = t.edges + 1; reasons = reasons }; tripped = b }) (added limit e (start was log t))
  left-trips p q h l m = left-added p q (l ∙ rw h) (m ∙ rw h)

  pub left-stays : {now : List (List ℕ)} {b : Bool} → now ≡ set was t.edges (row_of e) → b ≡ ltb limit (t.edges + 1) → b ≡ false
      → Left limit was log t now log (record { tally = record { elements = t.elements; edges = t.edges + 1; reasons = t.reasons }; tripped = b }) (added limit e (start was log t))
  left-stays p q h = left-added p q (rw h) (rw h)

  abbrev pub known : Bool
  known = edge_in (edges_of was t.edges) e.role.0 e.from.0 e.to.0

  pub left-known : known ≡ true → Left limit was log t was log (quiet t) (push_edge limit e (start was log t))
  unfolding push_edge
  left-known h = rw h (left-same limit was log t R)

  pub left-new : known ≡ false → {now : List (List ℕ)} {log' : List ℕ} {r : Step} → Left limit was log t now log' r (added limit e (start was log t)) → Left limit was log t now log' r (push_edge limit e (start was log t))
  unfolding push_edge
  left-new h L = rw h L
