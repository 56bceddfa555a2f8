-- The next pair of a role by an index of the edges: an element's edges from run to run, then element by element.
--     sweep-start, sweep-step, sweep-skip       one element's edges
--     rows-first, rows_on, rows-nothing         element by element
--     indexed-after                             edges that a step appends
use Prim.Native.Nat.{ℕ, zero, suc, ◌+◌, ◌-◌, ◌*◌, ◌/◌, ◌<◌, ◌≤◌, max}
use mathlib.Core.Bool.{Bool, false, and-false}
use mathlib.Core.Path.{◌≡◌, sym, ap, subst, ◌∙◌}
use mathlib.Core.Logic.{⊎_elim}
use mathlib.Core.List.{List, []}
use native.Mathlib.Omega.{arith}
use native.Mathlib.Nat.{eq-or-lt_of_le}
use lib.ListN.{length, get_or}
use lib.Dec.{leb}
use borrow.Author.Tests.{lt-leb, le-ltb}
use Rattle.deck.specs.Content.{deck_of}
use Rattle.deck.specs.Deck.{Deck}
use Rattle.deck.proofs.CaseLaws.{lt-or-le}
use Rattle.eval.specs.declared.edges.Edge.{Edge}
use Rattle.eval.specs.Edges.{edge_of, edges_of, under}
use Rattle.eval.specs.Index.{from_at, Gap, high, Indexed}
use Rattle.eval.proofs.ListLaws.{member-at}
use Rattle.eval.proofs.EdgeWalks.{no_edge, edges-length, edges_at}
use Rattle.eval.proofs.IndexLaws.{indexed-kept}
use Rattle.std.specs.Prelude.{Some, None}
use Rattle.build.specs.declared.building.Build.{Build}
use Rattle.build.specs.declared.tally.Tally.{Tally}
use Rattle.model.specs.Pairs.{key_of, link_key, EndsFit, nearer_of, Near, Nearest}
use Rattle.build.specs.Building.{Pushed}
use Rattle.build.specs.Push.{State}
use Rattle.model.specs.Closing.{EdgesFit, Ready}
use Rattle.model.proofs.NextLaws.{near-start, near_step, key-start, key-next, ends_at}

-- ---- one element
-- an edge that leaves another element is no nearer
nearer-off : (x from to after end best : ℕ) (p : Bool) → (from ≡ x → ⊥) → to < 65536 → x * 65536 ≤ after → end ≤ x * 65536 + 65536 → best ≤ end
    → nearer_of after (from * 65536 + to) p best ≡ best
nearer-off x from to after end best p n t a b l =
    ⊎_elim
    (λ (q : from < x). rw (lt-leb after (from * 65536 + to) (omega (arith, q, t, a))))
    (λ (q : x ≤ from).
    ⊎_elim (λ (e : x ≡ from). absurd (n (sym e)))
    (λ (g : x < from). rw (le-ltb (from * 65536 + to) best (omega (arith, g, b, l)), and-false (leb after (from * 65536 + to))))
    (eq-or-lt_of_le q))
    (lt-or-le from x)

-- of the first `seen` edges those below `at` were looked at
pub record Sweep (hits : ℕ → ℕ → Bool) (seen after end at best : ℕ) : Type 0 where
  pub part : at ≤ seen → Near (hits at) after end best
  pub all : seen ≤ at → Near (hits seen) after end best

module _ (D : Deck) (rows : List (List ℕ)) (seen r : ℕ) (room : seen ≤ length rows) (F : EndsFit (edges_of rows seen)) (x after end : ℕ) (lo : x * 65536 ≤ after) (hi : end ≤ x * 65536 + 65536) where
  abbrev hits : ℕ → ℕ → Bool
  hits i = link_key D (edges_of rows i) r

  pub sweep-start : Sweep hits seen after end 0 end
  sweep-start =
      let N : Near (hits 0) after end end = near-start (hits 0) after end (λ u. key-start D rows r u) in
      record { part = λ _. N; all = λ (h : seen ≤ 0). let e : 0 ≡ seen = omega (arith, h) in subst (λ (i : ℕ). Near (hits i) after end end) e N }

  -- one edge more
  look : (i best : ℕ) → i < seen → Near (hits i) after end best
      → Near (hits (i + 1)) after end (nearer_of after (key_of (edge_of (get_or rows i []))) (under D r (edge_of (get_or rows i []))) best)
  look i best h N = near_step (hits i) (hits (i + 1)) after end (key_of (edge_of (get_or rows i []))) best (under D r (edge_of (get_or rows i []))) (key-next D rows seen r room F i h) N

  pub sweep-step : (at best : ℕ) → at < seen → Sweep hits seen after end at best
      → Sweep hits seen after end (at + 1) (nearer_of after (key_of (edge_of (get_or rows at []))) (under D r (edge_of (get_or rows at []))) best)
  sweep-step at best h S =
      let N = look at best h (S.part (omega (arith, h))) in
      record {
        part = λ _. N;
        all = λ (g : seen ≤ at + 1).
            let e : at + 1 ≡ seen = omega (arith, g, h) in
            subst (λ (i : ℕ). Near (hits i) after end (nearer_of after (key_of (edge_of (get_or rows at []))) (under D r (edge_of (get_or rows at []))) best)) e N;
      }

  pass : (i best : ℕ) → i < seen → (from_at rows i ≡ x → ⊥) → Near (hits i) after end best → Near (hits (i + 1)) after end best
  pass i best h n N =
      subst (λ (b : ℕ). Near (hits (i + 1)) after end b)
      (nearer-off x (from_at rows i) (get_or (get_or rows i []) 2 0) after end best (under D r (edge_of (get_or rows i []))) n (ends_at D rows seen r room F i h) lo hi N.le)
      (look i best h N)

  past : (i m best : ℕ) → i + m ≤ seen → Gap rows x i (i + m) → Near (hits i) after end best → Near (hits (i + m)) after end best
  past i zero best h g N = let e : i ≡ i + 0 = omega arith in subst (λ (k : ℕ). Near (hits k) after end best) e N
  past i (suc m) best h g N =
      let e : i + m + 1 ≡ i + suc m = omega arith in
      subst (λ (k : ℕ). Near (hits k) after end best) e
      (pass (i + m) best (omega (arith, h)) (g (i + m) (omega arith) (omega arith))
      (past i m best (omega (arith, h)) (λ j p q. g j p (omega (arith, q))) N))

  past_to : (i j best : ℕ) → i ≤ j → j ≤ seen → Gap rows x i j → Near (hits i) after end best → Near (hits j) after end best
  past_to i j best l h g N =
      let e : i + (j - i) ≡ j = omega (arith, l) in
      subst (λ (k : ℕ). Near (hits k) after end best) e (past i (j - i) best (omega (arith, l, h)) (λ k p q. g k p (omega (arith, q, l))) N)

  pub sweep-skip : (at j best : ℕ) → at < seen → at ≤ j → Gap rows x at j → Sweep hits seen after end at best → Sweep hits seen after end j best
  sweep-skip at j best h l g S =
      let N = S.part (omega (arith, h)) in
      record {
        part = λ (q : j ≤ seen). past_to at j best l q g N;
        all = λ (q : seen ≤ j). past_to at seen best (omega (arith, h)) (omega arith) (λ k p u. g k p (omega (arith, u, q))) N;
      }

-- ---- element by element: none before x, and from x on the nearest below `stop`
module _ (hit : ℕ → Bool) (after end : ℕ) where
  pub rows_none : (x : ℕ) → x ≤ after / 65536 → (u : ℕ) → after ≤ u → u < x * 65536 → hit u ≡ false
  rows_none x h u a b = absurd (omega (arith, h, a, b))

  module _ (x from stop : ℕ) (at : from ≡ max after (x * 65536)) (seen : (u : ℕ) → after ≤ u → u < x * 65536 → hit u ≡ false) where
    before : (best : ℕ) → Near hit from stop best → (u : ℕ) → after ≤ u → u < best → hit u ≡ false
    before best N u a b = ⊎_elim (λ (h : u < x * 65536). seen u a h) (λ (h : x * 65536 ≤ u). N.none u (omega (arith, at, h, a)) b) (lt-or-le u (x * 65536))

    pub rows-first : stop ≤ end → (best : ℕ) → (best < stop) × Near hit from stop best → Nearest (λ (k : ℕ). k) hit after end (Some best)
    rows-first s best N = record {
      some = (omega (arith, N.0, s), record { le = omega (arith, N.0, s); none = before best N.1; got = λ _. (omega (arith, at, (N.1.got N.0).0), (N.1.got N.0).1) });
      none = tt;
    }

    pub rows_on : Near hit from stop stop → (u : ℕ) → after ≤ u → u < stop → hit u ≡ false
    rows_on = before stop

  pub rows-nothing : (x : ℕ) → end ≤ x * 65536 → ((u : ℕ) → after ≤ u → u < x * 65536 → hit u ≡ false) → Nearest (λ (k : ℕ). k) hit after end None
  rows-nothing x h none = record {
    some = tt;
    none = record { le = omega arith; none = λ (u : ℕ) (a : after ≤ u) (b : u < end). none u a (omega (arith, b, h)); got = λ (b : end < end). absurd (omega (arith, b)) };
  }

-- ---- the index
-- a step keeps where the edges of before leave
module _ {a b : Build} {r : Bool} {s : State} where
  pub indexed-after : a.tally.edges ≤ length a.edges.now → (index : List ℕ) → Indexed a.edges.now a.tally.elements a.tally.edges index → Pushed a b r s → Indexed b.edges.now b.tally.elements b.tally.edges index
  indexed-after h index I P =
      let L = P.left in
      let e : b.tally.elements ≡ a.tally.elements = L.elements in
      rw e (indexed-kept a.edges.now a.tally.elements a.tally.edges index I b.edges.now b.tally.edges same L.grown)
    where
      same : (j : ℕ) → j < high index → from_at b.edges.now j ≡ from_at a.edges.now j
      same j g =
          let l : j < a.tally.edges = omega (arith, g, I.within) in
          ap (λ (e : Edge). e.from.0)
          (sym (edges_at b.edges.now a.tally.edges j l (omega (arith, P.left.size, h))) ∙ ap (λ es. get_or es j no_edge) P.left.old ∙ edges_at a.edges.now a.tally.edges j l h)

-- every edge leaves one of the elements
fits-from : (D : Deck) (n : ℕ) (rows : List (List ℕ)) (count : ℕ) → count ≤ length rows → EdgesFit D n (edges_of rows count) → (j : ℕ) → j < count → from_at rows j < n
unfolding EdgesFit
fits-from D n rows count h F j b =
    (rw (edges_at rows count j b h) at (F (get_or (edges_of rows count) j no_edge) (member-at no_edge (edges_of rows count) j (omega (arith, b, edges-length rows count h))))).from

module _ {d : List ℕ} {limit : ℕ} {rows : List (List ℕ)} {t : Tally} (R : Ready d limit rows t) where
  pub ready-room : t.edges ≤ length rows
  ready-room = omega (arith, R.space.bound, R.space.room)

  pub ready-from : (j : ℕ) → j < t.edges → from_at rows j < t.elements
  ready-from = fits-from (deck_of d) t.elements rows t.edges ready-room R.fits
