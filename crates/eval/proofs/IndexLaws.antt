-- The index of edges by where they leave: what a walk over it skips, and how it is made.
--     gap-less, gap_back, once-less              stretches of edges that do not leave x
--     no_index, indexed-kept                     words that are 0; edges that come after what is covered
--     walk-starts, ahead-on, ahead-next          a walk
--     any-skip-to, hits-skip-to, seen-skip-to    a loop over the list where edges are skipped
--     built-none, entered-front, entered-new, built-done    making an index
use Prim.Native.Nat.{ℕ, zero, suc, ◌+◌, ◌-◌, ◌*◌, ◌<◌, ◌≤◌}
use mathlib.Core.Bool.{Bool, true, false}
use mathlib.Core.Path.{◌≡◌, refl, sym, ap, subst, ◌∙◌}
use mathlib.Core.Logic.{⊎_elim}
use Rattle.std.specs.Prelude.{Some, None}
use mathlib.Core.List.{List, [], map}
use native.Mathlib.Nat.{eq-or-lt_of_le}
use native.Mathlib.Omega.{arith}
use native.Mathlib.Numerals.{add-one}
use lib.ListN.{length, get_or, set, drop, length-set, get_or-eq_default}
use lib.Seq.{get_or-set_same, get_or-set_other}
use lib.Dec.{eqb, ltb}
use borrow.Author.Tests.{eq-eqb, ne_eqb, eqb-true, eqb-false, ltb-true, ltb-false}
use Rattle.deck.specs.Deck.{Deck}
use Rattle.deck.proofs.CaseLaws.{lt-or-le}
use Rattle.eval.specs.declared.edges.Edge.{Edge}
use Rattle.eval.specs.declared.judgement.Judgement.{Judgement}
use Rattle.eval.specs.declared.lowest.Lowest.{Lowest}
use Rattle.eval.specs.declared.standing.Standing.{Standing}
use Rattle.eval.specs.Lists.{any}
use Rattle.eval.specs.Edges.{edge_of, edges_of, goes, leaves}
use Rattle.eval.specs.Judge.{some_from}
use Rattle.eval.proofs.Clash.{clash}
use Rattle.eval.proofs.EdgeWalks.{no_edge, edges_at, edges-length, any_step}
use Rattle.eval.proofs.Hits.{hits, hits-skip}
use Rattle.eval.proofs.SeenLaws.{SeenTo, seen_skip}
use Rattle.eval.specs.Index.{from_at, Gap, Once, low, high, used, head, start, next, stop, stop_of, Runs, Indexed, Ahead, Jumped, Follows, Built, Entered}

same_or_not : {C : Type 0} (a b : ℕ) → (a ≡ b → C) → ((a ≡ b → ⊥) → C) → C
same_or_not {C} a b f g = go (eqb a b) refl
  where
    go : (t : Bool) → eqb a b ≡ t → C
    go true e = f (eqb-true a b e)
    go false e = g (eqb-false a b e)

-- ---- stretches
module _ (rows : List (List ℕ)) (x : ℕ) where
  pub gap-less : {i s i' s' : ℕ} → i ≤ i' → s' ≤ s → Gap rows x i s → Gap rows x i' s'
  gap-less a b g = λ j p q. g j (omega (arith, a, p)) (omega (arith, b, q))

  pub gap-none : (i : ℕ) → Gap rows x i i
  gap-none i = λ j p q. absurd (omega (arith, p, q))

  pub gap_back : {i s : ℕ} → (from_at rows i ≡ x → ⊥) → Gap rows x (i + 1) s → Gap rows x i s
  gap_back {i} {s} n g = λ j p q e. ⊎_elim (λ (h : i ≡ j). n (rw h e)) (λ (l : i < j). g j (omega (arith, l)) q e) (eq-or-lt_of_le p)

  pub gap-one : {i : ℕ} → (from_at rows i ≡ x → ⊥) → Gap rows x i (i + 1)
  gap-one {i} n = gap_back n (gap-none (i + 1))

  pub gap-join : {i m s : ℕ} → Gap rows x i m → Gap rows x m s → Gap rows x i s
  gap-join {i} {m} {s} g h j p q = go (ltb j m) refl
    where
      go : (b : Bool) → ltb j m ≡ b → from_at rows j ≡ x → ⊥
      go true t = g j p (ltb-true j m t)
      go false t = h j (ltb-false j m t) q

  pub once-less : {i s s' : ℕ} → s' ≤ s → Once rows x i s → Once rows x i s'
  once-less a o = λ j p q n. gap-less (omega arith) a (o j p (omega (arith, a, q)) n)

-- ---- where a run starts
module _ (end : ℕ) (begins : ℕ → ℕ) where
  pub stop-none : {m : ℕ} → m ≡ 0 → stop end begins m ≡ end
  stop-none {m} e = rw (eq-eqb m 0 e)

  pub stop-some : {m : ℕ} → (m ≡ 0 → ⊥) → stop end begins m ≡ begins m
  stop-some {m} n = rw (ne_eqb m 0 n)

stop-same : (end : ℕ) (b c : ℕ → ℕ) (m : ℕ) → (0 < m → b m ≡ c m) → stop end b m ≡ stop end c m
stop-same end b c m e = same_or_not m 0 (λ (z : m ≡ 0). stop-none end b z ∙ sym (stop-none end c z)) (λ d. stop-some end b d ∙ e (omega (arith, d)) ∙ sym (stop-some end c d))

-- ---- runs
-- the same runs
runs_same : (rows : List (List ℕ)) (n i end most : ℕ) (h b t h' b' t' : ℕ → ℕ) → ((x : ℕ) → x < n → h' x ≡ h x) → ((m : ℕ) → 0 < m → b' m ≡ b m) → ((m : ℕ) → 0 < m → t' m ≡ t m) → Runs rows n i end most h b t → Runs rows n i end most h' b' t'
runs_same rows n i end most h b t h' b' t' eh eb et R = record {
  head-fits = λ x l. rw (eh x l) (R.head-fits x l);
  head-gap = λ x l. rw (eh x l) (rw (stop-same end b' b (h x) (eb (h x))) (R.head-gap x l));
  begins-fit = λ m p q. rw (eb m p) (R.begins-fit m p q);
  nexts-fit = λ m p q. rw (et m p) (R.nexts-fit m p q);
  once = λ m p q. rw (eb m p, et m p) (rw (stop-same end b' b (t m) (eb (t m))) (R.once m p q));
}

module _ (rows : List (List ℕ)) (n i end most : ℕ) (h b t h' b' t' : ℕ → ℕ) (R : Runs rows n (i + 1) end most h b t) (inside : i < end) where
  -- edge i comes to the front of run k
  module _ (k : ℕ) (some : 0 < k) (first : h (from_at rows i) ≡ k) (after : b k ≡ i + 1) (same : from_at rows (i + 1) ≡ from_at rows i) (fits : k ≤ most) (heads : (x : ℕ) → x < n → h' x ≡ h x) (nexts : (m : ℕ) → 0 < m → t' m ≡ t m) (begins : b' k ≡ i) (others : (m : ℕ) → (m ≡ k → ⊥) → b' m ≡ b m) where
    front-stop : stop end b' k ≡ i
    front-stop = stop-some end b' (λ e. omega (arith, e, some)) ∙ begins

    front_less : (m : ℕ) → stop end b' m ≤ stop end b m
    front_less m =
        same_or_not m k
        (λ (e : m ≡ k). rw (e, front-stop, stop-some end b {m = k} (λ z. omega (arith, z, some)), after) (omega arith))
        (λ d. rw (stop-same end b' b m (λ p. others m d)) (omega arith))

    pub runs-front : Runs rows n i end most h' b' t'
    runs-front = record {
      head-fits = λ x l. rw (heads x l) (R.head-fits x l);
      head-gap = λ x l. rw (heads x l)
          (same_or_not x (from_at rows i)
          (λ (e : x ≡ from_at rows i). rw (ap h e ∙ first, front-stop) (gap-none rows x i))
          (λ d. gap_back rows x (λ e. d (sym e)) (gap-less rows x (omega arith) (front_less (h x)) (R.head-gap x l))));
      begins-fit = λ m p q. same_or_not m k (λ (e : m ≡ k). rw (e, begins) inside) (λ d. rw (others m d) (R.begins-fit m p q));
      nexts-fit = λ m p q. rw (nexts m p) (R.nexts-fit m p q);
      once = λ m p q. rw (nexts m p) (same_or_not m k (λ (e : m ≡ k). rw (e, begins) grown) (λ d. rw (others m d) (once-less rows (from_at rows (b m)) (front_less (t m)) (R.once m p q))));
    }
      where
        old : Once rows (from_at rows i) (i + 1) (stop end b (t k))
        old = rw (after, same) at (R.once k some fits)

        grown : Once rows (from_at rows i) i (stop end b' (t k))
        grown = λ j p q d. ⊎_elim (λ (e : i ≡ j). absurd (d (ap (from_at rows) (sym e)))) (λ (l : i < j). once-less rows (from_at rows i) (front_less (t k)) old j (omega (arith, l)) q d) (eq-or-lt_of_le p)

  -- edge i is a run of its own, the first of its element
  module _ (heads : h' (from_at rows i) ≡ most + 1) (other-heads : (x : ℕ) → x < n → (x ≡ from_at rows i → ⊥) → h' x ≡ h x) (begins : b' (most + 1) ≡ i) (others : (m : ℕ) → 0 < m → m ≤ most → b' m ≡ b m) (nexts : t' (most + 1) ≡ h (from_at rows i)) (other-nexts : (m : ℕ) → 0 < m → m ≤ most → t' m ≡ t m) (known : from_at rows i < n) where
    new-stop : stop end b' (most + 1) ≡ i
    new-stop = stop-some end b' (λ e. omega (arith, e)) ∙ begins

    old-stop : (m : ℕ) → m ≤ most → stop end b' m ≡ stop end b m
    old-stop m l = stop-same end b' b m (λ p. others m p l)

    pub runs-new : Runs rows n i end (most + 1) h' b' t'
    runs-new = record {
      head-fits = λ x l. same_or_not x (from_at rows i) (λ (e : x ≡ from_at rows i). rw (ap h' e ∙ heads) (omega arith)) (λ d. rw (other-heads x l d) (omega (arith, R.head-fits x l)));
      head-gap = λ x l.
          same_or_not x (from_at rows i)
          (λ (e : x ≡ from_at rows i). rw (ap h' e ∙ heads, new-stop) (gap-none rows x i))
          (λ d. rw (other-heads x l d, old-stop (h x) (R.head-fits x l)) (gap_back rows x (λ e. d (sym e)) (R.head-gap x l)));
      begins-fit = λ m p q. same_or_not m (most + 1) (λ (e : m ≡ most + 1). rw (e, begins) inside) (λ d. let u : m ≤ most = omega (arith, d, q) in rw (others m p u) (R.begins-fit m p u));
      nexts-fit = λ m p q. same_or_not m (most + 1) (λ (e : m ≡ most + 1). rw (e, nexts) (omega (arith, R.head-fits (from_at rows i) known))) (λ d. let u : m ≤ most = omega (arith, d, q) in rw (other-nexts m p u) (omega (arith, R.nexts-fit m p u)));
      once = λ m p q.
          same_or_not m (most + 1)
          (λ (e : m ≡ most + 1). rw (e, begins, nexts, old-stop (h (from_at rows i)) (R.head-fits (from_at rows i) known)) alone)
          (λ d. let u : m ≤ most = omega (arith, d, q) in rw (others m p u, other-nexts m p u, old-stop (t m) (R.nexts-fit m p u)) (R.once m p u));
    }
      where
        alone : Once rows (from_at rows i) i (stop end b (h (from_at rows i)))
        alone = λ j p q d. ⊎_elim (λ (e : i ≡ j). absurd (d (ap (from_at rows) (sym e)))) (λ (l : i < j). gap-less rows (from_at rows i) (omega (arith, l)) (omega arith) (R.head-gap (from_at rows i) known)) (eq-or-lt_of_le p)

-- ---- an index
module _ (rows : List (List ℕ)) (n count : ℕ) (index : List ℕ) where
  -- words that are 0 cover nothing
  pub no_index : ((k : ℕ) → k < 3 + n → get_or index k 0 ≡ 0) → Indexed rows n count index
  no_index z =
      let lo : low index ≡ 0 = z 0 (omega arith) in
      let hi : high index ≡ 0 = z 1 (omega arith) in
      let us : used index ≡ 0 = z 2 (omega arith) in
      record {
        within = omega (arith, hi);
        runs = record {
          head-fits = λ x l. omega (arith, z (3 + x) (omega (arith, l)));
          head-gap = λ x l j p q. absurd (omega (arith, q, hi, stop-none (high index) (start n index) (z (3 + x) (omega (arith, l)))));
          begins-fit = λ m p q. absurd (omega (arith, p, q, us));
          nexts-fit = λ m p q. absurd (omega (arith, p, q, us));
          once = λ m p q. absurd (omega (arith, p, q, us));
        };
      }

  module _ (I : Indexed rows n count index) where
    -- a run starts within what is covered
    pub stop-high : (m : ℕ) → m ≤ used index → stop_of n index m ≤ high index
    stop-high m q =
        same_or_not m 0
        (λ (e : m ≡ 0). rw (stop-none (high index) (start n index) e) (omega arith))
        (λ d. rw (stop-some (high index) (start n index) d) (omega (arith, I.runs.begins-fit m (omega (arith, d)) q)))

    pub run_inside : (m : ℕ) → (m ≡ 0 → ⊥) → m ≤ used index → (s : ℕ) → s ≡ stop_of n index m → s < count
    run_inside m d q s h = omega (arith, h, stop-some (high index) (start n index) d, I.runs.begins-fit m (omega (arith, d)) q, I.within)

    -- edges that come after what is covered
    pub indexed-kept : (rows' : List (List ℕ)) (count' : ℕ) → ((j : ℕ) → j < high index → from_at rows' j ≡ from_at rows j) → count ≤ count' → Indexed rows' n count' index
    indexed-kept rows' count' same more = record {
      within = omega (arith, more, I.within);
      runs = record {
        head-fits = I.runs.head-fits;
        head-gap = λ x l. kept x (low index) (stop_of n index (head index x)) (stop-high (head index x) (I.runs.head-fits x l)) (I.runs.head-gap x l);
        begins-fit = I.runs.begins-fit;
        nexts-fit = I.runs.nexts-fit;
        once = λ m p q. rw (same (start n index m) (I.runs.begins-fit m p q)) (kept-once (from_at rows (start n index m)) (start n index m) (stop_of n index (next n index m)) (stop-high (next n index m) (I.runs.nexts-fit m p q)) (I.runs.once m p q));
      };
    }
      where
        kept : (x i s : ℕ) → s ≤ high index → Gap rows x i s → Gap rows' x i s
        kept x i s h g = λ j p q e. g j p q (sym (same j (omega (arith, h, q))) ∙ e)

        kept-once : (x i s : ℕ) → s ≤ high index → Once rows x i s → Once rows' x i s
        kept-once x i s h o = λ j p q d. kept x j s h (o j p q (λ e. d (same j (omega (arith, h, q)) ∙ e)))

    -- ---- a walk
    module _ (x : ℕ) where
      pub walk-starts : x < n → Ahead rows n index x 0 (head index x)
      walk-starts l = record { fits = I.runs.head-fits x l; once = λ j p q r d. gap-less rows x q (omega arith) (I.runs.head-gap x l) }

      pub ahead-next : (m : ℕ) → (m ≡ 0 → ⊥) → m ≤ used index → (s : ℕ) → s ≡ stop_of n index m → from_at rows s ≡ x → Ahead rows n index x s (next n index m)
      ahead-next m d q s h e =
          let b : s ≡ start n index m = h ∙ stop-some (high index) (start n index) d in
          let p : 0 < m = omega (arith, d) in
          record { fits = I.runs.nexts-fit m p q; once = λ j u v. (rw (sym b, e) at (I.runs.once m p q)) j u }

      pub jump-far : (i m s r : ℕ) → low index ≤ i → i < s → s ≡ stop_of n index m → (from_at rows i ≡ x → ⊥) → Ahead rows n index x i m → Ahead rows n index x s r → Jumped rows n count index x i (record { at = s; run = r })
      jump-far i m s r a b h d A B = record { on = b; within = omega (arith, h, stop-high m A.fits, I.within); gap = rw (sym h) at (A.once i (omega arith) a (omega (arith, b, h)) d); ahead = B }

  module _ (x : ℕ) where
    pub ahead-on : {i i' m : ℕ} → i ≤ i' → Ahead rows n index x i m → Ahead rows n index x i' m
    ahead-on h A = record { fits = A.fits; once = λ j p. A.once j (omega (arith, h, p)) }

    pub ahead-there : (m s : ℕ) → m ≤ used index → s ≡ stop_of n index m → Ahead rows n index x s m
    ahead-there m s q h = record { fits = q; once = λ j p a b. absurd (omega (arith, p, b, h)) }

    pub jump-one : (i m : ℕ) → i < count → (from_at rows i ≡ x → ⊥) → Ahead rows n index x (i + 1) m → Jumped rows n count index x i (record { at = i + 1; run = m })
    jump-one i m h d A = record { on = omega arith; within = omega (arith, h); gap = gap-one rows x d; ahead = A }

-- ---- loops that skip
-- what each step keeps holds at the end
pub climb : (P : ℕ → Type 0) (i j : ℕ) → i ≤ j → ((k : ℕ) → i ≤ k → k < j → P k → P (k + 1)) → P i → P j
climb P i zero h s p = subst P (omega (arith, h)) p
climb P i (suc j) h s p =
    ⊎_elim (λ (e : i ≡ suc j). subst P e p)
    (λ (l : i < suc j). subst P (add-one j) (s j (omega (arith, l)) (omega arith) (climb P i j (omega (arith, l)) (λ k a b. s k a (omega (arith, b))) p)))
    (eq-or-lt_of_le h)

-- a test that only edges from x pass
module _ (D : Deck) (r x : ℕ) (e : Edge) (d : e.from.0 ≡ x → ⊥) where
  pub leaves-off : leaves D r x e ≡ false
  leaves-off = rw (ne_eqb e.from.0 x d)

  pub goes-off : (y : ℕ) → goes D r x y e ≡ false
  goes-off y = rw (ne_eqb e.from.0 x d)

module _ (rows : List (List ℕ)) (count : ℕ) (k : count ≤ length rows) (x i j : ℕ) (l : i ≤ j) (w : j ≤ count) (gap : Gap rows x i j) (p : Edge → Bool) (off : (e : Edge) → (e.from.0 ≡ x → ⊥) → p e ≡ false) where
  off_at : (m : ℕ) → i ≤ m → m < j → p (get_or (edges_of rows count) m no_edge) ≡ false
  off_at m a b = rw (edges_at rows count m (omega (arith, b, w)) k) (off (edge_of (get_or rows m [])) (gap m a b))

  in_list : (m : ℕ) → m < j → m < length (edges_of rows count)
  in_list m b = omega (arith, b, w, edges-length rows count k)

  pub any-skip-to : any (map p (drop i (edges_of rows count))) ≡ any (map p (drop j (edges_of rows count)))
  any-skip-to = climb (λ (m : ℕ). any (map p (drop i (edges_of rows count))) ≡ any (map p (drop m (edges_of rows count)))) i j l (λ m a b e. e ∙ any_step no_edge p (edges_of rows count) m (in_list m b) (off_at m a b)) refl

  pub hits-skip-to : (g : Edge → ℕ) (f : ℕ → Judgement) (s : Standing) → some_from f s (hits p g (drop i (edges_of rows count))) ≡ some_from f s (hits p g (drop j (edges_of rows count)))
  hits-skip-to g f s = climb (λ (m : ℕ). some_from f s (hits p g (drop i (edges_of rows count))) ≡ some_from f s (hits p g (drop m (edges_of rows count)))) i j l (λ m a b e. e ∙ hits-skip p g f s no_edge (edges_of rows count) m (in_list m b) (off_at m a b)) refl

  pub seen-skip-to : (f : Edge → Judgement) {s : Lowest} → SeenTo p f (edges_of rows count) i s → SeenTo p f (edges_of rows count) j s
  seen-skip-to f {s} = climb (λ (m : ℕ). SeenTo p f (edges_of rows count) m s) i j l (λ m a b S. seen_skip p f (edges_of rows count) no_edge m (in_list m b) (off_at m a b) S)

-- ---- making an index
-- the edge before
pub back : (i : ℕ) → 0 < i → i - 1 + 1 ≡ i
back i h = omega (arith, h)

pub zeros-more : (l : List ℕ) (i : ℕ) → i < length l → ((k : ℕ) → k < i → get_or l k 0 ≡ 0) → (k : ℕ) → k < i + 1 → get_or (set l i 0) k 0 ≡ 0
zeros-more l i h z k b = same_or_not k i (λ (e : k ≡ i). rw e (get_or-set_same l i 0 0 h)) (λ d. get_or-set_other l i k 0 0 d ∙ z k (omega (arith, b, d)))

-- words past the end are 0 too
pub zeros-all : (l : List ℕ) → ((k : ℕ) → k < length l → get_or l k 0 ≡ 0) → (k : ℕ) → get_or l k 0 ≡ 0
zeros-all l z k = ⊎_elim (λ (b : k < length l). z k b) (λ (b : length l ≤ k). get_or-eq_default l 0 b) (lt-or-le k (length l))

module _ (rows : List (List ℕ)) (n count : ℕ) (index : List ℕ) where
  -- no edge is in
  pub built-none : 3 + n ≤ length index → ((k : ℕ) → k < 3 + n → get_or index k 0 ≡ 0) → Built rows n count count 0 index
  built-none h z = record {
    room = omega (arith, h);
    few = omega arith;
    runs = record {
      head-fits = λ x l. omega (arith, z (3 + x) (omega (arith, l)));
      head-gap = λ x l j p q. absurd (omega (arith, p, q, stop-none count (start n index) (z (3 + x) (omega (arith, l)))));
      begins-fit = λ m p q. absurd (omega (arith, p, q));
      nexts-fit = λ m p q. absurd (omega (arith, p, q));
      once = λ m p q. absurd (omega (arith, p, q));
    };
  }

  module _ (i most : ℕ) (B : Built rows n count (i + 1) most index) (known : from_at rows i < n) where
    inside : i < count
    inside = omega (arith, B.few)

    entered : (is : List ℕ) (runs : ℕ) → length is ≡ length index → Built rows n count i runs is → Entered rows n count i index is (Some runs)
    entered is runs size B = record {
      size = size;
      full = λ z. clash (cc);
      built = λ r p. let same : runs ≡ r = cc in subst (λ (m : ℕ). Built rows n count i m is) same B;
    }

    -- edge i comes to the front of the run after it
    pub entered-front : (h : ℕ) → h ≡ head index (from_at rows i) → Follows rows n index h i → Entered rows n count i index (set index (1 + n + 2 * h) i) (Some most)
    entered-front h e F =
        let fits : h ≤ most = omega (arith, e, B.runs.head-fits (from_at rows i) known) in
        entered _ most (length-set index (1 + n + 2 * h) i)
        (record {
          room = omega (arith, length-set index (1 + n + 2 * h) i, B.room);
          few = omega (arith, B.few);
          runs = runs-front rows n i count most (head index) (start n index) (next n index) _ _ _ B.runs inside h F.some (sym e) F.after F.same fits
              (λ x l. get_or-set_other index (1 + n + 2 * h) (3 + x) i 0 (λ q. omega (arith, q, l, F.some)))
              (λ m p. get_or-set_other index (1 + n + 2 * h) (2 + n + 2 * m) i 0 (λ q. omega (arith, q)))
              (get_or-set_same index (1 + n + 2 * h) i 0 (omega (arith, B.room, fits)))
              (λ m d. get_or-set_other index (1 + n + 2 * h) (1 + n + 2 * m) i 0 (λ q. d (omega (arith, q))));
        })

    -- edge i is a run of its own
    module _ (more : 5 + n + 2 * most ≤ length index) where
      abbrev at : ℕ
      at = 1 + n + 2 * (most + 1)

      abbrev first : List ℕ
      first = set index at i

      abbrev second : ℕ → List ℕ
      second h = set first (2 + n + 2 * (most + 1)) h

      -- words at other places
      kept : (h k : ℕ) → (k ≡ at → ⊥) → (k ≡ 2 + n + 2 * (most + 1) → ⊥) → (k ≡ 3 + from_at rows i → ⊥) → get_or (set (second h) (3 + from_at rows i) (most + 1)) k 0 ≡ get_or index k 0
      kept h k a b c = get_or-set_other (second h) (3 + from_at rows i) k (most + 1) 0 c ∙ get_or-set_other first (2 + n + 2 * (most + 1)) k h 0 b ∙ get_or-set_other index at k i 0 a

      size_of : (h : ℕ) → length (set (second h) (3 + from_at rows i) (most + 1)) ≡ length index
      size_of h = length-set (second h) (3 + from_at rows i) (most + 1) ∙ length-set first (2 + n + 2 * (most + 1)) h ∙ length-set index at i

      pub entered-new : (h : ℕ) → h ≡ head index (from_at rows i) → Entered rows n count i index (set (second h) (3 + from_at rows i) (most + 1)) (Some (most + 1))
      entered-new h e =
          entered _ (most + 1) (size_of h) (record {
            room = omega (arith, size_of h, more);
            few = omega (arith, B.few);
            runs = runs-new rows n i count most (head index) (start n index) (next n index) _ _ _ B.runs inside
                (get_or-set_same (second h) (3 + from_at rows i) (most + 1) 0 (omega (arith, known, more, length-set first (2 + n + 2 * (most + 1)) h, length-set index at i)))
                (λ x l d. kept h (3 + x) (λ q. omega (arith, q, l)) (λ q. omega (arith, q, l)) (λ q. d (omega (arith, q))))
                (get_or-set_other (second h) (3 + from_at rows i) at (most + 1) 0 (λ q. omega (arith, q, known)) ∙ get_or-set_other first (2 + n + 2 * (most + 1)) at h 0 (λ q. omega (arith, q)) ∙ get_or-set_same index at i 0 (omega (arith, more)))
                (λ m p l. kept h (1 + n + 2 * m) (λ q. omega (arith, q, l)) (λ q. omega (arith, q)) (λ q. omega (arith, q, known, p)))
                (get_or-set_other (second h) (3 + from_at rows i) (2 + n + 2 * (most + 1)) (most + 1) 0 (λ q. omega (arith, q, known)) ∙ get_or-set_same first (2 + n + 2 * (most + 1)) h 0 (omega (arith, more, length-set index at i)) ∙ e)
                (λ m p l. kept h (2 + n + 2 * m) (λ q. omega (arith, q)) (λ q. omega (arith, q, l)) (λ q. omega (arith, q, known, p)))
                known;
          })

  -- there is no room for edge i
  pub entered-not : (i : ℕ) → Entered rows n count i index index None
  entered-not i = record { size = refl; full = λ z. refl; built = λ r p. clash (cc) }

  -- the words that say what is covered
  module _ (i most : ℕ) (B : Built rows n count i most index) where
    abbrev words : List ℕ
    words = set (set (set index 0 i) 1 count) 2 most

    kept_word : (k : ℕ) → 3 ≤ k → get_or words k 0 ≡ get_or index k 0
    kept_word k h =
        get_or-set_other (set (set index 0 i) 1 count) 2 k most 0 (λ q. omega (arith, q, h)) ∙ get_or-set_other (set index 0 i) 1 k count 0 (λ q. omega (arith, q, h)) ∙ get_or-set_other index 0 k i 0 (λ q. omega (arith, q, h))

    pub built-size : length words ≡ length index
    built-size = length-set (set (set index 0 i) 1 count) 2 most ∙ length-set (set index 0 i) 1 count ∙ length-set index 0 i

    pub built-done : Indexed rows n count words
    built-done =
        let room : 3 ≤ length index = omega (arith, B.room) in
        let one : length (set index 0 i) ≡ length index = length-set index 0 i in
        let two : length (set (set index 0 i) 1 count) ≡ length (set index 0 i) = length-set (set index 0 i) 1 count in
        let lo : low words ≡ i = get_or-set_other (set (set index 0 i) 1 count) 2 0 most 0 (λ q. omega (arith, q)) ∙ get_or-set_other (set index 0 i) 1 0 count 0 (λ q. omega (arith, q)) ∙ get_or-set_same index 0 i 0 (omega (arith, room)) in
        let hi : high words ≡ count = get_or-set_other (set (set index 0 i) 1 count) 2 1 most 0 (λ q. omega (arith, q)) ∙ get_or-set_same (set index 0 i) 1 count 0 (omega (arith, room, one)) in
        let us : used words ≡ most = get_or-set_same (set (set index 0 i) 1 count) 2 most 0 (omega (arith, room, one, two)) in
        record {
          within = omega (arith, hi);
          runs = rw (lo, hi, us)
              (runs_same rows n i count most (head index) (start n index) (next n index) (head words) (start n words) (next n words)
              (λ x l. kept_word (3 + x) (omega arith))
              (λ m p. kept_word (1 + n + 2 * m) (omega (arith, p)))
              (λ m p. kept_word (2 + n + 2 * m) (omega (arith, p)))
              B.runs);
        }
