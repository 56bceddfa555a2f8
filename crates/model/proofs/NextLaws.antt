-- The next pair of a role: a scan of the edges for the nearest number that is hit, one edge at a time.
--     keep-first                                   what the next one says of those to come
--     near-start, near_step, near_first, near-nothing   the scan
--     nearest-of, nearest-first                    what it hands back
--     key-start, key-next                          one edge more
use Prim.Native.Nat.{ℕ, zero, suc, ◌+◌, ◌-◌, ◌*◌, ◌/◌, ◌%◌, ◌<◌, ◌≤◌}
use mathlib.Core.Bool.{Bool, true, false, cond, ◌&&◌, ◌||◌, and-false, and_assoc, and_comm, or-false, or-true, or_assoc}
use mathlib.Core.Path.{◌≡◌, refl, sym, ap, ◌∙◌}
use mathlib.Core.Logic.{⊎_elim}
use mathlib.Core.List.{List, [], ◌∷◌, ◌++◌, map}
use native.Mathlib.Omega.{arith}
use native.Mathlib.Numerals.{add-one}
use native.Mathlib.Nat.{eq-or-lt_of_le}
use lib.ListN.{length, get_or, take}
use lib.Seq.{take-suc}
use lib.Dec.{eqb, leb, ltb}
use borrow.Author.Tests.{leb-true, leb-false, ltb-true, ltb-false, eqb-true, eqb-false, ne_eqb, eq-eqb}
use Rattle.deck.specs.Deck.{Deck}
use Rattle.eval.specs.declared.edges.Edge.{Edge}
use Rattle.eval.specs.Lists.{keep, range, any}
use Rattle.eval.specs.Edges.{edge_of, edges_of, under, goes, linked}
use Rattle.eval.proofs.Clash.{clash}
use Rattle.eval.proofs.ListLaws.{member-at}
use Rattle.eval.proofs.EdgeWalks.{no_edge, edges-length, edges_at}
use Rattle.std.specs.Prelude.{Option, Some, None}
use Rattle.std.specs.Bool.{then_some}
use Rattle.model.specs.Pairs.{key_of, link_key, EndsFit, first, nearer_of, Near, Nearest}

-- ---- kept numbers
-- a part that passes no test is left out
keep-skip : (p : ℕ → Bool) (a n b : ℕ) → a ≤ b → b ≤ a + n → ((u : ℕ) → a ≤ u → u < b → p u ≡ false) → keep p (range a n) ≡ keep p (range b (a + n - b))
unfolding keep range
keep-skip p a zero b h k none = let z : a + 0 - b ≡ 0 = omega arith in rw z
keep-skip p a (suc n) b h k none =
    ⊎_elim (λ (q : a ≡ b). let z : suc n ≡ a + suc n - b = omega arith in rw (← z, ← q))
    (λ (l : a < b).
    let z : suc a + n - b ≡ a + suc n - b = omega arith in
    rw (none a (omega arith) l) (rw (← z) (keep-skip p (suc a) n b l (omega arith) (λ u g. none u (omega arith)))))
    (eq-or-lt_of_le h)

-- the next that passes
keep-hit : (p : ℕ → Bool) (a n b : ℕ) → a ≤ b → b < a + n → ((u : ℕ) → a ≤ u → u < b → p u ≡ false) → p b ≡ true
    → keep p (range a n) ≡ b ∷ keep p (range (b + 1) (a + n - (b + 1)))
unfolding keep range
keep-hit p a n b h k none hit =
    let z : a + n - b ≡ suc (a + n - (b + 1)) = omega arith in
    keep-skip p a n b h (omega arith) none ∙ rw (z, hit, add-one)

pub keep-none : (p : ℕ → Bool) (a n : ℕ) → ((u : ℕ) → a ≤ u → u < a + n → p u ≡ false) → keep p (range a n) ≡ []
unfolding keep range
keep-none p a n none = let z : a + n - (a + n) ≡ 0 = omega arith in keep-skip p a n (a + n) (omega arith) (omega arith) none ∙ rw z

first-at : (p : ℕ → Bool) (a n t : ℕ) → first (keep p (range a n)) ≡ Some t → (a ≤ t) × (t < a + n) × (keep p (range a n) ≡ t ∷ keep p (range (t + 1) (a + n - (t + 1))))
unfolding keep range
first-at p a zero t e = clash (cc)
first-at p a (suc n) t e = go (p a) refl (first-at p (suc a) n t)
  where
    go : (b : Bool) → p a ≡ b
        → (first (keep p (range (suc a) n)) ≡ Some t → (suc a ≤ t) × (t < suc a + n) × (keep p (range (suc a) n) ≡ t ∷ keep p (range (t + 1) (suc a + n - (t + 1)))))
        → (a ≤ t) × (t < a + suc n) × (keep p (range a (suc n)) ≡ t ∷ keep p (range (t + 1) (a + suc n - (t + 1))))
    go true q ih =
        let h : Some a ≡ Some t = rw q at e in
        let j : a ≡ t = cc in
        let z : n ≡ a + suc n - (t + 1) = omega arith in
        (omega arith, omega arith, rw (q, ← z, add-one, ← j))
    go false q ih =
        let r = ih (rw q at e) in
        let z : suc a + n - (t + 1) ≡ a + suc n - (t + 1) = omega arith in
        (omega arith, omega arith, rw (q, ← z) r.2)

-- the first of the kept passes
first-hit : (p : ℕ → Bool) (xs : List ℕ) (t : ℕ) → first (keep p xs) ≡ Some t → p t ≡ true
unfolding keep
first-hit p [] t e = clash (cc)
first-hit p (x ∷ xs) t e = go (p x) refl (first-hit p xs t)
  where
    go : (b : Bool) → p x ≡ b → (first (keep p xs) ≡ Some t → p t ≡ true) → p t ≡ true
    go true q ih =
        let h : Some x ≡ Some t = rw q at e in
        let j : x ≡ t = cc in
        rw j at q
    go false q ih = ih (rw q at e)

none_first : (xs : List ℕ) → first xs ≡ None → xs ≡ []
none_first [] q = refl
none_first (x ∷ xs) q = clash (cc)

-- the numbers from `after` on and below `end` that pass, and the first of them
module _ (p : ℕ → Bool) (after end : ℕ) (le : after ≤ end) {o : Option ℕ} (e : o ≡ first (keep p (range after (end - after)))) where
  pub next-none : o ≡ None → keep p (range after (end - after)) ≡ []
  next-none q = none_first (keep p (range after (end - after))) (sym e ∙ q)

  module _ (t : ℕ) (q : o ≡ Some t) where
    pub next-from : after ≤ t
    next-from = (first-at p after (end - after) t (sym e ∙ q)).0

    pub next-hit : p t ≡ true
    next-hit = first-hit p (range after (end - after)) t (sym e ∙ q)

    pub next-below : t < end
    next-below = omega (arith, (first-at p after (end - after) t (sym e ∙ q)).1)

    pub next-some : keep p (range after (end - after)) ≡ t ∷ keep p (range (t + 1) (end - (t + 1)))
    next-some =
        let y : after + (end - after) - (t + 1) ≡ end - (t + 1) = omega arith in
        rw y at (first-at p after (end - after) t (sym e ∙ q)).2

-- ---- the scan
pub near-start : (hit : ℕ → Bool) (after end : ℕ) → ((u : ℕ) → hit u ≡ false) → Near hit after end end
near-start hit after end h = record { le = omega arith; none = λ u g l. h u; got = λ l. absurd (omega arith) }

-- one candidate more, k, which counts where p is true
module _ (hit more : ℕ → Bool) (after end k b : ℕ) (p : Bool) (e : (u : ℕ) → more u ≡ (hit u || (p && eqb k u))) (N : Near hit after end b) where
  stays : ((u : ℕ) → after ≤ u → u < b → (p && eqb k u) ≡ false) → Near more after end b
  stays h = record {
    le = N.le;
    none = λ u g l. e u ∙ rw (h u g l, N.none u g l);
    got = λ l. ((N.got l).0, e b ∙ rw (N.got l).1);
  }

  moves : after ≤ k → k < b → p ≡ true → Near more after end k
  moves g l q = record {
    le = omega (arith, N.le);
    none = λ u h m. e u ∙ rw (q, ne_eqb k u (omega arith), N.none u h (omega arith));
    got = λ m. (g, e k ∙ rw (q, eq-eqb k k refl, or-true));
  }

  pub near_step : Near more after end (nearer_of after k p b)
  near_step = go (leb after k) refl (ltb k b) refl p refl
    where
      go : (x : Bool) → leb after k ≡ x → (y : Bool) → ltb k b ≡ y → (h : Bool) → p ≡ h → Near more after end (cond (x && (y && h)) k b)
      go true ex true ey true eh = moves (leb-true _ _ ex) (ltb-true _ _ ey) eh
      go true ex true ey false eh = stays (λ u g l. rw eh)
      go true ex false ey h eh = stays (λ u g l. let m : b ≤ k = ltb-false _ _ ey in rw (ne_eqb k u (omega arith), and-false))
      go false ex y ey h eh = stays (λ u g l. let m : k < after = leb-false _ _ ex in rw (ne_eqb k u (omega arith), and-false))

pub near_first : (hit : ℕ → Bool) (after end b : ℕ) → Near hit after end b → b < end → Some b ≡ first (keep hit (range after (end - after)))
near_first hit after end b N l =
    let h : after ≤ b = (N.got l).0 in
    rw (keep-hit hit after (end - after) b h (omega arith) N.none (N.got l).1)

pub near-nothing : (hit : ℕ → Bool) (after end b : ℕ) → after ≤ end → Near hit after end b → end ≤ b → None ≡ first (keep hit (range after (end - after)))
near-nothing hit after end b g N l = rw (keep-none hit after (end - after) (λ u h m. N.none u h (omega arith)))

pub nearest-of : (hit : ℕ → Bool) (after end b : ℕ) → Near hit after end b → Nearest (λ (k : ℕ). k) hit after end (then_some (ltb b end) b)
nearest-of hit after end b N = go (ltb b end) refl
  where
    go : (t : Bool) → ltb b end ≡ t → Nearest (λ (k : ℕ). k) hit after end (then_some t b)
    go true e = record { some = (ltb-true _ _ e, N); none = tt }
    go false e = let q : b ≡ end = omega (arith, N.le, ltb-false b end e) in record { some = tt; none = rw q at N }

pub nearest-first : (hit : ℕ → Bool) (after end : ℕ) → after ≤ end → (r : Option ℕ) → Nearest (λ (k : ℕ). k) hit after end r → r ≡ first (keep hit (range after (end - after)))
nearest-first hit after end l (Some b) N = near_first hit after end b N.some.1 N.some.0
nearest-first hit after end l None N = near-nothing hit after end end l N.none (omega arith)

-- ---- one edge more
map_snoc : {A B : Type 0} (f : A → B) (xs : List A) (x : A) → map f (xs ++ (x ∷ [])) ≡ map f xs ++ (f x ∷ [])
map_snoc f [] x = refl
map_snoc f (y ∷ ys) x = ap (λ l. f y ∷ l) (map_snoc f ys x)

pub any_snoc : {A : Type 0} (p : A → Bool) (xs : List A) (x : A) → any (map p (xs ++ (x ∷ []))) ≡ (any (map p xs) || p x)
unfolding any
any_snoc p [] x = or-false (p x)
any_snoc p (y ∷ ys) x = rw (any_snoc p ys x) (sym (or_assoc (p y) (any (map p ys)) (p x)))

pub edges-next : (rows : List (List ℕ)) (i : ℕ) → i < length rows → edges_of rows (i + 1) ≡ edges_of rows i ++ (edge_of (get_or rows i []) ∷ [])
unfolding edges_of
edges-next rows i h = rw (add-one, take-suc rows i []) (map_snoc edge_of (take i rows) (get_or rows i []))

-- the same pair, by its number
same_key : (x y k : ℕ) → y < 65536 → eqb (x * 65536 + y) k ≡ (eqb x (k / 65536) && eqb y (k % 65536))
same_key x y k h = go (eqb x (k / 65536)) refl (eqb y (k % 65536)) refl
  where
    go : (b : Bool) → eqb x (k / 65536) ≡ b → (c : Bool) → eqb y (k % 65536) ≡ c → eqb (x * 65536 + y) k ≡ (b && c)
    go true e true f = let p : x ≡ k / 65536 = eqb-true _ _ e in let q : y ≡ k % 65536 = eqb-true _ _ f in eq-eqb (x * 65536 + y) k (omega arith)
    go true e false f = let q : y ≡ k % 65536 → ⊥ = eqb-false _ _ f in ne_eqb (x * 65536 + y) k (λ g. q (omega arith))
    go false e c f = let q : x ≡ k / 65536 → ⊥ = eqb-false _ _ e in ne_eqb (x * 65536 + y) k (λ g. q (omega arith))

goes-key : (D : Deck) (r k : ℕ) (e : Edge) → e.to.0 < 65536 → goes D r (k / 65536) (k % 65536) e ≡ (under D r e && eqb (key_of e) k)
goes-key D r k e h =
    rw (same_key e.from.0 e.to.0 k h)
    (sym (and_assoc (eqb e.from.0 (k / 65536)) (eqb e.to.0 (k % 65536)) (under D r e))
    ∙ and_comm (eqb e.from.0 (k / 65536) && eqb e.to.0 (k % 65536)) (under D r e))

pub key-start : (D : Deck) (rows : List (List ℕ)) (r u : ℕ) → link_key D (edges_of rows 0) r u ≡ false
unfolding linked edges_of any
key-start D rows r u = refl

module _ (D : Deck) (rows : List (List ℕ)) (count r : ℕ) (room : count ≤ length rows) (F : EndsFit (edges_of rows count)) where
  pub ends_at : (i : ℕ) → i < count → get_or (get_or rows i []) 2 0 < 65536
  ends_at i h = rw (edges_at rows count i h room) at (F (get_or (edges_of rows count) i no_edge) (member-at no_edge (edges_of rows count) i (omega (arith, edges-length rows count room))))

  pub key-next : (i : ℕ) → i < count → (u : ℕ)
      → link_key D (edges_of rows (i + 1)) r u ≡ (link_key D (edges_of rows i) r u || (under D r (edge_of (get_or rows i [])) && eqb (key_of (edge_of (get_or rows i []))) u))
  unfolding linked
  key-next i h u =
      ap (λ es. linked D es r (u / 65536) (u % 65536)) (edges-next rows i (omega arith))
      ∙ any_snoc (goes D r (u / 65536) (u % 65536)) (edges_of rows i) (edge_of (get_or rows i []))
      ∙ ap (λ b. link_key D (edges_of rows i) r u || b) (goes-key D r u (edge_of (get_or rows i [])) (ends_at i h))
