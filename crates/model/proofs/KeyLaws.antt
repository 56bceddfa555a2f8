-- Walking the pairs of a role by their numbers from × 65,536 + to.
--     rule-keys      closing by a rule as a walk over numbers
use Prim.Native.Nat.{ℕ, zero, suc, ◌+◌, ◌-◌, ◌*◌, ◌/◌, ◌%◌, ◌<◌, ◌≤◌}
use mathlib.Core.Bool.{Bool, true, false, cond, ◌||◌}
use mathlib.Core.Path.{◌≡◌, refl, sym, ap, ◌∙◌}
use mathlib.Core.List.{List, [], ◌∷◌, ◌++◌, map, map-append, flat_map, append-nil}
use native.Mathlib.Nat.{sub-zero}
use native.Mathlib.Omega.{arith}
use lib.ListN.{length}
use lib.Dec.{eqb}
use Rattle.std.specs.List.{filter}
use Rattle.deck.specs.Deck.{Deck}
use Rattle.eval.specs.declared.edges.Edge.{Edge}
use Rattle.deck.proofs.BelowLaws.{and_right}
use Rattle.eval.specs.Edges.{edge_of, under, goes, linked}
use Rattle.eval.specs.Lists.{keep, range, any}
use Rattle.eval.proofs.Clash.{clash}
use Rattle.eval.proofs.ListLaws.{any_at, any_of}
use Rattle.eval.specs.Structure.{pair, has_edge, successors, pairs}
use Rattle.build.specs.Push.{State}
use Rattle.model.specs.Pairs.{pair_of, link_key, EndsFit}
use Rattle.atoms.specs.Walk.{walk}
use Rattle.model.specs.Closing.{graph, close_from, close_rule, EdgesFit}
use Rattle.model.proofs.NextLaws.{keep-none}
use Rattle.atoms.proofs.WalkLaws.{walk-map}
use Rattle.model.proofs.CloseLaws.{linked-is, linked-fits}

-- ---- kept parts of a range
range_split : (a m n : ℕ) → range a (m + n) ≡ range a m ++ range (a + m) n
unfolding range
range_split a zero n = let e : zero + n ≡ n = omega arith in let f : a + zero ≡ a = omega arith in rw (e, f)
range_split a (suc m) n = let e : suc m + n ≡ suc (m + n) = omega arith in let f : suc a + m ≡ a + suc m = omega arith in rw e (ap (λ (l : List ℕ). a ∷ l) (range_split (suc a) m n ∙ rw f))

keep_append : (p : ℕ → Bool) (xs ys : List ℕ) → keep p (xs ++ ys) ≡ keep p xs ++ keep p ys
unfolding keep
keep_append p [] ys = refl
keep_append p (x ∷ xs) ys = go (p x) (keep_append p xs ys)
  where
    go : (b : Bool) → keep p (xs ++ ys) ≡ keep p xs ++ keep p ys → cond b (x ∷ keep p (xs ++ ys)) (keep p (xs ++ ys)) ≡ cond b (x ∷ keep p xs) (keep p xs) ++ keep p ys
    go true e = ap (λ (l : List ℕ). x ∷ l) e
    go false e = e

keep-split : (p : ℕ → Bool) (a m n : ℕ) → keep p (range a (m + n)) ≡ keep p (range a m) ++ keep p (range (a + m) n)
keep-split p a m n = ap (keep p) (range_split a m n) ∙ keep_append p (range a m) (range (a + m) n)

-- ---- the numbers from x × 65,536 + j on are x with j, j + 1, …
module _ {B : Type 0} (p : ℕ → Bool) (q : ℕ → Bool) (f g : ℕ → B) (x : ℕ) (same : (j : ℕ) → j < 65536 → p (x * 65536 + j) ≡ q j) (image : (j : ℕ) → j < 65536 → f (x * 65536 + j) ≡ g j) where
  row_from : (j m : ℕ) → j + m ≤ 65536 → map f (keep p (range (x * 65536 + j) m)) ≡ map g (keep q (range j m))
  unfolding keep range
  row_from j zero h = refl
  row_from j (suc m) h =
      let e : suc (x * 65536 + j) ≡ x * 65536 + suc j = omega arith in
      rw (same j (omega arith), e) (go (q j) (row_from (suc j) m (omega arith)))
    where
      go : (b : Bool) → map f (keep p (range (x * 65536 + suc j) m)) ≡ map g (keep q (range (suc j) m))
          → map f (cond b ((x * 65536 + j) ∷ keep p (range (x * 65536 + suc j) m)) (keep p (range (x * 65536 + suc j) m))) ≡ map g (cond b (j ∷ keep q (range (suc j) m)) (keep q (range (suc j) m)))
      go true ih = rw (image j (omega arith), ih)
      go false ih = ih

  pub row-keys : (m : ℕ) → m ≤ 65536 → map f (keep p (range (x * 65536) m)) ≡ map g (keep q (range 0 m))
  row-keys m h = let e : x * 65536 + 0 ≡ x * 65536 = omega arith in rw e at (row_from 0 m (omega arith))

module _ (D : Deck) (n : ℕ) (small : n ≤ 65536) (es : List Edge) (r : ℕ) where
  key-is : (x j : ℕ) → j < 65536 → link_key D es r (x * 65536 + j) ≡ has_edge D (graph n es) r x j
  key-is x j h =
      let a : (x * 65536 + j) / 65536 ≡ x = omega arith in
      let b : (x * 65536 + j) % 65536 ≡ j = omega arith in
      rw (a, b) (sym (linked-is D n es r x j))

  pair_is : (x j : ℕ) → j < 65536 → pair_of (x * 65536 + j) ≡ pair x j
  pair_is x j h =
      let a : (x * 65536 + j) / 65536 ≡ x = omega arith in
      let b : (x * 65536 + j) % 65536 ≡ j = omega arith in
      rw (a, b)

  module _ (F : EdgesFit D n es) where
    out : (k : ℕ) → n ≤ k % 65536 → link_key D es r k ≡ false
    out k h = go (link_key D es r k) refl
      where
        go : (b : Bool) → link_key D es r k ≡ b → b ≡ false
        go true e = absurd (omega (arith, (linked-fits D n es F r (k / 65536) (k % 65536) e).1))
        go false e = refl

    -- a block of 65,536 numbers is one from
    block : (x : ℕ) → keep (link_key D es r) (range (x * 65536) 65536) ≡ keep (link_key D es r) (range (x * 65536) n)
    block x =
        let e : 65536 ≡ n + (65536 - n) = omega arith in
        ap (λ l. keep (link_key D es r) (range (x * 65536) l)) e ∙ keep-split (link_key D es r) (x * 65536) n (65536 - n)
        ∙ ap (λ l. keep (link_key D es r) (range (x * 65536) n) ++ l) (keep-none (link_key D es r) (x * 65536 + n) (65536 - n) (λ u g l. out u (omega arith)))
        ∙ append-nil (keep (link_key D es r) (range (x * 65536) n))

    blocks : (x m : ℕ) → map pair_of (keep (link_key D es r) (range (x * 65536) (m * 65536))) ≡ flat_map (λ y. map (pair y) (successors D (graph n es) r y)) (range x m)
    unfolding flat_map range keep successors
    blocks x zero = refl
    blocks x (suc m) =
        let e : suc m * 65536 ≡ 65536 + m * 65536 = omega arith in
        let f : x * 65536 + 65536 ≡ suc x * 65536 = omega arith in
        ap (λ l. map pair_of (keep (link_key D es r) (range (x * 65536) l))) e
        ∙ ap (map pair_of) (keep-split (link_key D es r) (x * 65536) 65536 (m * 65536))
        ∙ map-append pair_of (keep (link_key D es r) (range (x * 65536) 65536)) (keep (link_key D es r) (range (x * 65536 + 65536) (m * 65536)))
        ∙ ap (λ l. l ++ map pair_of (keep (link_key D es r) (range (x * 65536 + 65536) (m * 65536)))) (ap (map pair_of) (block x) ∙ row-keys (link_key D es r) (has_edge D (graph n es) r x) pair_of (pair x) x (key-is x) (pair_is x) n small)
        ∙ ap (λ a. map (pair x) (keep (has_edge D (graph n es) r x) (range 0 n)) ++ map pair_of (keep (link_key D es r) (range a (m * 65536)))) f
        ∙ ap (λ l. map (pair x) (keep (has_edge D (graph n es) r x) (range 0 n)) ++ l) (blocks (suc x) m)

    pub pairs-keys : map pair_of (keep (link_key D es r) (range 0 (n * 65536))) ≡ pairs D (graph n es) r
    unfolding pairs
    pairs-keys = let e : 0 * 65536 ≡ 0 = omega arith in rw e at (blocks 0 n)

-- none of the rows passes
pub none_left : (p : Edge → Bool) (rows : List (List ℕ)) → length (filter (λ w. p (edge_of w)) rows) ≡ 0 → any (map p (map edge_of rows)) ≡ false
unfolding any
none_left p [] e = refl
none_left p (w ∷ rows) e = go (p (edge_of w)) (none_left p rows) e
  where
    go : (b : Bool) → (length (filter (λ w. p (edge_of w)) rows) ≡ 0 → any (map p (map edge_of rows)) ≡ false) → length (cond b (w ∷ filter (λ w. p (edge_of w)) rows) (filter (λ w. p (edge_of w)) rows)) ≡ 0 → (b || any (map p (map edge_of rows))) ≡ false
    go true ih q = absurd (omega (arith, q))
    go false ih q = ih q

-- no edge of r at all
unlinked : (D : Deck) (es : List Edge) (r x y : ℕ) → any (map (under D r) es) ≡ false → linked D es r x y ≡ false
unfolding linked
unlinked D es r x y h = go (any (map (goes D r x y) es)) refl
  where
    go : (b : Bool) → any (map (goes D r x y) es) ≡ b → b ≡ false
    go true e =
        let f = any_of (goes D r x y) es e in
        let w = and_right (eqb f.0.to.0 y) _ (and_right (eqb f.0.from.0 x) _ f.2) in
        clash (cc (h, any_at (under D r) es f.0 f.1 w))
    go false e = refl

module _ (D : Deck) (n limit : ℕ) (small : n ≤ 65536) (s : State) where
  pub rule-keys : EdgesFit D n s.edges → (a b v : ℕ) → walk (λ k. close_from D n limit b v (pair_of k)) (keep (link_key D s.edges a) (range 0 (n * 65536))) s ≡ close_rule D n limit a b v s
  unfolding close_rule
  rule-keys F a b v =
      sym (walk-map (close_from D n limit b v) pair_of (keep (link_key D s.edges a) (range 0 (n * 65536))) s)
      ∙ ap (λ l. walk (close_from D n limit b v) l s) (pairs-keys D n small s.edges a F)

  -- the same over numbers up to `end`
  pub rule-walk : EdgesFit D n s.edges → (a b v : ℕ) → walk (λ k. close_from D n limit b v (pair_of k)) (keep (link_key D s.edges a) (range 0 (n * 65536 - 0))) s ≡ close_rule D n limit a b v s
  rule-walk F a b v = ap (λ (m : ℕ). walk (λ k. close_from D n limit b v (pair_of k)) (keep (link_key D s.edges a) (range 0 m)) s) (sub-zero (n * 65536)) ∙ rule-keys F a b v

  -- a role of which there is no edge makes no step
  pub rule-none : EdgesFit D n s.edges → (a b v : ℕ) → any (map (under D a) s.edges) ≡ false → s ≡ close_rule D n limit a b v s
  unfolding walk
  rule-none F a b v h =
      ap (λ (l : List ℕ). walk (λ k. close_from D n limit b v (pair_of k)) l s) (sym (keep-none (link_key D s.edges a) 0 (n * 65536) (λ u _ _. unlinked D s.edges a (u / 65536) (u % 65536) h)))
      ∙ rule-keys F a b v

-- targets among at most 65,536 elements
pub fits-ends : (D : Deck) (n : ℕ) → n ≤ 65536 → (es : List Edge) → EdgesFit D n es → EndsFit es
unfolding EdgesFit
fits-ends D n small es F e m = omega (arith, (F e m).to)
