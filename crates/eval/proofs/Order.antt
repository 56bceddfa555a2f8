-- Checks over the edges of a role, walked in any order: the lowest edge that fails is the witness; else one tag, else all hold.
--     pairs-least, pairs-opens, pairs-holds       an outcome at each pair of a role word
--     onward-least, onward-holds                  the edges that go on from an edge
--     composed-holds, composed-first, composed-all    two edges, one after the other
--     guarded-some, guarded-none                  is there an edge?
use Prim.Native.Nat.{ℕ, zero, suc, ◌+◌, ◌-◌, ◌<◌}
use mathlib.Core.Bool.{Bool, true, false, cond}
use mathlib.Core.Path.{◌≡◌, refl, ap, ◌∙◌}
use mathlib.Core.Logic.{◌⊎◌, ⊎_elim}
use mathlib.Core.List.Memᴰ.{append_cases}
use mathlib.Core.List.Memᴰ.{append_left}
use mathlib.Core.List.Memᴰ.{head as here}
use mathlib.Core.List.Memᴰ.{tail as there}
use mathlib.Core.List.{List, [], ◌∷◌, ◌++◌, map, flat_map, append_assoc, map-append, Memᴰ as Member}
use native.Mathlib.Omega.{arith}
use native.Mathlib.Nat.{add-zero}
use Rattle.deck.specs.Deck.{Deck, Role}
use Rattle.eval.proofs.Clash.{clash, both_ways}
use Rattle.eval.specs.declared.judgement.Construct.{Construct}
use Rattle.eval.specs.declared.judgement.Judgement.{Judgement}
use Rattle.eval.specs.declared.judgement.Judgement.TheVariants.{False, True, Unresolved}
use Rattle.eval.specs.declared.standing.Standing.{Standing}
use Rattle.eval.specs.declared.verdict.Witnesses.{Witnesses}
use Rattle.eval.specs.declared.verdict.Verdict.{Verdict}
use Rattle.eval.specs.declared.verdict.Verdict.TheVariants.{Holds, Fails, UnhandledAxiom, UnhandledConcept, GuardedRoleHasEdges}
use Rattle.std.specs.Prelude.{Option, Some}
use Rattle.eval.specs.Standing.{fresh, and_next}
use Rattle.eval.specs.Lists.{range, keep}
use Rattle.eval.specs.Structure.{Structure, elements, has_edge, has_pair, successors_of, successors, Pair, pair, pairs_by, pairs_of, pairs}
use Rattle.eval.specs.Judge.{truth}
use Rattle.eval.specs.Verdict.{scan, fails_at, in_turn, or_else, at_pairs, onward, composed, guarded_by, guarded, three}
use Rattle.eval.proofs.ListLaws.{in-range, in-keep, in_map, in-flat}
use Rattle.eval.proofs.EdgeLaws.{Edge, PairAt, in_pairs, in-word-pairs, in-successors, pairs-case, onward-case, composed-case, guarded-case, truth-false}

-- ---- the first place that fails
pub scan-first : {A : Type 0} (f : A → Judgement) (w : A → Witnesses) (s : Standing) (xs : List A) (x : A) (ys : List A)
    → ((y : A) → Member y xs → f y ≡ False → ⊥) → f x ≡ False → scan f w s (xs ++ x ∷ ys) ≡ Fails (w x)
unfolding scan
scan-first f w s [] x ys h e = rw e
scan-first f w s (y ∷ xs) x ys h e = go (f y) refl ∙ scan-first f w (and_next s (f y)) xs x ys (λ z m. h z (there m)) e
  where
    go : (j : Judgement) → f y ≡ j → fails_at j (w y) (scan f w (and_next s j) (xs ++ x ∷ ys)) ≡ scan f w (and_next s j) (xs ++ x ∷ ys)
    go False q = absurd (h y (here refl) q)
    go True q = refl
    go (Unresolved t) q = refl

-- ---- the first check that does not hold
pub turn-first : {A : Type 0} (g : A → Verdict) (xs : List A) (x : A) (ys : List A) → ((y : A) → Member y xs → g y ≡ Holds) → in_turn (map g (xs ++ x ∷ ys)) ≡ or_else (g x) (in_turn (map g ys))
unfolding in_turn
turn-first g [] x ys h = refl
turn-first g (y ∷ xs) x ys h = rw (h y (here refl)) (turn-first g xs x ys (λ z m. h z (there m)))

-- ---- lists parted at a member
flat-parts : {A B : Type 0} (f : A → List B) (xs ys : List A) → flat_map f (xs ++ ys) ≡ flat_map f xs ++ flat_map f ys
unfolding flat_map
flat-parts f [] ys = refl
flat-parts f (x ∷ xs) ys = rw (flat-parts f xs ys, append_assoc)

keep-parts : (p : ℕ → Bool) (xs ys : List ℕ) → keep p (xs ++ ys) ≡ keep p xs ++ keep p ys
unfolding keep
keep-parts p [] ys = refl
keep-parts p (x ∷ xs) ys = go (p x) (keep-parts p xs ys)
  where
    go : (b : Bool) → keep p (xs ++ ys) ≡ keep p xs ++ keep p ys → cond b (x ∷ keep p (xs ++ ys)) (keep p (xs ++ ys)) ≡ cond b (x ∷ keep p xs) (keep p xs) ++ keep p ys
    go true ih = rw ih
    go false ih = ih

range-parts : (a k m : ℕ) → range a (k + suc m) ≡ range a k ++ (a + k) ∷ range (suc (a + k)) m
unfolding range
range-parts a zero m = let e : 0 + suc m ≡ suc m = omega arith in rw (e, add-zero a)
range-parts a (suc k) m =
    let e : suc k + suc m ≡ suc (k + suc m) = omega arith in
    let g : suc a + k ≡ a + suc k = omega arith in
    rw e (ap (◌∷◌ a) (rw g at (range-parts (suc a) k m)))

-- a list with x, and only lower ones before it
else-stays : (u v : Verdict) → (u ≡ Holds → ⊥) → or_else u v ≡ u
else-stays Holds v n = absurd (n refl)
else-stays (Fails w) v n = refl
else-stays (UnhandledAxiom tag part) v n = refl
else-stays (UnhandledConcept tag) v n = refl
else-stays (GuardedRoleHasEdges r) v n = refl

pub turn-all : {A : Type 0} (g : A → Verdict) (xs : List A) → ((x : A) → Member x xs → g x ≡ Holds) → in_turn (map g xs) ≡ Holds
unfolding in_turn
turn-all g [] h = refl
turn-all g (x ∷ xs) h = rw (h x (here refl)) (turn-all g xs (λ y m. h y (there m)))

pub record Parted {A : Type 0} (Lower : A → Type 0) (l : List A) (x : A) : Type 0 where
  pub before : List A
  pub behind : List A
  pub parts : l ≡ before ++ x ∷ behind
  pub lower : (y : A) → Member y before → Lower y

elements-part : (S : Structure) (x : ℕ) → x < S.size → Parted (λ y. y < x) (elements S) x
elements-part S x h = record {
  before = range 0 x;
  behind = range (suc x) (S.size - suc x);
  parts =
      let e : S.size ≡ x + suc (S.size - suc x) = omega arith in
      let g : 0 + x ≡ x = omega arith in
      ap (range 0) e ∙ rw g at (range-parts 0 x (S.size - suc x));
  lower = λ y m. omega (arith, (in-range 0 x y m).1);
}

-- "by from then to"
abbrev pub Below : ℕ → ℕ → Pair → Type 0
Below x y q = (q.from < x) ⊎ ((q.from ≡ x) × (q.to < y))

module _ (S : Structure) where
  kept-part : (test : ℕ → Bool) (y : ℕ) → y < S.size → test y ≡ true → Parted (λ z. z < y) (keep test (elements S)) y
  unfolding keep
  kept-part test y h e =
      let p = elements-part S y h in
      record {
        before = keep test p.before;
        behind = keep test p.behind;
        parts = ap (keep test) p.parts ∙ keep-parts test p.before (y ∷ p.behind) ∙ rw e;
        lower = λ z m. p.lower z (in-keep test p.before z m).0;
      }

  by_part : (next : ℕ → List ℕ) (x y : ℕ) → x < S.size → Parted (λ z. z < y) (next x) y → Parted (Below x y) (pairs_by S next) (pair x y)
  unfolding flat_map
  by_part next x y h q =
      let p = elements-part S x h in
      record {
        before = flat_map (λ z. map (pair z) (next z)) p.before ++ map (pair x) q.before;
        behind = map (pair x) q.behind ++ flat_map (λ z. map (pair z) (next z)) p.behind;
        parts =
            ap (flat_map (λ z. map (pair z) (next z))) p.parts
            ∙ flat-parts (λ z. map (pair z) (next z)) p.before (x ∷ p.behind)
            ∙ rw (q.parts, map-append (pair x) q.before (y ∷ q.behind), append_assoc, append_assoc);
        lower = λ u m. ⊎_elim
            (λ n.
            let a = in-flat (λ z. map (pair z) (next z)) u p.before n in
            let b = in_map (pair a.0) u (next a.0) a.2 in
            ◌⊎◌.inl (rw b.2 (p.lower a.0 a.1)))
            (λ n. let b = in_map (pair x) u q.before n in ◌⊎◌.inr (rw b.2 (refl, q.lower b.0 b.1)))
            (append_cases (flat_map (λ z. map (pair z) (next z)) p.before) m);
      }

module _ (D : Deck) (S : Structure) where
  successors-part : (r x y : ℕ) → y < S.size → has_edge D S r x y ≡ true → Parted (λ z. z < y) (successors D S r x) y
  unfolding successors
  successors-part r x y h e = kept-part S (has_edge D S r x) y h e

  pairs-part : (r x y : ℕ) → Edge D S r x y → Parted (Below x y) (pairs D S r) (pair x y)
  unfolding pairs
  pairs-part r x y e = by_part S (successors D S r) x y e.from_in (successors-part r x y e.to_in e.has)

  -- ---- an outcome at each pair of a role word
  module _ (r : Role) (f : Pair → Judgement) (w : Pair → Witnesses) where
    pub pairs-least : (x y : ℕ) → PairAt D S r x y → f (pair x y) ≡ False → ((p q : ℕ) → PairAt D S r p q → Below x y (pair p q) → f (pair p q) ≡ False → ⊥) → at_pairs D S r f w ≡ Fails (w (pair x y))
    pairs-least x y e n h =
        let t = by_part S (successors_of D S r) x y e.from_in (kept-part S (has_pair D S r x) y e.to_in e.has) in
        let mem : (p : Pair) → Member p t.before → Member p (pairs_of D S r) = λ p m. rw t.parts (append_left (pair x y ∷ t.behind) m) in
        ap (scan f w fresh) t.parts ∙ scan-first f w fresh t.before (pair x y) t.behind (λ p m. h p.from p.to (in-word-pairs D S r p (mem p m)) (t.lower p m)) n

    pub pairs-opens : (tag : Option Construct) → ((x y : ℕ) (t : Construct) → PairAt D S r x y → f (pair x y) ≡ Unresolved t → Some t ≡ tag) → ((x y : ℕ) → PairAt D S r x y → f (pair x y) ≡ False → ⊥)
        → (x y : ℕ) (t : Construct) → PairAt D S r x y → f (pair x y) ≡ Unresolved t → at_pairs D S r f w ≡ UnhandledConcept t
    pairs-opens tag steady none x y t e n =
        pairs-case D S (λ v. v ≡ UnhandledConcept t) r f w (λ p q k i. absurd (none p q k i)) (λ p q u k i. cc (steady p q u k i, steady x y t e n)) (λ h. clash (cc (h x y e)))

    pub pairs-holds : ((x y : ℕ) → PairAt D S r x y → f (pair x y) ≡ True) → at_pairs D S r f w ≡ Holds
    pairs-holds h =
        pairs-case D S (λ v. v ≡ Holds) r f w (λ x y e i. clash (cc (h x y e))) (λ x y t e i. clash (cc (h x y e))) (λ k. refl)

  -- ---- the edges that go on from an edge
  pub onward-least : (b sup x y z : ℕ) → z < S.size → has_edge D S b y z ≡ true → has_edge D S sup x z ≡ false
      → ((u : ℕ) → u < z → has_edge D S b y u ≡ true → has_edge D S sup x u ≡ true) → onward D S b sup x y ≡ Fails (three x y z)
  unfolding onward
  onward-least b sup x y z l e n h =
      let t = successors-part b y z l e in
      let mem : (u : ℕ) → Member u t.before → Member u (successors D S b y) = λ u m. rw t.parts (append_left (z ∷ t.behind) m) in
      ap (scan (λ u. truth (has_edge D S sup x u)) (three x y) fresh) t.parts
      ∙ scan-first (λ u. truth (has_edge D S sup x u)) (three x y) fresh t.before z t.behind
      (λ u m i. both_ways (h u (t.lower u m) (in-successors D S b y u (mem u m)).1) (truth-false (has_edge D S sup x u) i)) (rw n refl)

  pub onward-holds : (b sup x y : ℕ) → ((z : ℕ) → z < S.size → has_edge D S b y z ≡ true → has_edge D S sup x z ≡ true) → onward D S b sup x y ≡ Holds
  onward-holds b sup x y h = onward-case D S (λ v. v ≡ Holds) b sup x y (λ z l e n. absurd (both_ways (h z l e) n)) (λ k. refl)

  -- ---- two edges, one after the other
  pub composed-holds : (a b sup : ℕ) → ((x y z : ℕ) → Edge D S a x y → Edge D S b y z → has_edge D S sup x z ≡ true) → composed D S a b sup ≡ Holds
  composed-holds a b sup h = composed-case D S (λ v. v ≡ Holds) a b sup (λ x y z e k n. absurd (both_ways (h x y z e k) n)) (λ k. refl)

  -- the lowest edge from which the check onward does not hold
  pub composed-first : (a b sup x y : ℕ) → Edge D S a x y → (onward D S b sup x y ≡ Holds → ⊥) → ((p q : ℕ) → Edge D S a p q → Below x y (pair p q) → onward D S b sup p q ≡ Holds)
      → composed D S a b sup ≡ onward D S b sup x y
  unfolding composed
  composed-first a b sup x y e n h =
      let t = pairs-part a x y e in
      let mem : (p : Pair) → Member p t.before → Member p (pairs D S a) = λ p m. rw t.parts (append_left (pair x y ∷ t.behind) m) in
      let g : Pair → Verdict = λ p. onward D S b sup p.from p.to in
      ap (λ (ps : List Pair). in_turn (map g ps)) t.parts
      ∙ turn-first g t.before (pair x y) t.behind (λ p m. h p.from p.to (in_pairs D S a p (mem p m)) (t.lower p m))
      ∙ else-stays (onward D S b sup x y) (in_turn (map g t.behind)) n

  pub composed-all : (a b sup : ℕ) → ((x y : ℕ) → Edge D S a x y → onward D S b sup x y ≡ Holds) → composed D S a b sup ≡ Holds
  unfolding composed
  composed-all a b sup h = turn-all (λ p. onward D S b sup p.from p.to) (pairs D S a) (λ p m. h p.from p.to (in_pairs D S a p m))

  -- ---- is there an edge?
  pub guarded-some : (r x y : ℕ) → Edge D S r x y → guarded D S r ≡ GuardedRoleHasEdges (record { 0 = r })
  guarded-some r x y e = guarded-case D S (λ v. v ≡ GuardedRoleHasEdges (record { 0 = r })) r refl (λ h. absurd (h x y e))

  pub guarded-none : (r : ℕ) → ((x y : ℕ) → Edge D S r x y → ⊥) → guarded D S r ≡ Holds
  guarded-none r h = go (pairs D S r) refl
    where
      go : (ps : List Pair) → pairs D S r ≡ ps → guarded_by ps r ≡ Holds
      go [] q = refl
      go (p ∷ ps) q = absurd (h p.from p.to (in_pairs D S r p (rw q (here refl))))
