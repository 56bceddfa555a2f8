-- What is among the elements, successors and pairs, and the checks of role axioms by elements.
use Prim.Native.Nat.{ℕ, ◌<◌}
use mathlib.Core.Bool.{Bool, true, false, cond}
use mathlib.Core.Path.{◌≡◌, refl}
use mathlib.Core.List.Memᴰ.{not-nil as nothing-in}
use mathlib.Core.List.{List, [], ◌∷◌, map, Memᴰ as Member}
use native.Mathlib.Omega.{arith}
use Rattle.eval.proofs.Clash.{clash}
use lib.Dec.{eqb}
use Rattle.deck.specs.Deck.{Deck, Role, role_id}
use Rattle.eval.specs.declared.judgement.Construct.{Construct}
use Rattle.eval.specs.declared.judgement.Judgement.{Judgement}
use Rattle.eval.specs.declared.judgement.Judgement.TheVariants.{False, True, Unresolved}
use Rattle.eval.specs.declared.verdict.Witnesses.{Witnesses}
use Rattle.eval.specs.declared.verdict.Verdict.{Verdict}
use Rattle.eval.specs.declared.verdict.Verdict.TheVariants.{Holds, Fails, UnhandledConcept, GuardedRoleHasEdges}
use Rattle.eval.specs.Structure.{Structure, elements, has_edge, has_pair, successors_of, successors, Pair, pair, pairs_by, pairs_of, pairs, inverse}
use Rattle.eval.specs.Judge.{truth}
use Rattle.eval.specs.Verdict.{at_pairs, within, onward, composed, across, equivalent, guarded_by, guarded, two, three, in_turn}
use Rattle.eval.proofs.ListLaws.{range-in, in-range, keep-in, in-keep, map-in, in_map, flat_in, in-flat}
use Rattle.eval.proofs.ScanLaws.{scan-case, turn-case, Case}

pub truth-true : (b : Bool) → truth b ≡ True → b ≡ true
truth-true true e = refl
truth-true false e = clash (cc)

pub truth-false : (b : Bool) → truth b ≡ False → b ≡ false
truth-false false e = refl
truth-false true e = clash (cc)

pub truth-open : (b : Bool) (t : Construct) → truth b ≡ Unresolved t → ⊥
truth-open true t e = clash (cc)
truth-open false t e = clash (cc)

pub element-in : (S : Structure) (x : ℕ) → x < S.size → Member x (elements S)
element-in S x h = range-in 0 S.size x (omega arith) (omega arith)

pub in-elements : (S : Structure) (x : ℕ) → Member x (elements S) → x < S.size
in-elements S x m = omega (arith, (in-range 0 S.size x m).1)

-- pairs by from then to, where the successors of each element are given
module _ (S : Structure) (next : ℕ → List ℕ) where
  pub by_in : (x y : ℕ) → x < S.size → Member y (next x) → Member (pair x y) (pairs_by S next)
  by_in x y h m = flat_in (λ z. map (pair z) (next z)) (elements S) (element-in S x h) (map-in (pair x) m)

  pub in-by : (p : Pair) → Member p (pairs_by S next) → (p.from < S.size) × Member p.to (next p.from)
  in-by p m =
      let a = in-flat (λ z. map (pair z) (next z)) p (elements S) m in
      let b = in_map (pair a.0) p (next a.0) a.2 in
      rw b.2 (in-elements S a.0 a.1, b.1)

module _ (D : Deck) (S : Structure) where
  -- a role word that is not inverse has its role's edges
  pub named-pair : (r : Role) (x y : ℕ) → inverse r ≡ false → has_pair D S r x y ≡ has_edge D S (role_id r) x y
  named-pair (Role.Named r) x y h = refl
  named-pair (Role.Inverse r) x y h = clash (cc)

  -- an edge of r between two elements
  pub record Edge (r x y : ℕ) : Type 0 where
    pub from_in : x < S.size
    pub to_in : y < S.size
    pub has : has_edge D S r x y ≡ true

  pub successor-in : (r x y : ℕ) → y < S.size → has_edge D S r x y ≡ true → Member y (successors D S r x)
  unfolding successors
  successor-in r x y h e = keep-in (has_edge D S r x) (elements S) y (element-in S y h) e

  pub in-successors : (r x y : ℕ) → Member y (successors D S r x) → (y < S.size) × (has_edge D S r x y ≡ true)
  unfolding successors
  in-successors r x y m = let k = in-keep (has_edge D S r x) (elements S) y m in (in-elements S y k.0, k.1)

  pub pair-in : (r x y : ℕ) → Edge r x y → Member (pair x y) (pairs D S r)
  unfolding pairs
  pair-in r x y e = by_in S (successors D S r) x y e.from_in (successor-in r x y e.to_in e.has)

  pub in_pairs : (r : ℕ) (p : Pair) → Member p (pairs D S r) → Edge r p.from p.to
  unfolding pairs
  in_pairs r p m =
      let a = in-by S (successors D S r) p m in
      let c = in-successors r p.from p.to a.1 in
      record { from_in = a.0; to_in = c.0; has = c.1 }

  -- a pair of a role word between two elements
  pub record PairAt (r : Role) (x y : ℕ) : Type 0 where
    pub from_in : x < S.size
    pub to_in : y < S.size
    pub has : has_pair D S r x y ≡ true

  pub word-pair-in : (r : Role) (x y : ℕ) → PairAt r x y → Member (pair x y) (pairs_of D S r)
  word-pair-in r x y e = by_in S (successors_of D S r) x y e.from_in (keep-in (has_pair D S r x) (elements S) y (element-in S y e.to_in) e.has)

  pub in-word-pairs : (r : Role) (p : Pair) → Member p (pairs_of D S r) → PairAt r p.from p.to
  in-word-pairs r p m =
      let a = in-by S (successors_of D S r) p m in
      let c = in-keep (has_pair D S r p.from) (elements S) p.to a.1 in
      record { from_in = a.0; to_in = in-elements S p.to c.0; has = c.1 }

  -- ---- the checks
  module _ (C : Verdict → Type 0) where
    pub pairs-case : (r : Role) (f : Pair → Judgement) (w : Pair → Witnesses)
        → ((x y : ℕ) → PairAt r x y → f (pair x y) ≡ False → C (Fails (w (pair x y))))
        → ((x y : ℕ) (t : Construct) → PairAt r x y → f (pair x y) ≡ Unresolved t → C (UnhandledConcept t))
        → (((x y : ℕ) → PairAt r x y → f (pair x y) ≡ True) → C Holds)
        → C (at_pairs D S r f w)
    pairs-case r f w fails opens holds =
        scan-case f w C (pairs_of D S r) (λ p m. fails p.from p.to (in-word-pairs r p m)) (λ p t m. opens p.from p.to t (in-word-pairs r p m)) (λ h. holds (λ x y e. h (pair x y) (word-pair-in r x y e)))

    pub within-case : (sub sup : Role)
        → ((x y : ℕ) → PairAt sub x y → has_pair D S sup x y ≡ false → C (Fails (two x y)))
        → (((x y : ℕ) → PairAt sub x y → has_pair D S sup x y ≡ true) → C Holds)
        → C (within D S sub sup)
    unfolding within
    within-case sub sup fails holds =
        pairs-case sub (λ p. truth (has_pair D S sup p.from p.to)) (λ p. two p.from p.to) (λ x y e q. fails x y e (truth-false (has_pair D S sup x y) q)) (λ x y t e q. absurd (truth-open (has_pair D S sup x y) t q))
        (λ h. holds (λ x y e. truth-true (has_pair D S sup x y) (h x y e)))

  pub onward-case : (C : Verdict → Type 0) (b sup x y : ℕ)
      → ((z : ℕ) → z < S.size → has_edge D S b y z ≡ true → has_edge D S sup x z ≡ false → C (Fails (three x y z)))
      → (((z : ℕ) → z < S.size → has_edge D S b y z ≡ true → has_edge D S sup x z ≡ true) → C Holds)
      → C (onward D S b sup x y)
  unfolding onward
  onward-case C b sup x y fails holds =
      scan-case (λ z. truth (has_edge D S sup x z)) (three x y) C (successors D S b y) (λ z m q. let k = in-successors b y z m in fails z k.0 k.1 (truth-false (has_edge D S sup x z) q))
      (λ z t m q. absurd (truth-open (has_edge D S sup x z) t q)) (λ h. holds (λ z l e. truth-true (has_edge D S sup x z) (h z (successor-in b y z l e))))

  pub composed-case : (C : Verdict → Type 0) (a b sup : ℕ)
      → ((x y z : ℕ) → Edge a x y → Edge b y z → has_edge D S sup x z ≡ false → C (Fails (three x y z)))
      → (((x y z : ℕ) → Edge a x y → Edge b y z → has_edge D S sup x z ≡ true) → C Holds)
      → C (composed D S a b sup)
  unfolding composed
  composed-case C a b sup fails holds =
      turn-case (λ p. onward D S b sup p.from p.to) (λ p. (z : ℕ) → z < S.size → has_edge D S b p.to z ≡ true → has_edge D S sup p.from z ≡ true) C (pairs D S a)
      (λ p m.
      let e = in_pairs a p m in
      onward-case (Case ((z : ℕ) → z < S.size → has_edge D S b p.to z ≡ true → has_edge D S sup p.from z ≡ true) C) b sup p.from p.to
      (λ z l k q. fails p.from p.to z e (record { from_in = e.to_in; to_in = l; has = k }) q) (λ h. h))
      (λ h. holds (λ x y z e k. h (pair x y) (pair-in a x y e) z k.to_in k.has))

  -- the pairs of one member in another
  abbrev pub Inside : Role → Role → Type 0
  Inside a b = eqb (role_id a) (role_id b) ≡ false → (x y : ℕ) → PairAt a x y → has_pair D S b x y ≡ true

  pub equivalent-case : (C : Verdict → Type 0) (l : List Role)
      → ((a b : Role) → Member a l → Member b l → eqb (role_id a) (role_id b) ≡ false → (x y : ℕ) → PairAt a x y → has_pair D S b x y ≡ false → C (Fails (two x y)))
      → (((a b : Role) → Member a l → Member b l → Inside a b) → C Holds)
      → C (equivalent D S l)
  unfolding equivalent
  equivalent-case C l fails holds =
      turn-case (λ a. in_turn (map (across D S a) l)) (λ a. (b : Role) → Member b l → Inside a b) C l
      (λ a m. turn-case (across D S a) (Inside a) (Case ((b : Role) → Member b l → Inside a b) C) l (λ b n. go a b m n (eqb (role_id a) (role_id b)) refl) (λ h. h))
      (λ h. holds (λ a b m n. h a m b n))
    where
      go : (a b : Role) → Member a l → Member b l → (t : Bool) → eqb (role_id a) (role_id b) ≡ t
          → Case (Inside a b) (Case ((b : Role) → Member b l → Inside a b) C) (cond t Holds (within D S a b))
      go a b m n true q = λ r. clash (cc)
      go a b m n false q = within-case (Case (Inside a b) (Case ((b : Role) → Member b l → Inside a b) C)) a b (fails a b m n q) (λ h r. h)

  pub guarded-case : (C : Verdict → Type 0) (r : ℕ)
      → C (GuardedRoleHasEdges (record { 0 = r }))
      → (((x y : ℕ) → Edge r x y → ⊥) → C Holds)
      → C (guarded D S r)
  guarded-case C r has none = go (pairs D S r) refl
    where
      go : (ps : List Pair) → pairs D S r ≡ ps → C (guarded_by ps r)
      go [] q = none (λ x y e. nothing-in (rw q at (pair-in r x y e)))
      go (p ∷ ps) q = has
