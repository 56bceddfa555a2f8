-- Laws of `all_agree` and `at_most_one`: members by position.
--     agree-false, agree-true      a true member beside a false one; two members that agree and are decided
--     one-false, one-true          two true members; of two members, one that is false
--     agree-decided, one-decided   decided members give a decided outcome
use Prim.Native.Nat.{ℕ, zero, suc, ◌+◌, ◌<◌, ◌≤◌}
use mathlib.Core.Bool.{Bool, true, false, cond, ◌&&◌, ◌||◌, or-true}
use mathlib.Core.Path.{◌≡◌, refl, sym, ◌∙◌}
use mathlib.Core.Logic.{◌⊎◌, ◌≢◌}
use mathlib.Core.List.Memᴰ.{head as here}
use mathlib.Core.List.Memᴰ.{tail as there}
use mathlib.Core.List.{List, [], ◌∷◌, map, Memᴰ as Member}
use native.Mathlib.Omega.{arith}
use Rattle.eval.proofs.Clash.{clash, both_true, not-both}
use lib.Dec.{ltb, leb}
use lib.ListN.{length, get_or}
use borrow.Author.Tests.{ltb-true, ltb-false, leb-true, lt-ltb, le-leb}
use Rattle.eval.specs.declared.judgement.Construct.{Construct}
use Rattle.eval.specs.declared.judgement.Judgement.{Judgement}
use Rattle.eval.specs.declared.judgement.Judgement.TheVariants.{False, True, Unresolved}
use Rattle.std.specs.Prelude.{Option, Some, None}
use Rattle.eval.specs.Judge.{decided}
use Rattle.eval.specs.Standing.{unless_noted}
use Rattle.eval.specs.declared.votes.Votes.{Votes}
use Rattle.eval.specs.Verdict.{no_votes, vote, votes, all_agree, at_most_one}
use Rattle.eval.specs.Truth.{Apart}

-- ---- how many of a list pass a test
unfoldable pub count : {A : Type 0} → (A → Bool) → List A → ℕ
count p [] = 0
count p (x ∷ xs) = cond (p x) (suc (count p xs)) (count p xs)

module _ {A : Type 0} (d : A) (p : A → Bool) where
  count-more : (x : A) (xs : List A) → count p xs ≤ count p (x ∷ xs)
  unfolding count
  count-more x xs = go (p x)
    where
      go : (b : Bool) → count p xs ≤ cond b (suc (count p xs)) (count p xs)
      go true = omega arith
      go false = omega arith

  count-pos : (l : List A) (i : ℕ) → i < length l → p (get_or l i d) ≡ true → 0 < count p l
  unfolding count
  count-pos [] i h e = absurd (omega arith)
  count-pos (x ∷ xs) zero h e = rw e (omega arith)
  count-pos (x ∷ xs) (suc i) h e = let r = count-pos xs i (omega arith) e in omega (arith, count-more x xs)

  count-two : (l : List A) (i j : ℕ) → i < j → j < length l → p (get_or l i d) ≡ true → p (get_or l j d) ≡ true → 2 ≤ count p l
  unfolding count
  count-two [] i j g h e k = absurd (omega arith)
  count-two (x ∷ xs) i zero g h e k = absurd (omega arith)
  count-two (x ∷ xs) zero (suc j) g h e k = let r = count-pos xs j (omega arith) k in rw e (omega arith)
  count-two (x ∷ xs) (suc i) (suc j) g h e k = let r = count-two xs i j (omega arith) (omega arith) e k in omega (arith, count-more x xs)

  pub count-apart : (l : List A) (i j : ℕ) → i ≢ j → i < length l → j < length l → p (get_or l i d) ≡ true → p (get_or l j d) ≡ true → 2 ≤ count p l
  count-apart l i j n hi hj e k = go (ltb i j) refl
    where
      go : (b : Bool) → ltb i j ≡ b → 2 ≤ count p l
      go true q = count-two l i j (ltb-true i j q) hj e k
      go false q = count-two l j i (let r = ltb-false i j q in omega arith) hi k e

  pub one_at : (l : List A) → 0 < count p l → (i : ℕ) × (i < length l) × (p (get_or l i d) ≡ true)
  unfolding count
  one_at [] h = absurd (omega arith)
  one_at (x ∷ xs) h = go (p x) refl h (one_at xs)
    where
      go : (b : Bool) → p x ≡ b → 0 < cond b (suc (count p xs)) (count p xs) → (0 < count p xs → (i : ℕ) × (i < length xs) × (p (get_or xs i d) ≡ true)) → (i : ℕ) × (i < length (x ∷ xs)) × (p (get_or (x ∷ xs) i d) ≡ true)
      go true q h ih = (0, omega arith, q)
      go false q h ih = let r = ih h in (suc r.0, omega (arith, r.1), r.2)

  pub two_at : (l : List A) → 2 ≤ count p l → Apart d l (λ x y. (p x ≡ true) × (p y ≡ true))
  unfolding count
  two_at [] h = absurd (omega arith)
  two_at (x ∷ xs) h = go (p x) refl h (two_at xs)
    where
      go : (b : Bool) → p x ≡ b → 2 ≤ cond b (suc (count p xs)) (count p xs) → (2 ≤ count p xs → Apart d xs (λ x y. (p x ≡ true) × (p y ≡ true))) → Apart d (x ∷ xs) (λ x y. (p x ≡ true) × (p y ≡ true))
      go true q h ih =
          let r = one_at xs (omega arith) in
          record { i = 0; j = suc r.0; i-in = omega arith; j-in = omega (arith, r.1); apart = λ e. omega arith; related = (q, r.2) }
      go false q h ih =
          let r = ih h in
          let ne = r.apart in
          record { i = suc r.i; j = suc r.j; i-in = omega (arith, r.i-in); j-in = omega (arith, r.j-in); apart = λ e. ne (omega arith); related = r.related }

-- ---- the votes are counts
abbrev is_true : Judgement → Bool
is_true False = false
is_true True = true
is_true (Unresolved t) = false

abbrev is_false : Judgement → Bool
is_false False = true
is_false True = false
is_false (Unresolved t) = false

abbrev is_open : Judgement → Bool
is_open False = false
is_open True = false
is_open (Unresolved t) = true

is_true_lem : (j : Judgement) → is_true j ≡ true → j ≡ True
is_true_lem False e = clash (cc)
is_true_lem True e = refl
is_true_lem (Unresolved t) e = clash (cc)

is_false_lem : (j : Judgement) → is_false j ≡ true → j ≡ False
is_false_lem False e = refl
is_false_lem True e = clash (cc)
is_false_lem (Unresolved t) e = clash (cc)

module _ (f : ℕ → Judgement) where
  trues-are : (v : Votes) (l : List ℕ) → (votes v (map f l)).trues ≡ v.trues + count (λ c. is_true (f c)) l
  unfolding votes count
  trues-are v [] = omega arith
  trues-are v (x ∷ xs) = trues-are (vote v (f x)) xs ∙ go (f x)
    where
      go : (j : Judgement) → (vote v j).trues + count (λ c. is_true (f c)) xs ≡ v.trues + cond (is_true j) (suc (count (λ c. is_true (f c)) xs)) (count (λ c. is_true (f c)) xs)
      go False = refl
      go True = omega arith
      go (Unresolved t) = refl

  falses-are : (v : Votes) (l : List ℕ) → (votes v (map f l)).falses ≡ v.falses + count (λ c. is_false (f c)) l
  unfolding votes count
  falses-are v [] = omega arith
  falses-are v (x ∷ xs) = falses-are (vote v (f x)) xs ∙ go (f x)
    where
      go : (j : Judgement) → (vote v j).falses + count (λ c. is_false (f c)) xs ≡ v.falses + cond (is_false j) (suc (count (λ c. is_false (f c)) xs)) (count (λ c. is_false (f c)) xs)
      go False = omega arith
      go True = refl
      go (Unresolved t) = refl

  opens-are : (v : Votes) (l : List ℕ) → (votes v (map f l)).unresolved ≡ v.unresolved + count (λ c. is_open (f c)) l
  unfolding votes count
  opens-are v [] = omega arith
  opens-are v (x ∷ xs) = opens-are (vote v (f x)) xs ∙ go (f x)
    where
      go : (j : Judgement) → (vote v j).unresolved + count (λ c. is_open (f c)) xs ≡ v.unresolved + cond (is_open j) (suc (count (λ c. is_open (f c)) xs)) (count (λ c. is_open (f c)) xs)
      go False = refl
      go True = refl
      go (Unresolved t) = omega arith

  -- a construct is noted just where a member is unresolved
  none-noted : (v : Votes) (l : List ℕ) → v.noted ≡ None → ((c : ℕ) → Member c l → decided (f c) ≡ true) → (votes v (map f l)).noted ≡ None
  unfolding votes
  none-noted v [] n h = n
  none-noted v (x ∷ xs) n h = none-noted (vote v (f x)) xs (go (f x) (h x (here refl))) (λ c m. h c (there m))
    where
      go : (j : Judgement) → decided j ≡ true → (vote v j).noted ≡ None
      go False d = n
      go True d = n
      go (Unresolved t) d = clash (cc)

  noted-stays : (v : Votes) (l : List ℕ) → (v.noted ≡ None → ⊥) → (votes v (map f l)).noted ≡ None → ⊥
  unfolding votes
  noted-stays v [] n e = n e
  noted-stays v (x ∷ xs) n e = noted-stays (vote v (f x)) xs (go (f x)) e
    where
      go : (j : Judgement) → (vote v j).noted ≡ None → ⊥
      go False = n
      go True = n
      go (Unresolved t) = λ q. clash (cc)

  open-noted : (v : Votes) (l : List ℕ) (k : ℕ) (t : Construct) → k < length l → f (get_or l k 0) ≡ Unresolved t → (votes v (map f l)).noted ≡ None → ⊥
  unfolding votes
  open-noted v [] k t h q e = omega arith
  open-noted v (x ∷ xs) zero t h q e = noted-stays (vote v (f x)) xs (rw q (λ i. clash (cc))) e
  open-noted v (x ∷ xs) (suc k) t h q e = open-noted (vote v (f x)) xs k t (omega arith) q e

-- ---- what an outcome says of its two tests
outcome-false : (x y : Bool) (n : Option Construct) → cond x False (cond y (unless_noted n True) True) ≡ False → x ≡ true
outcome-false true y n e = refl
outcome-false false true None e = clash (cc)
outcome-false false true (Some t) e = clash (cc)
outcome-false false false n e = clash (cc)

outcome-true : (x y : Bool) (n : Option Construct) → cond x False (cond y (unless_noted n True) True) ≡ True → (x ≡ false) × (y ≡ true → n ≡ None)
outcome-true true y n e = clash (cc)
outcome-true false y None e = (refl, λ h. refl)
outcome-true false true (Some t) e = clash (cc)
outcome-true false false (Some t) e = (refl, λ h. clash (cc))

outcome-decided : (x y : Bool) (n : Option Construct) → n ≡ None → decided (cond x False (cond y (unless_noted n True) True)) ≡ true
outcome-decided true y n e = refl
outcome-decided false true n e = rw e
outcome-decided false false n e = refl

module _ (f : ℕ → Judgement) (l : List ℕ) where
  abbrev cast : Votes
  cast = votes no_votes (map f l)

  abbrev T : ℕ
  T = count (λ c. is_true (f c)) l

  abbrev F : ℕ
  F = count (λ c. is_false (f c)) l

  abbrev U : ℕ
  U = count (λ c. is_open (f c)) l

  t-is : cast.trues ≡ T
  t-is = trues-are f no_votes l ∙ omega arith

  f-is : cast.falses ≡ F
  f-is = falses-are f no_votes l ∙ omega arith

  u-is : cast.unresolved ≡ U
  u-is = opens-are f no_votes l ∙ omega arith

  -- the tests of the two outcomes: a true member beside a false one, an unresolved one beside another; two true members, an unresolved one that may be the second
  abbrev split : Bool
  split = ltb 0 cast.trues && ltb 0 cast.falses

  abbrev other : Bool
  other = ltb 0 cast.trues || ltb 0 cast.falses || leb 2 cast.unresolved

  abbrev double : Bool
  double = leb 2 cast.trues

  abbrev doubt : Bool
  doubt = leb 2 (cast.trues + cast.unresolved)

  -- no unresolved member
  no-open : ((c : ℕ) → Member c l → decided (f c) ≡ true) → cast.noted ≡ None
  no-open h = none-noted f no_votes l refl h

  -- ---- all agree
  pub agree-false : all_agree (map f l) ≡ False → Apart 0 l (λ c d. (f c ≡ True) × (f d ≡ False))
  unfolding all_agree
  agree-false e =
      let b = both_true (ltb 0 cast.trues) (ltb 0 cast.falses) (outcome-false split other cast.noted e) in
      let t = one_at 0 (λ c. is_true (f c)) l (omega (arith, t-is, ltb-true 0 cast.trues b.0)) in
      let g = one_at 0 (λ c. is_false (f c)) l (omega (arith, f-is, ltb-true 0 cast.falses b.1)) in
      let p : f (get_or l t.0 0) ≡ True = is_true_lem _ t.2 in
      let q : f (get_or l g.0 0) ≡ False = is_false_lem _ g.2 in
      record { i = t.0; j = g.0; i-in = t.1; j-in = g.1; apart = λ h. let y : True ≡ False = sym p ∙ rw h q in clash (cc); related = (p, q) }

  pub agree-true : all_agree (map f l) ≡ True → (i j : ℕ) → i ≢ j → i < length l → j < length l → (f (get_or l i 0) ≡ f (get_or l j 0)) × (decided (f (get_or l i 0)) ≡ true)
  unfolding all_agree
  agree-true e i j n hi hj = go (f (get_or l i 0)) (f (get_or l j 0)) refl refl
    where
      o : (split ≡ false) × (other ≡ true → cast.noted ≡ None)
      o = outcome-true split other cast.noted e

      true-in : (k : ℕ) → k < length l → f (get_or l k 0) ≡ True → ltb 0 cast.trues ≡ true
      true-in k h q = lt-ltb 0 cast.trues (omega (arith, t-is, count-pos 0 (λ c. is_true (f c)) l k h (rw q refl)))

      false-in : (k : ℕ) → k < length l → f (get_or l k 0) ≡ False → ltb 0 cast.falses ≡ true
      false-in k h q = lt-ltb 0 cast.falses (omega (arith, f-is, count-pos 0 (λ c. is_false (f c)) l k h (rw q refl)))

      open_in : (k : ℕ) (t : Construct) → k < length l → f (get_or l k 0) ≡ Unresolved t → other ≡ true → ⊥
      open_in k t h q y = open-noted f no_votes l k t h q (o.1 y)

      t-or : ltb 0 cast.trues ≡ true → other ≡ true
      t-or h = rw h

      f-or : ltb 0 cast.falses ≡ true → other ≡ true
      f-or h = rw (h, or-true)

      u-or : leb 2 cast.unresolved ≡ true → other ≡ true
      u-or h = rw (h, or-true)

      go : (a b : Judgement) → f (get_or l i 0) ≡ a → f (get_or l j 0) ≡ b → (a ≡ b) × (decided a ≡ true)
      go True True p q = (refl, refl)
      go False False p q = (refl, refl)
      go True False p q = absurd (not-both (ltb 0 cast.trues) (ltb 0 cast.falses) o.0 (true-in i hi p) (false-in j hj q))
      go False True p q = absurd (not-both (ltb 0 cast.trues) (ltb 0 cast.falses) o.0 (true-in j hj q) (false-in i hi p))
      go True (Unresolved t) p q = absurd (open_in j t hj q (t-or (true-in i hi p)))
      go False (Unresolved t) p q = absurd (open_in j t hj q (f-or (false-in i hi p)))
      go (Unresolved t) True p q = absurd (open_in i t hi p (t-or (true-in j hj q)))
      go (Unresolved t) False p q = absurd (open_in i t hi p (f-or (false-in j hj q)))
      go (Unresolved t) (Unresolved u) p q =
          absurd (open_in i t hi p (u-or (le-leb 2 cast.unresolved (omega (arith, u-is, count-apart 0 (λ c. is_open (f c)) l i j n hi hj (rw p refl) (rw q refl))))))

  pub agree-decided : ((c : ℕ) → Member c l → decided (f c) ≡ true) → decided (all_agree (map f l)) ≡ true
  unfolding all_agree
  agree-decided h = outcome-decided split other cast.noted (no-open h)

  -- ---- at most one
  pub one-false : at_most_one (map f l) ≡ False → Apart 0 l (λ c d. (f c ≡ True) × (f d ≡ True))
  unfolding at_most_one
  one-false e =
      let r = two_at 0 (λ c. is_true (f c)) l (omega (arith, t-is, leb-true 2 cast.trues (outcome-false double doubt cast.noted e))) in
      record { i = r.i; j = r.j; i-in = r.i-in; j-in = r.j-in; apart = r.apart; related = (is_true_lem _ r.related.0, is_true_lem _ r.related.1) }

  pub one-true : at_most_one (map f l) ≡ True → (i j : ℕ) → i ≢ j → i < length l → j < length l → (f (get_or l i 0) ≡ False) ⊎ (f (get_or l j 0) ≡ False)
  unfolding at_most_one
  one-true e i j n hi hj = go (f (get_or l i 0)) (f (get_or l j 0)) refl refl
    where
      o : (double ≡ false) × (doubt ≡ true → cast.noted ≡ None)
      o = outcome-true double doubt cast.noted e

      true-in : (k : ℕ) → k < length l → f (get_or l k 0) ≡ True → 0 < cast.trues
      true-in k h q = omega (arith, t-is, count-pos 0 (λ c. is_true (f c)) l k h (rw q refl))

      open_in : (k : ℕ) (t : Construct) → k < length l → f (get_or l k 0) ≡ Unresolved t → 0 < cast.unresolved
      open_in k t h q = omega (arith, u-is, count-pos 0 (λ c. is_open (f c)) l k h (rw q refl))

      full : (k : ℕ) (t : Construct) → k < length l → f (get_or l k 0) ≡ Unresolved t → 2 ≤ cast.trues + cast.unresolved → ⊥
      full k t h q two = open-noted f no_votes l k t h q (o.1 (le-leb 2 (cast.trues + cast.unresolved) two))

      go : (a b : Judgement) → f (get_or l i 0) ≡ a → f (get_or l j 0) ≡ b → (a ≡ False) ⊎ (b ≡ False)
      go False b p q = ◌⊎◌.inl refl
      go True False p q = ◌⊎◌.inr refl
      go (Unresolved t) False p q = ◌⊎◌.inr refl
      go True True p q =
          absurd (let y : true ≡ false = sym (le-leb 2 cast.trues (omega (arith, t-is, count-apart 0 (λ c. is_true (f c)) l i j n hi hj (rw p refl) (rw q refl)))) ∙ o.0 in clash (cc))
      go True (Unresolved t) p q = absurd (let a = true-in i hi p in let b = open_in j t hj q in full j t hj q (omega arith))
      go (Unresolved t) True p q = absurd (let a = true-in j hj q in let b = open_in i t hi p in full i t hi p (omega arith))
      go (Unresolved t) (Unresolved u) p q =
          absurd (full i t hi p (omega (arith, u-is, count-apart 0 (λ c. is_open (f c)) l i j n hi hj (rw p refl) (rw q refl))))

  pub one-decided : ((c : ℕ) → Member c l → decided (f c) ≡ true) → decided (at_most_one (map f l)) ≡ true
  unfolding at_most_one
  one-decided h = outcome-decided double doubt cast.noted (no-open h)
