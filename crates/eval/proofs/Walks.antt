-- One step of a walk, as a loop takes it: an And and the votes over a list of members, a scan over the elements, checks in turn.
-- In each, what is still to come is `drop i l` or the elements from e on.
use Prim.Native.Nat.{ℕ, suc, ◌+◌, ◌-◌, ◌<◌, ◌≤◌}
use mathlib.Core.Bool.{true, false}
use mathlib.Core.Path.{◌≡◌, refl, sym, ◌∙◌}
use mathlib.Core.List.{List, [], ◌∷◌, map}
use native.Mathlib.Omega.{arith}
use native.Mathlib.Numerals.{add-one}
use lib.ListN.{length, get_or, drop, drop_of_length-le}
use lib.Seq.{drop-cons}
use Rattle.eval.proofs.Clash.{clash}
use Rattle.eval.specs.declared.judgement.Judgement.{Judgement}
use Rattle.eval.specs.declared.judgement.Judgement.TheVariants.{False, True, Unresolved}
use Rattle.eval.specs.declared.standing.Standing.{Standing}
use Rattle.eval.specs.declared.verdict.Witnesses.{Witnesses}
use Rattle.eval.specs.declared.verdict.Verdict.{Verdict}
use Rattle.eval.specs.declared.verdict.Verdict.TheVariants.{Holds, Fails, UnhandledAxiom, UnhandledConcept, GuardedRoleHasEdges}
use Rattle.eval.specs.Standing.{and_next, and_close}
use Rattle.eval.specs.Lists.{range}
use Rattle.eval.specs.Judge.{and_from}
use Rattle.eval.specs.declared.votes.Votes.{Votes}
use Rattle.eval.specs.Verdict.{vote, votes, scan, fails_at, verdict_of, in_turn, or_else}
use Rattle.eval.proofs.Folds.{and-ended}

-- ---- a list from position i on, and the numbers from e on
module _ {A : Type 0} (d : A) (l : List A) (i : ℕ) where
  pub list-step : i < length l → drop i l ≡ get_or l i d ∷ drop (i + 1) l
  list-step h = rw (add-one, drop-cons l i d)

pub range-step : (e z : ℕ) → e < z → range e (z - e) ≡ e ∷ range (e + 1) (z - (e + 1))
unfolding range
range-step e z h = let y : z - e ≡ suc (z - (e + 1)) = omega arith in rw (y, add-one e)

pub range-end : (e z : ℕ) → z ≤ e → range e (z - e) ≡ []
unfolding range
range-end e z h = let y : z - e ≡ 0 = omega arith in rw y

-- ---- an And
module _ (f : ℕ → Judgement) (s : Standing) (l : List ℕ) (i : ℕ) where
  pub and-end : length l ≤ i → and_close s ≡ and_from f s (drop i l)
  unfolding and_from
  and-end h = rw (drop_of_length-le l h)

  module _ (h : i < length l) {j : Judgement} {next : Standing} (p : j ≡ f (get_or l i 0)) (q : next ≡ and_next s j) where
    pub and_step : and_from f s (drop i l) ≡ and_from f next (drop (i + 1) l)
    unfolding and_from
    and_step = rw (list-step 0 l i h, q, p)

    pub and-stop : next.ended ≡ true → False ≡ and_from f s (drop i l)
    and-stop e = sym (and_step ∙ and-ended f next (drop (i + 1) l) e)

-- ---- the votes
module _ (f : ℕ → Judgement) (v : Votes) (l : List ℕ) (i : ℕ) where
  pub votes-end : length l ≤ i → v ≡ votes v (map f (drop i l))
  unfolding votes
  votes-end h = rw (drop_of_length-le l h)

  pub votes-step : i < length l → {j : Judgement} {next : Votes} → j ≡ f (get_or l i 0) → next ≡ vote v j → votes v (map f (drop i l)) ≡ votes next (map f (drop (i + 1) l))
  unfolding votes
  votes-step h p q = rw (list-step 0 l i h, q, p)

-- each vote is counted once
pub vote-adds : (v : Votes) (j : Judgement) {next : Votes} → next ≡ vote v j → next.trues + next.falses + next.unresolved ≡ v.trues + v.falses + v.unresolved + 1
vote-adds v True q = rw q (omega arith)
vote-adds v False q = rw q (omega arith)
vote-adds v (Unresolved t) q = rw q (omega arith)

-- ---- a scan, place by place
module _ {A : Type 0} (f : A → Judgement) (w : A → Witnesses) (s : Standing) (x : A) (xs : List A) where
  pub scan-stop : f x ≡ False → Fails (w x) ≡ scan f w s (x ∷ xs)
  unfolding scan
  scan-stop e = rw e

  pub scan_step : (f x ≡ False → ⊥) → scan f w s (x ∷ xs) ≡ scan f w (and_next s (f x)) xs
  unfolding scan
  scan_step h = go (f x) refl
    where
      go : (j : Judgement) → f x ≡ j → fails_at j (w x) (scan f w (and_next s j) xs) ≡ scan f w (and_next s j) xs
      go False q = absurd (h q)
      go True q = refl
      go (Unresolved t) q = refl

-- a standing that has not ended ends just at a False
pub ends : (s : Standing) (j : Judgement) → s.ended ≡ false → (and_next s j).ended ≡ true → j ≡ False
ends s False g e = refl
ends s True g e = clash (cc)
ends s (Unresolved t) g e = clash (cc)

pub goes_on : (s : Standing) (j : Judgement) → (and_next s j).ended ≡ false → j ≡ False → ⊥
goes_on s False e q = clash (cc)
goes_on s True e q = clash (cc)
goes_on s (Unresolved t) e q = clash (cc)

-- a scan over the elements from e on
module _ (f : ℕ → Judgement) (w : ℕ → Witnesses) (s : Standing) (e z : ℕ) where
  pub elements-end : z ≤ e → verdict_of s ≡ scan f w s (range e (z - e))
  unfolding scan
  elements-end h = rw (range-end e z h)

  module _ (h : e < z) {j : Judgement} {next : Standing} (p : j ≡ f e) (q : next ≡ and_next s j) where
    pub elements-stop : s.ended ≡ false → next.ended ≡ true → Fails (w e) ≡ scan f w s (range e (z - e))
    elements-stop g k = rw (range-step e z h) (scan-stop f w s e (range (e + 1) (z - (e + 1))) (sym p ∙ ends s j g (rw q at k)))

    pub elements-step : next.ended ≡ false → scan f w s (range e (z - e)) ≡ scan f w next (range (e + 1) (z - (e + 1)))
    elements-step k = rw (range-step e z h, q, p) (scan_step f w s e (range (e + 1) (z - (e + 1))) (goes_on s (f e) (rw (q, p) at k)))

-- ---- checks in turn
module _ {A : Type 0} (g : A → Verdict) (d : A) (l : List A) (i : ℕ) where
  pub turn_end : length l ≤ i → Holds ≡ in_turn (map g (drop i l))
  unfolding in_turn
  turn_end h = rw (drop_of_length-le l h)

  pub turn_step : i < length l → g (get_or l i d) ≡ Holds → in_turn (map g (drop i l)) ≡ in_turn (map g (drop (i + 1) l))
  unfolding in_turn
  turn_step h e = rw (list-step d l i h, e)

  pub turn-stop : i < length l → (g (get_or l i d) ≡ Holds → ⊥) → g (get_or l i d) ≡ in_turn (map g (drop i l))
  unfolding in_turn
  turn-stop h n = rw (list-step d l i h) (go (g (get_or l i d)) refl)
    where
      go : (v : Verdict) → g (get_or l i d) ≡ v → v ≡ or_else v (in_turn (map g (drop (i + 1) l)))
      go Holds q = absurd (n q)
      go (Fails w) q = refl
      go (UnhandledAxiom tag part) q = refl
      go (UnhandledConcept tag) q = refl
      go (GuardedRoleHasEdges r) q = refl
