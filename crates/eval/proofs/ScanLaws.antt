-- Laws of `scan` and `in_turn`: what a verdict is, by the places.
--     scan-case     a place that fails, else an undecided one, else all hold
--     turn-case     a check that does not hold, else all hold
use mathlib.Core.Path.{◌≡◌, refl, ap, ◌∙◌}
use mathlib.Core.Logic.{⊎_elim}
use mathlib.Core.List.Memᴰ.{cases_cons}
use mathlib.Core.List.Memᴰ.{head as here}
use mathlib.Core.List.Memᴰ.{not-nil as nothing-in}
use mathlib.Core.List.Memᴰ.{tail as there}
use mathlib.Core.List.{List, [], ◌∷◌, map, Memᴰ as Member}
use Rattle.eval.proofs.Clash.{clash}
use Rattle.eval.specs.declared.judgement.Construct.{Construct}
use Rattle.eval.specs.declared.judgement.Judgement.{Judgement}
use Rattle.eval.specs.declared.judgement.Judgement.TheVariants.{False, True, Unresolved}
use Rattle.eval.specs.declared.standing.Standing.{Standing}
use Rattle.eval.specs.declared.verdict.Witnesses.{Witnesses}
use Rattle.eval.specs.declared.verdict.Verdict.{Verdict}
use Rattle.eval.specs.declared.verdict.Verdict.TheVariants.{Holds, Fails, UnhandledAxiom, UnhandledConcept, GuardedRoleHasEdges}
use Rattle.eval.specs.Standing.{fresh, and_next}
use Rattle.std.specs.Prelude.{Option, Some, None}
use Rattle.eval.specs.Verdict.{open_or_holds, scan, fails_at, in_turn, or_else}

module _ {A : Type 0} (f : A → Judgement) (w : A → Witnesses) (C : Verdict → Type 0) where
  case-from : (xs : List A) (s : Standing)
      → ((x : A) → Member x xs → f x ≡ False → C (Fails (w x)))
      → ((t : Construct) → s.noted ≡ Some t → C (UnhandledConcept t))
      → ((x : A) (t : Construct) → Member x xs → f x ≡ Unresolved t → C (UnhandledConcept t))
      → (s.noted ≡ None → ((x : A) → Member x xs → f x ≡ True) → C Holds)
      → C (scan f w s xs)
  unfolding scan
  case-from [] s fails was opens holds = go s.noted refl
    where
      go : (n : Option Construct) → s.noted ≡ n → C (open_or_holds n)
      go (Some t) q = was t q
      go None q = holds q (λ x m. absurd (nothing-in m))
  case-from (x ∷ xs) s fails was opens holds = go (f x) refl (case-from xs)
    where
      go : (j : Judgement) → f x ≡ j
          → ((s : Standing) → ((x : A) → Member x xs → f x ≡ False → C (Fails (w x)))
          → ((t : Construct) → s.noted ≡ Some t → C (UnhandledConcept t))
          → ((x : A) (t : Construct) → Member x xs → f x ≡ Unresolved t → C (UnhandledConcept t))
          → (s.noted ≡ None → ((x : A) → Member x xs → f x ≡ True) → C Holds)
          → C (scan f w s xs))
          → C (fails_at j (w x) (scan f w (and_next s j) xs))
      go False q ih = fails x (here refl) q
      go True q ih =
          ih s (λ y m. fails y (there m)) was (λ y t m. opens y t (there m))
          (λ n h. holds n (λ y m. ⊎_elim (λ (e : y ≡ x). ap f e ∙ q) (λ (k : Member y xs). h y k) (cases_cons m)))
      go (Unresolved t) q ih =
          ih (and_next s (Unresolved t)) (λ y m. fails y (there m)) (λ u n. opens x u (here refl) (cc)) (λ y u m. opens y u (there m)) (λ n h. clash (cc))

  pub scan-case : (xs : List A)
      → ((x : A) → Member x xs → f x ≡ False → C (Fails (w x)))
      → ((x : A) (t : Construct) → Member x xs → f x ≡ Unresolved t → C (UnhandledConcept t))
      → (((x : A) → Member x xs → f x ≡ True) → C Holds)
      → C (scan f w fresh xs)
  scan-case xs fails opens holds = case-from xs fresh fails (λ t n. clash (cc)) opens (λ n h. holds h)

-- a claim for each verdict, with another one for Holds
abbrev pub Case : Type 0 → (Verdict → Type 0) → Verdict → Type 0
Case X C Holds = X
Case X C (Fails w) = C (Fails w)
Case X C (UnhandledAxiom tag part) = C (UnhandledAxiom tag part)
Case X C (UnhandledConcept tag) = C (UnhandledConcept tag)
Case X C (GuardedRoleHasEdges r) = C (GuardedRoleHasEdges r)

pub else-case : (C : Verdict → Type 0) (X : Type 0) (u v : Verdict) → Case X C u → (X → C v) → C (or_else u v)
else-case C X Holds v h k = k h
else-case C X (Fails w) v h k = h
else-case C X (UnhandledAxiom tag part) v h k = h
else-case C X (UnhandledConcept tag) v h k = h
else-case C X (GuardedRoleHasEdges r) v h k = h

pub turn-case : {A : Type 0} (g : A → Verdict) (Q : A → Type 0) (C : Verdict → Type 0) (xs : List A)
    → ((x : A) → Member x xs → Case (Q x) C (g x)) → (((x : A) → Member x xs → Q x) → C Holds) → C (in_turn (map g xs))
unfolding in_turn
turn-case g Q C [] h k = k (λ x m. absurd (nothing-in m))
turn-case g Q C (x ∷ xs) h k =
    else-case C (Q x) (g x) (in_turn (map g xs)) (h x (here refl))
    (λ q. turn-case g Q C xs (λ y m. h y (there m)) (λ a. k (λ y m. ⊎_elim (λ (e : y ≡ x). rw e q) (λ (n : Member y xs). a y n) (cases_cons m))))
