-- A Some over a list of successors, by what is in the list.
--     some-case     what it comes to: a True, else an unresolved construct, else False
--     some-true, some-open, some-none     the same, by a member of the list; `some-open` where all unresolved ones have one tag
--     some_same     so lists with the same members come to the same, in any order and with repeats
--     after, some_after, after_more     the standing after a list, for a loop that adds one member after another
use Prim.Native.Nat.{ℕ}
use mathlib.Core.Bool.{Bool, true, false, cond}
use mathlib.Core.Path.{◌≡◌, refl, sym}
use mathlib.Core.Logic.{⊎_elim}
use mathlib.Core.List.Memᴰ.{cases_cons}
use mathlib.Core.List.Memᴰ.{head as here}
use mathlib.Core.List.Memᴰ.{not-nil as nothing-in}
use mathlib.Core.List.Memᴰ.{tail as there}
use mathlib.Core.List.{List, [], ◌∷◌, ◌++◌, Memᴰ as Member}
use Rattle.eval.proofs.Clash.{clash}
use Rattle.eval.specs.declared.judgement.Construct.{Construct}
use Rattle.eval.specs.declared.judgement.Judgement.{Judgement}
use Rattle.eval.specs.declared.judgement.Judgement.TheVariants.{False, True, Unresolved}
use Rattle.eval.specs.declared.standing.Standing.{Standing}
use Rattle.std.specs.Prelude.{Option, Some, None}
use Rattle.eval.specs.Standing.{fresh, some_next, unless_noted, some_close}
use Rattle.eval.specs.Judge.{some_from}
use Rattle.eval.proofs.Folds.{some-ended}

module _ (f : ℕ → Judgement) where
  -- no member, each member of a list
  abbrev pub NoneTrue : List ℕ → Type 0
  NoneTrue xs = (x : ℕ) → Member x xs → f x ≡ True → ⊥

  abbrev pub AllFalse : List ℕ → Type 0
  AllFalse xs = (x : ℕ) → Member x xs → f x ≡ False

  none_more : {x : ℕ} {xs : List ℕ} → (f x ≡ True → ⊥) → NoneTrue xs → NoneTrue (x ∷ xs)
  none_more {x} {xs} h t y m e = ⊎_elim (λ (q : y ≡ x). h (rw q at e)) (λ (n : Member y xs). t y n e) (cases_cons m)

  all_more : {x : ℕ} {xs : List ℕ} → f x ≡ False → AllFalse xs → AllFalse (x ∷ xs)
  all_more {x} {xs} h t y m = ⊎_elim (λ (q : y ≡ x). rw q h) (λ (n : Member y xs). t y n) (cases_cons m)

  case-from : (C : Judgement → Type 0) (xs : List ℕ) (s : Standing)
      → (s.ended ≡ true → C True)
      → (s.ended ≡ false → (t : Construct) → s.noted ≡ Some t → NoneTrue xs → C (Unresolved t))
      → ((x : ℕ) → Member x xs → f x ≡ True → C True)
      → ((x : ℕ) (t : Construct) → Member x xs → f x ≡ Unresolved t → NoneTrue xs → C (Unresolved t))
      → (s.noted ≡ None → AllFalse xs → C False)
      → C (some_from f s xs)
  unfolding some_from
  case-from C [] s over was hit opens none = go s.ended s.noted refl refl
    where
      go : (b : Bool) (n : Option Construct) → s.ended ≡ b → s.noted ≡ n → C (cond b True (unless_noted n False))
      go true n p q = over p
      go false (Some t) p q = was p t q (λ x m. absurd (nothing-in m))
      go false None p q = none q (λ x m. absurd (nothing-in m))
  case-from C (x ∷ xs) s over was hit opens none = go (f x) refl (case-from C xs)
    where
      go : (j : Judgement) → f x ≡ j
          → ((s : Standing) → (s.ended ≡ true → C True)
          → (s.ended ≡ false → (t : Construct) → s.noted ≡ Some t → NoneTrue xs → C (Unresolved t))
          → ((x : ℕ) → Member x xs → f x ≡ True → C True)
          → ((x : ℕ) (t : Construct) → Member x xs → f x ≡ Unresolved t → NoneTrue xs → C (Unresolved t))
          → (s.noted ≡ None → AllFalse xs → C False)
          → C (some_from f s xs))
          → C (some_from f (some_next s j) xs)
      go False q ih =
          let h : f x ≡ True → ⊥ = λ e. clash (cc) in
          ih s over (λ p u n t. was p u n (none_more h t)) (λ y m. hit y (there m)) (λ y t m e a. opens y t (there m) e (none_more h a)) (λ n a. none n (all_more q a))
      go True q ih = rw (some-ended f (record { ended = true; noted = s.noted }) xs refl) (hit x (here refl) q)
      go (Unresolved t) q ih =
          let h : f x ≡ True → ⊥ = λ e. clash (cc) in
          ih (record { ended = s.ended; noted = Some t }) over (λ p u n a. opens x u (here refl) (cc) (none_more h a)) (λ y m. hit y (there m)) (λ y u m e a. opens y u (there m) e (none_more h a))
          (λ n a. clash (cc))

  pub some-case : (C : Judgement → Type 0) (xs : List ℕ)
      → ((x : ℕ) → Member x xs → f x ≡ True → C True)
      → ((x : ℕ) (t : Construct) → Member x xs → f x ≡ Unresolved t → NoneTrue xs → C (Unresolved t))
      → (AllFalse xs → C False)
      → C (some_from f fresh xs)
  some-case C xs hit opens none =
      case-from C xs fresh (λ e. clash (cc)) (λ e t n a. clash (cc)) hit opens (λ n a. none a)

  pub some-true : (xs : List ℕ) (x : ℕ) → Member x xs → f x ≡ True → some_from f fresh xs ≡ True
  some-true xs x m e =
      some-case (λ j. j ≡ True) xs (λ y n q. refl) (λ y t n q a. absurd (a x m e)) (λ a. clash (cc (a x m)))

  pub some-none : (xs : List ℕ) → AllFalse xs → some_from f fresh xs ≡ False
  some-none xs h =
      some-case (λ j. j ≡ False) xs (λ y n q. clash (cc (h y n))) (λ y t n q a. clash (cc (h y n))) (λ a. refl)

  -- all unresolved judgements have one tag
  module _ (tag : Option Construct) (steady : (x : ℕ) (t : Construct) → f x ≡ Unresolved t → Some t ≡ tag) where
    pub some-open : (xs : List ℕ) (x : ℕ) (t : Construct) → Member x xs → f x ≡ Unresolved t → NoneTrue xs → some_from f fresh xs ≡ Unresolved t
    some-open xs x t m e h =
        some-case (λ j. j ≡ Unresolved t) xs (λ y n q. absurd (h y n q)) (λ y u n q a. cc (steady y u q, steady x t e)) (λ a. clash (cc (a x m)))

    pub some_same : (xs ys : List ℕ) → ((x : ℕ) → Member x xs → Member x ys) → ((y : ℕ) → Member y ys → Member y xs) → some_from f fresh xs ≡ some_from f fresh ys
    some_same xs ys to fro =
        some-case (λ j. j ≡ some_from f fresh ys) xs (λ x m e. sym (some-true ys x (to x m) e))
        (λ x t m e a. sym (some-open ys x t (to x m) e (λ y n. a y (fro y n)))) (λ a. sym (some-none ys (λ y n. a y (fro y n))))

-- the standing after a list
unfoldable pub after : (ℕ → Judgement) → Standing → List ℕ → Standing
after f s [] = s
after f s (x ∷ xs) = after f (some_next s (f x)) xs

pub some_after : (f : ℕ → Judgement) (s : Standing) (xs : List ℕ) → some_from f s xs ≡ some_close (after f s xs)
unfolding some_from after
some_after f s [] = refl
some_after f s (x ∷ xs) = some_after f (some_next s (f x)) xs

pub after_more : (f : ℕ → Judgement) (s : Standing) (xs : List ℕ) (x : ℕ) → after f s (xs ++ x ∷ []) ≡ some_next (after f s xs) (f x)
unfolding after
after_more f s [] x = refl
after_more f s (y ∷ ys) x = after_more f (some_next s (f y)) ys x
