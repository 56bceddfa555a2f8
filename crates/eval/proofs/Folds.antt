-- An And and a Some as folds: what ends them, that they are right of truth values, and that decided judgements leave them decided.
use Prim.Native.Nat.{ℕ}
use mathlib.Core.Bool.{Bool, true, false, cond, ◌&&◌, ◌||◌, and-true, and-false, or-true, or-false, and_assoc, or_assoc}
use mathlib.Core.Path.{◌≡◌, refl}
use Rattle.std.specs.Prelude.{Option, None}
use mathlib.Core.List.Memᴰ.{head as here}
use mathlib.Core.List.Memᴰ.{tail as there}
use mathlib.Core.List.{List, [], ◌∷◌, map, Memᴰ as Member}
use Rattle.eval.proofs.Clash.{clash}
use Rattle.eval.specs.declared.judgement.Construct.{Construct}
use Rattle.eval.specs.declared.judgement.Judgement.{Judgement}
use Rattle.eval.specs.declared.judgement.Judgement.TheVariants.{False, True, Unresolved}
use Rattle.eval.specs.declared.standing.Standing.{Standing}
use Rattle.eval.specs.Standing.{fresh, and_next, some_next, unless_noted, and_close, some_close}
use Rattle.eval.specs.Lists.{keep, every, any}
use Rattle.eval.specs.Judge.{and_from, some_from, Right, decided}

-- ---- what has ended stays so
pub and-ended : (f : ℕ → Judgement) (s : Standing) (xs : List ℕ) → s.ended ≡ true → and_from f s xs ≡ False
unfolding and_from
and-ended f s [] e = rw e
and-ended f s (x ∷ xs) e = and-ended f (and_next s (f x)) xs (still (f x))
  where
    still : (j : Judgement) → (and_next s j).ended ≡ true
    still False = refl
    still True = e
    still (Unresolved t) = e

pub some-ended : (f : ℕ → Judgement) (s : Standing) (xs : List ℕ) → s.ended ≡ true → some_from f s xs ≡ True
unfolding some_from
some-ended f s [] e = rw e
some-ended f s (x ∷ xs) e = some-ended f (some_next s (f x)) xs (still (f x))
  where
    still : (j : Judgement) → (some_next s j).ended ≡ true
    still True = refl
    still False = e
    still (Unresolved t) = e

-- ---- right of truth values: one step of an And, and one of a Some
and_right : (ended : Bool) (noted : Option Construct) (j : Judgement) (b x : Bool)
    → Right (and_close (record { ended = ended; noted = noted })) b → Right j x
    → Right (and_close (and_next (record { ended = ended; noted = noted }) j)) (b && x)
and_right ended noted False b x s r = rw (r, and-false)
and_right ended noted True b x s r = rw (r, and-true) s
and_right true noted (Unresolved t) b x s r = rw s
and_right false noted (Unresolved t) b x s r = tt

some_right : (ended : Bool) (noted : Option Construct) (j : Judgement) (b x : Bool)
    → Right (some_close (record { ended = ended; noted = noted })) b → Right j x
    → Right (some_close (some_next (record { ended = ended; noted = noted }) j)) (b || x)
some_right ended noted True b x s r = rw (r, or-true)
some_right ended noted False b x s r = rw (r, or-false) s
some_right true noted (Unresolved t) b x s r = rw s
some_right false noted (Unresolved t) b x s r = tt

module _ (f : ℕ → Judgement) (g : ℕ → Bool) where
  and-rights : (s : Standing) (b : Bool) (xs : List ℕ) → Right (and_close s) b → ((x : ℕ) → Member x xs → Right (f x) (g x)) → Right (and_from f s xs) (b && every (map g xs))
  unfolding and_from every
  and-rights s b [] r h = rw and-true r
  and-rights s b (x ∷ xs) r h =
      rw (← and_assoc b (g x) (every (map g xs)))
      (and-rights (and_next s (f x)) (b && g x) xs (and_right s.ended s.noted (f x) b (g x) r (h x (here refl))) (λ y m. h y (there m)))

  some-rights : (s : Standing) (b : Bool) (xs : List ℕ) → Right (some_close s) b → ((x : ℕ) → Member x xs → Right (f x) (g x)) → Right (some_from f s xs) (b || any (map g xs))
  unfolding some_from any
  some-rights s b [] r h = rw or-false r
  some-rights s b (x ∷ xs) r h =
      rw (← or_assoc b (g x) (any (map g xs)))
      (some-rights (some_next s (f x)) (b || g x) xs (some_right s.ended s.noted (f x) b (g x) r (h x (here refl))) (λ y m. h y (there m)))

  pub and-is-right : (xs : List ℕ) → ((x : ℕ) → Member x xs → Right (f x) (g x)) → Right (and_from f fresh xs) (every (map g xs))
  and-is-right xs h = and-rights fresh true xs refl h

  pub some-is-right : (xs : List ℕ) → ((x : ℕ) → Member x xs → Right (f x) (g x)) → Right (some_from f fresh xs) (any (map g xs))
  some-is-right xs h = some-rights fresh false xs refl h

-- a successor in the body, and a pair into the body
pub any-keep : (p g : ℕ → Bool) (xs : List ℕ) → any (map g (keep p xs)) ≡ any (map (λ t. p t && g t) xs)
unfolding any keep
any-keep p g [] = refl
any-keep p g (x ∷ xs) = go (p x) refl (any-keep p g xs)
  where
    go : (b : Bool) → p x ≡ b → any (map g (keep p xs)) ≡ any (map (λ t. p t && g t) xs) → any (map g (cond b (x ∷ keep p xs) (keep p xs))) ≡ ((b && g x) || any (map (λ t. p t && g t) xs))
    go true e ih = rw ih
    go false e ih = ih

-- ---- decided
module _ (f : ℕ → Judgement) where
  and-decided-from : (s : Standing) (xs : List ℕ) → s.noted ≡ None → ((x : ℕ) → Member x xs → decided (f x) ≡ true) → decided (and_from f s xs) ≡ true
  unfolding and_from
  and-decided-from s [] n h = go s.ended
    where
      go : (b : Bool) → decided (cond b False (unless_noted s.noted True)) ≡ true
      go true = refl
      go false = rw n
  and-decided-from s (x ∷ xs) n h = and-decided-from (and_next s (f x)) xs (go (f x) (h x (here refl))) (λ y m. h y (there m))
    where
      go : (j : Judgement) → decided j ≡ true → (and_next s j).noted ≡ None
      go False e = n
      go True e = n
      go (Unresolved t) e = clash (cc)

  some-decided-from : (s : Standing) (xs : List ℕ) → s.noted ≡ None → ((x : ℕ) → Member x xs → decided (f x) ≡ true) → decided (some_from f s xs) ≡ true
  unfolding some_from
  some-decided-from s [] n h = go s.ended
    where
      go : (b : Bool) → decided (cond b True (unless_noted s.noted False)) ≡ true
      go true = refl
      go false = rw n
  some-decided-from s (x ∷ xs) n h = some-decided-from (some_next s (f x)) xs (go (f x) (h x (here refl))) (λ y m. h y (there m))
    where
      go : (j : Judgement) → decided j ≡ true → (some_next s j).noted ≡ None
      go False e = n
      go True e = n
      go (Unresolved t) e = clash (cc)

  pub and-decided : (xs : List ℕ) → ((x : ℕ) → Member x xs → decided (f x) ≡ true) → decided (and_from f fresh xs) ≡ true
  and-decided xs h = and-decided-from fresh xs refl h

  pub some-decided : (xs : List ℕ) → ((x : ℕ) → Member x xs → decided (f x) ≡ true) → decided (some_from f fresh xs) ≡ true
  some-decided xs h = some-decided-from fresh xs refl h
