-- The injected class of (y, r): the records rise by one number, their key, and at most one has the key of (y, r).
-- Assumes nothing.
use mathlib.Core.Path.{◌≡◌, refl, sym}
use mathlib.Core.Bool.{Bool, true, false, ◌&&◌}
use mathlib.Core.List.{List}
use mathlib.Core.Logic.{⊎_elim}
use Prim.Native.Nat.{ℕ, zero, suc, ◌+◌, ◌*◌, ◌<◌}
use native.Mathlib.Nat.{not-suc-le-zero, le_of_suc-le-suc}
use native.Mathlib.Omega.{arith}
use borrow.Author.Tests.{eqb-true, eq-eqb}
use lib.Dec.{eqb}
use Rattle.std.specs.Prelude.{Option}
use Rattle.deck.specs.Trailer.{part_count}
use Rattle.deck.specs.Parts.{part_word}
use Rattle.deck.specs.Deck.{InjectedEntry, injected_class, role_count}
use Rattle.deck.specs.Content.{IsAccepted, deck_of, table, injected_in}
use Rattle.deck.specs.Reads.{injected_key, InjectedRead}
use Rattle.deck.proofs.TrailerLaws.{count-within}
use Rattle.deck.proofs.AcceptedLaws.{framed}
use Rattle.deck.proofs.DeckLaws.{class-count, role-count}
use Rattle.deck.proofs.SoundLaws.{injected-fits, injected-rises}
use Rattle.deck.proofs.SearchLaws.{Rising, rising}

-- ---- the first record of a table for (y, r)
abbrev Is : ℕ → ℕ → InjectedEntry → Type 0
Is y r x = (x.class ≡ y) × (x.role ≡ r)

module _ (y r : ℕ) (x : InjectedEntry) where
  is_true : Is y r x → eqb x.class y && eqb x.role r ≡ true
  is_true p = rw (eq-eqb x.class y p.0, eq-eqb x.role r p.1)

  is_false : (Is y r x → ⊥) → eqb x.class y && eqb x.role r ≡ false
  is_false n = go (eqb x.class y) (eqb x.role r) refl refl
    where
      go : (a b : Bool) → eqb x.class y ≡ a → eqb x.role r ≡ b → a && b ≡ false
      go true true p q = absurd (n (eqb-true x.class y p, eqb-true x.role r q))
      go true false p q = refl
      go false b p q = refl

module _ (y r : ℕ) where
  first_found : (g : ℕ → InjectedEntry) (n i : ℕ) → i < n → Is y r (g i) → ((j : ℕ) → j < i → Is y r (g j) → ⊥)
      → injected_class (table g n) y r ≡ Option.Some (record { 0 = (g i).filler })
  unfolding injected_class table
  first_found g zero i l p none = absurd (not-suc-le-zero l)
  first_found g (suc n) zero l p none = rw (is_true y r (g 0) p)
  first_found g (suc n) (suc i) l p none =
      rw (is_false y r (g 0) (none 0 (omega arith))) (first_found (λ k. g (suc k)) n i (le_of_suc-le-suc l) p (λ j h. none (suc j) (omega arith)))

  none_found : (g : ℕ → InjectedEntry) (n : ℕ) → ((j : ℕ) → j < n → Is y r (g j) → ⊥) → injected_class (table g n) y r ≡ Option.None
  unfolding injected_class table
  none_found g zero none = refl
  none_found g (suc n) none = rw (is_false y r (g 0) (none 0 (omega arith))) (none_found (λ k. g (suc k)) n (λ j h. none (suc j) (omega arith)))

-- ---- an accepted deck
module _ (s : List ℕ) (h : IsAccepted s) where
  pub class-small : (k : ℕ) → k < part_count s 2 → part_word s 2 k 0 < 4096
  unfolding injected_in
  class-small k l = omega (arith, (injected-fits s h k l).class, class-count s, count-within s (framed s h) 0 (omega arith))

  pub role-small : (k : ℕ) → k < part_count s 2 → part_word s 2 k 1 < 1024
  unfolding injected_in
  role-small k l = omega (arith, (injected-fits s h k l).role, role-count s, count-within s (framed s h) 1 (omega arith))

  pub keys-rise : Rising (injected_key s) (part_count s 2)
  unfolding injected_in
  keys-rise k l =
      ⊎_elim (λ (c : part_word s 2 k 0 < part_word s 2 (k + 1) 0). omega (arith, role-small k (omega arith)))
      (λ (e : (part_word s 2 k 0 ≡ part_word s 2 (k + 1) 0) × (part_word s 2 k 1 < part_word s 2 (k + 1) 1)). omega (arith, e.0, e.1)) (injected-rises s h k l)

  module _ (y r : ℕ) (lr : r < role_count (deck_of s)) where
    role-within : r < 1024
    role-within = omega (arith, role-count s, count-within s (framed s h) 1 (omega arith))

    key_of : (k : ℕ) → k < part_count s 2 → injected_key s k ≡ y * 1024 + r → Is y r (injected_in s k)
    unfolding injected_in
    key_of k l e = (omega (arith, role-small k l, role-within), omega (arith, role-small k l, role-within))

    of-key : (k : ℕ) → Is y r (injected_in s k) → injected_key s k ≡ y * 1024 + r
    unfolding injected_in
    of-key k p = omega (arith, p.0, p.1)

    pub injected-found : (k : ℕ) → k < part_count s 2 → injected_key s k ≡ y * 1024 + r → InjectedRead (deck_of s) y r (Option.Some (record { 0 = part_word s 2 k 2 }))
    unfolding deck_of injected_in
    injected-found k l e = record {
      is =
          sym (first_found y r (injected_in s) (part_count s 2) k l (key_of k l e)
          (λ j m p. omega (arith, of-key j p, rising (injected_key s) (part_count s 2) keys-rise j k m l)));
      fits = (injected-fits s h k l).filler;
    }

    pub injected-absent : ((k : ℕ) → k < part_count s 2 → injected_key s k ≡ y * 1024 + r → ⊥) → InjectedRead (deck_of s) y r Option.None
    unfolding deck_of
    injected-absent none = record { is = sym (none_found y r (injected_in s) (part_count s 2) (λ j m p. none j m (of-key j p))); fits = tt }
