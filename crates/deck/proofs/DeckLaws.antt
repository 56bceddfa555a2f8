-- The parts of `deck_of s`: how many records, and which.
-- Assumes nothing.
use mathlib.Core.Path.{◌≡◌, refl}
use mathlib.Core.List.{List}
use Prim.Native.Nat.{ℕ, ◌<◌}
use lib.ListN.{length}
use Rattle.deck.specs.Trailer.{part_count, real_of, dropped}
use Rattle.deck.specs.Forms.{counts_of}
use Rattle.deck.specs.Deck.{class_count, role_count, concept_count, axiom_count, fact_count, class_at, role_at, injected_at, concept_at, axiom_at, fact_at}
use Rattle.deck.specs.Content.{deck_of, class_in, role_in, injected_in, concept_in, axiom_in, fact_in}
use Rattle.deck.specs.Sound.{counts_in}
use Rattle.deck.proofs.TableLaws.{table-length, table_at}

module _ (s : List ℕ) where
  pub real-is : (deck_of s).real ≡ real_of s
  unfolding deck_of
  real-is = refl

  pub dropped-is : (deck_of s).dropped ≡ dropped s
  unfolding deck_of
  dropped-is = refl

  pub class-count : class_count (deck_of s) ≡ part_count s 0
  unfolding deck_of
  class-count = table-length (class_in s) (part_count s 0)

  pub role-count : role_count (deck_of s) ≡ part_count s 1
  unfolding deck_of
  role-count = table-length (role_in s) (part_count s 1)

  pub injected-count : length (deck_of s).injected ≡ part_count s 2
  unfolding deck_of
  injected-count = table-length (injected_in s) (part_count s 2)

  pub concept-count : concept_count (deck_of s) ≡ part_count s 3
  unfolding deck_of
  concept-count = table-length (concept_in s) (part_count s 3)

  pub axiom-count : axiom_count (deck_of s) ≡ part_count s 4
  unfolding deck_of
  axiom-count = table-length (axiom_in s) (part_count s 4)

  pub fact-count : fact_count (deck_of s) ≡ part_count s 5
  unfolding deck_of
  fact-count = table-length (fact_in s) (part_count s 5)

  pub counts-are : counts_in (deck_of s) ≡ counts_of s
  counts-are = rw (class-count, role-count, real-is)

  module _ (k : ℕ) where
    pub class-at : k < part_count s 0 → class_at (deck_of s) k ≡ class_in s k
    unfolding deck_of
    class-at h = table_at (class_in s) (part_count s 0) k _ h

    pub role-at : k < part_count s 1 → role_at (deck_of s) k ≡ role_in s k
    unfolding deck_of
    role-at h = table_at (role_in s) (part_count s 1) k _ h

    pub injected-at : k < part_count s 2 → injected_at (deck_of s) k ≡ injected_in s k
    unfolding deck_of
    injected-at h = table_at (injected_in s) (part_count s 2) k _ h

    pub concept-at : k < part_count s 3 → concept_at (deck_of s) k ≡ concept_in s k
    unfolding deck_of
    concept-at h = table_at (concept_in s) (part_count s 3) k _ h

    pub axiom-at : k < part_count s 4 → axiom_at (deck_of s) k ≡ axiom_in s k
    unfolding deck_of
    axiom-at h = table_at (axiom_in s) (part_count s 4) k _ h

    pub fact-at : k < part_count s 5 → fact_at (deck_of s) k ≡ fact_in s k
    unfolding deck_of
    fact-at h = table_at (fact_in s) (part_count s 5) k _ h
