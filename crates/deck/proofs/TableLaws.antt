-- Laws of `table`, `list_at` and `has`: a list given by what stands at each place.
-- Assumes nothing.
use mathlib.Core.Path.{◌≡◌, refl, sym, ap, ◌∙◌}
use mathlib.Core.Bool.{Bool, true, false, ◌||◌, or_assoc}
use mathlib.Core.List.{List, ◌∷◌}
use Prim.Native.Nat.{ℕ, zero, suc, ◌+◌, ◌<◌}
use native.Mathlib.Nat.{le_of_suc-le-suc, not-suc-le-zero}
use native.Mathlib.Omega.{arith}
use lib.ListN.{length, get_or}
use lib.Dec.{eqb}
use Rattle.deck.specs.Parts.{list_word}
use Rattle.deck.specs.Below.{any_below}
use Rattle.deck.specs.Deck.{has}
use Rattle.deck.specs.Content.{table, list_at}

pub table-length : {A : Type 0} (f : ℕ → A) (n : ℕ) → length (table f n) ≡ n
unfolding table
table-length f zero = refl
table-length f (suc n) = ap suc (table-length (λ k. f (suc k)) n)

pub table_at : {A : Type 0} (f : ℕ → A) (n i : ℕ) (d : A) → i < n → get_or (table f n) i d ≡ f i
unfolding table
table_at f zero i d h = absurd (not-suc-le-zero h)
table_at f (suc n) zero d h = refl
table_at f (suc n) (suc i) d h = table_at (λ k. f (suc k)) n i d (le_of_suc-le-suc h)

-- equal at each place
pub table-ext : {A : Type 0} (f g : ℕ → A) (n : ℕ) → ((i : ℕ) → i < n → f i ≡ g i) → table f n ≡ table g n
unfolding table
table-ext f g zero e = refl
table-ext f g (suc n) e =
    ap (λ x. x ∷ table (λ k. f (suc k)) n) (e 0 (omega arith))
    ∙ ap (λ xs. g 0 ∷ xs) (table-ext (λ k. f (suc k)) (λ k. g (suc k)) n (λ i h. e (suc i) (omega arith)))

any-front : (p : ℕ → Bool) (n : ℕ) → p 0 || any_below (λ k. p (suc k)) n ≡ any_below p (suc n)
unfolding any_below
any-front p zero = go (p 0)
  where
    go : (b : Bool) → b || false ≡ b
    go true = refl
    go false = refl
any-front p (suc n) = sym (or_assoc (p 0) (any_below (λ k. p (suc k)) n) (p (suc n))) ∙ ap (λ b. b || p (suc n)) (any-front p n)

-- a word of a table is a value at some place
pub has-table : (f : ℕ → ℕ) (n x : ℕ) → has (table f n) x ≡ any_below (λ i. eqb (f i) x) n
unfolding has table any_below
has-table f zero x = refl
has-table f (suc n) x = ap (λ b. eqb (f 0) x || b) (has-table (λ k. f (suc k)) n x) ∙ any-front (λ i. eqb (f i) x) n

module _ (s : List ℕ) (start count : ℕ) where
  pub list_length : length (list_at s start count) ≡ count
  unfolding list_at
  list_length = table-length (λ i. list_word s (start + i)) count

  pub list_at_lem : (i : ℕ) → i < count → get_or (list_at s start count) i 0 ≡ list_word s (start + i)
  unfolding list_at
  list_at_lem i h = table_at (λ i. list_word s (start + i)) count i 0 h

  pub list-has : (x : ℕ) → has (list_at s start count) x ≡ any_below (λ i. eqb (list_word s (start + i)) x) count
  unfolding list_at
  list-has x = has-table (λ i. list_word s (start + i)) count x
