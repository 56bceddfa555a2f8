-- What the tables promise that expanding by the facts makes for itself: they change how long it takes and no answer.
use Rattle.std.specs.Prelude.{ℕ, zero, suc, ◌+◌, ◌-◌, ◌<◌, ◌≤◌, ◌≡◌, Bool, true, false, cond, List, [], ◌∷◌, length, get_or, drop, eqb, Option, Some, None}
use Rattle.deck.specs.declared.numbers.ClassId.{ClassId}
use Rattle.deck.specs.Deck.{Deck, Fact, class_count, fact_count, fact_at}
use Rattle.atoms.specs.Label.{label_has}
use Rattle.build.specs.Intern.{index_of}
use Rattle.build.specs.Seed.{row_label}

-- ---- numbers in a table: one more than a number, or 0 for none
abbrev pub entry_of : Option ℕ → ℕ
entry_of None = zero
entry_of (Some i) = suc i

-- ---- facts by class
-- fact i is of class k
pub record FactOf (D : Deck) (k i : ℕ) : Type 0 where
  pub below : i < fact_count D
  pub own : (fact_at D i).from ≡ k

-- one more than the first fact of class k among facts that are numbered from i on, or 0
unfoldable pub next_fact : ℕ → ℕ → List Fact → ℕ
next_fact k i [] = zero
next_fact k i (f ∷ fs) = cond (eqb f.from k) (suc i) (next_fact k (suc i) fs)

-- the facts from i on, by class: at k the first of class k, and after the classes at each fact the next of the same class
pub record Indexed (D : Deck) (i : ℕ) (index : List ℕ) : Type 0 where
  pub heads : (k : ℕ) → k < class_count D → get_or index k 0 ≡ next_fact k i (drop i D.facts)
  pub links : (j : ℕ) → i ≤ j → j < fact_count D → get_or index (class_count D + j) 0 ≡ next_fact (fact_at D j).from (j + 1) (drop (j + 1) D.facts)

-- ---- classes with a fact
-- each class that one of the first n facts is of has its bit
pub record Marked (D : Deck) (n : ℕ) (mask : List ℕ) : Type 0 where
  pub marks : (i : ℕ) → i < n → label_has mask (fact_at D i).from ≡ true

-- a class, or n for none
abbrev pub class_or : ℕ → Option ClassId → ℕ
class_or n None = n
class_or n (Some c) = c.0

-- from k on the next place, at most n, where p may hold
pub record Passed (p : ℕ → Bool) (n k j : ℕ) : Type 0 where
  pub on : k ≤ j
  pub most : j ≤ n
  pub none : (i : ℕ) → k ≤ i → i < j → p i ≡ false

-- ---- elements of rows
-- at a class one more than the element of its row's label, where that is remembered, else 0
pub record Recalled (D : Deck) (floor : List ℕ) (ls : List (List ℕ)) (known : List ℕ) : Type 0 where
  pub wide : class_count D ≤ length known
  pub place : (k : ℕ) → (get_or known k 0 ≡ 0 → ⊥) → index_of ls (row_label D floor k) ≡ get_or known k 0 - 1
  pub below : (k : ℕ) → (get_or known k 0 ≡ 0 → ⊥) → get_or known k 0 - 1 < length ls
