-- An index of the lent list of edges by where they leave, so that a loop over the edges of one element can go from run to run.
-- A run is edges that follow one another and leave the same element. The words of an index over n elements:
--     0, 1, 2                  low and high: edges low to high - 1 are covered; how many runs there are
--     3 + x                    the number of the first run of element x, counted from 1; 0 for none
--     1 + n + 2m, 2 + n + 2m   where run m starts, and the number of the next run of the same element; 0 for none
use Rattle.std.specs.Prelude.{ℕ, ◌+◌, ◌*◌, ◌<◌, ◌≤◌, cond, ◌≡◌, List, [], Option, Some, None, length, get_or, eqb}
use Rattle.eval.specs.Edges.{edge_of}
use Rattle.eval.specs.declared.index.Walk.{Walk}

-- where edge i leaves
abbrev pub from_at : List (List ℕ) → ℕ → ℕ
from_at rows i = (edge_of (get_or rows i [])).from.0

-- no edge in [i, s) leaves x
abbrev pub Gap : List (List ℕ) → ℕ → ℕ → ℕ → Type 0
Gap rows x i s = (j : ℕ) → i ≤ j → j < s → from_at rows j ≡ x → ⊥

-- once an edge in [i, s) does not leave x, none after it does
abbrev pub Once : List (List ℕ) → ℕ → ℕ → ℕ → Type 0
Once rows x i s = (j : ℕ) → i ≤ j → j < s → (from_at rows j ≡ x → ⊥) → Gap rows x j s

-- ---- the words
abbrev pub low : List ℕ → ℕ
low index = get_or index 0 0

abbrev pub high : List ℕ → ℕ
high index = get_or index 1 0

abbrev pub used : List ℕ → ℕ
used index = get_or index 2 0

abbrev pub head : List ℕ → ℕ → ℕ
head index x = get_or index (3 + x) 0

abbrev pub start : ℕ → List ℕ → ℕ → ℕ
start n index m = get_or index (1 + n + 2 * m) 0

abbrev pub next : ℕ → List ℕ → ℕ → ℕ
next n index m = get_or index (2 + n + 2 * m) 0

-- where a run starts; with no run, where the covered edges end
abbrev pub stop : ℕ → (ℕ → ℕ) → ℕ → ℕ
stop end begins m = cond (eqb m 0) end (begins m)

abbrev pub stop_of : ℕ → List ℕ → ℕ → ℕ
stop_of n index m = stop (high index) (start n index) m

-- ---- what an index promises
-- before the first run of x no covered edge leaves x, nor between the end of a run and the next
pub record Runs (rows : List (List ℕ)) (n from to most : ℕ) (heads begins nexts : ℕ → ℕ) : Type 0 where
  pub head-fits : (x : ℕ) → x < n → heads x ≤ most
  pub head-gap : (x : ℕ) → x < n → Gap rows x from (stop to begins (heads x))
  pub begins-fit : (m : ℕ) → 0 < m → m ≤ most → begins m < to
  pub nexts-fit : (m : ℕ) → 0 < m → m ≤ most → nexts m ≤ most
  pub once : (m : ℕ) → 0 < m → m ≤ most → Once rows (from_at rows (begins m)) (begins m) (stop to begins (nexts m))

pub record Indexed (rows : List (List ℕ)) (n count : ℕ) (index : List ℕ) : Type 0 where
  pub within : high index ≤ count
  pub runs : Runs rows n (low index) (high index) (used index) (head index) (start n index) (next n index)

-- from edge i on: once a covered edge before run m does not leave x, none up to there does
pub record Ahead (rows : List (List ℕ)) (n : ℕ) (index : List ℕ) (x i m : ℕ) : Type 0 where
  pub fits : m ≤ used index
  pub once : (j : ℕ) → i ≤ j → low index ≤ j → j < stop_of n index m → (from_at rows j ≡ x → ⊥) → Gap rows x j (stop_of n index m)

-- a jump from edge i, which does not leave x, to where the walk goes on
pub record Jumped (rows : List (List ℕ)) (n count : ℕ) (index : List ℕ) (x i : ℕ) (w : Walk) : Type 0 where
  pub on : i < w.at
  pub within : w.at ≤ count
  pub gap : Gap rows x i w.at
  pub ahead : Ahead rows n index x w.at w.run

-- ---- making an index, from the last edge down
-- run h starts just after edge i, and leaves the same element
pub record Follows (rows : List (List ℕ)) (n : ℕ) (index : List ℕ) (h i : ℕ) : Type 0 where
  pub some : 0 < h
  pub after : start n index h ≡ i + 1
  pub same : from_at rows (i + 1) ≡ from_at rows i

-- edges i to count - 1 are in, and made so many runs
pub record Built (rows : List (List ℕ)) (n count i most : ℕ) (index : List ℕ) : Type 0 where
  pub room : 3 + n + 2 * most ≤ length index
  pub few : i + most ≤ count
  pub runs : Runs rows n i count most (head index) (start n index) (next n index)

-- edge i comes in, and there are so many runs, or there is no room for it
pub record Entered (rows : List (List ℕ)) (n count i : ℕ) (was is : List ℕ) (r : Option ℕ) : Type 0 where
  pub size : length is ≡ length was
  pub full : r ≡ None → is ≡ was
  pub built : (runs : ℕ) → r ≡ Some runs → Built rows n count i runs is
