-- Labels found by fingerprint: what the table of seeding promises. Document 01 asks for "equal labels are one element" only.
use Rattle.std.specs.Prelude.{ℕ, zero, suc, ◌+◌, ◌*◌, ◌/◌, ◌%◌, ◌≤◌, ◌<◌, ◌≡◌, cond, List, [], length, get_or, eqb}

-- a fingerprint h takes word w of place i in
unfoldable pub mixed : ℕ → ℕ → ℕ → ℕ
mixed h i w = (h * 487559885 + w % 4294967296 * 836962823 + w / 4294967296 * 732373165 + i % 64 * 955026045) % 4294967291

-- of the first n words, those that are 0 left out
unfoldable pub print_to : List ℕ → ℕ → ℕ
print_to l zero = 0
print_to l (suc n) = cond (eqb (get_or l n 0) 0) (print_to l n) (mixed (print_to l n) n (get_or l n 0))

-- the slot of a label in a table of so many
unfoldable pub slot_of : ℕ → List ℕ → ℕ
slot_of size l = print_to l (length l) % size

-- q is one more than the last of the first n labels that has slot h, or 0
pub record Last (size : ℕ) (ls : List (List ℕ)) (h n q : ℕ) : Type 0 where
  pub low : q ≤ n
  pub none : (e : ℕ) → q ≤ e → e < n → slot_of size (get_or ls e []) ≡ h → ⊥
  pub same : (e : ℕ) → e + 1 ≡ q → slot_of size (get_or ls e []) ≡ h

-- the labels by slot: heads has the last of each slot, links the last before each label
pub record Chained (ls : List (List ℕ)) (heads links : List ℕ) : Type 0 where
  pub some : 0 < length heads
  pub head : (h : ℕ) → h < length heads → Last (length heads) ls h (length ls) (get_or heads h 0)
  pub link : (e : ℕ) → e < length ls → Last (length heads) ls (slot_of (length heads) (get_or ls e [])) e (get_or links e 0)
