-- Seeding (`FiniteModel::seed`): document 01, section 2.
use Rattle.std.specs.Prelude.{ℕ, zero, suc, ◌<◌, ◌≤◌, ◌≡◌, Bool, false, cond, ◌||◌, List, [], ◌∷◌, map, length, get_or, eqb, ltb}
use Rattle.deck.specs.Deck.{Deck, Fact, class_at, class_count, has}
use Rattle.eval.specs.Lists.{any}
use Rattle.eval.specs.Lent.{label_width}
use Rattle.atoms.specs.Label.{label_has, label_of}
use Rattle.atoms.specs.Rows.{put, flat}
use Rattle.build.specs.Intern.{interned}
use Rattle.atoms.specs.Floor.{floored}

-- a class "of a fact"
unfoldable pub names : ℕ → Fact → Bool
names k f = eqb f.from k || eqb f.to k

-- "Satisfiable classes, real or of a fact"
unfoldable pub is_seeded : Deck → ℕ → Bool
is_seeded D k = cond (class_at D k).unsatisfiable false (ltb k D.real || any (map (names k) D.facts))

-- the classes of a fact
unfoldable pub ends_of : Fact → List ℕ
ends_of f = f.from ∷ f.to ∷ []

-- words that have a class which is not real exactly where a fact has it
abbrev pub Named : Deck → List ℕ → Type 0
Named D words = (k : ℕ) → D.real ≤ k → k < class_count D → label_has words k ≡ any (map (names k) D.facts)

-- "interned by row"
unfoldable pub row_label : Deck → List ℕ → ℕ → List ℕ
row_label D floor k = floored D floor (label_of (label_width D) (class_at D k).row)

-- "by rising number; equal labels are one element": the labels after the classes below k
unfoldable pub seeds : Deck → List ℕ → ℕ → List (List ℕ)
seeds D floor zero = []
seeds D floor (suc k) = cond (is_seeded D k) (interned (seeds D floor k) (row_label D floor k)) (seeds D floor k)

-- what the label in the making is left as: the last that was interned
unfoldable pub last_label : Deck → List ℕ → List ℕ → ℕ → List ℕ
last_label D floor l zero = l
last_label D floor l (suc k) = cond (is_seeded D k) (row_label D floor k) (last_label D floor l k)

-- the label in the making and the buffer after seeding, and the number of elements
pub record Seeded (D : Deck) (floor l l' entry exit : List ℕ) (elements : ℕ) : Type 0 where
  pub label : l' ≡ last_label D floor l (class_count D)
  pub buffer : exit ≡ put entry (flat (seeds D floor (class_count D)))
  pub count : elements ≡ length (seeds D floor (class_count D))

-- an element of class c: its label has d exactly when d is in c's row
pub record HasRow (D : Deck) (labels : List (List ℕ)) (c : ℕ) : Type 0 where
  pub element : ℕ
  pub below : element < length labels
  pub exact : (d : ℕ) → label_has (get_or labels element []) d ≡ has (class_at D c).row d
