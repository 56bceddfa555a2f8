-- Interning (`intern`): "equal labels are one element".
use Rattle.std.specs.Prelude.{ℕ, zero, suc, ◌≡◌, ◌<◌, cond, List, [], ◌∷◌, ◌++◌, length, ltb, Option, IfSome, IfNone}
use Rattle.deck.specs.declared.numbers.Element.{Element}
use Rattle.atoms.specs.Label.{same_label}
use Rattle.atoms.specs.Rows.{put, flat, Wide}

-- the element of a label: its first place, or the number of labels
unfoldable pub index_of : List (List ℕ) → List ℕ → ℕ
index_of [] l = zero
index_of (x ∷ xs) l = cond (same_label x l) zero (suc (index_of xs l))

-- what a search for l among the labels hands back
pub record Found (ls : List (List ℕ)) (l : List ℕ) (r : Option Element) : Type 0 where
  pub some : IfSome r (λ e. (e.0 ≡ index_of ls l) × (e.0 < length ls))
  pub none : IfNone r (index_of ls l ≡ length ls)

-- the labels with l among them, appended where it is new
unfoldable pub interned : List (List ℕ) → List ℕ → List (List ℕ)
interned ls l = cond (ltb (index_of ls l) (length ls)) ls (ls ++ (l ∷ []))

-- what interning l in the labels ls leaves in the buffer and hands back
pub record Placed (entry exit : List ℕ) (ls : List (List ℕ)) (l : List ℕ) (element elements : ℕ) : Type 0 where
  pub buffer : exit ≡ put entry (flat (interned ls l))
  pub place : element ≡ index_of ls l
  pub count : elements ≡ length (interned ls l)

-- a buffer that holds n labels of w words, and was buf₀ before
pub record Held (w : ℕ) (buf₀ buf : List ℕ) (n : ℕ) (ls : List (List ℕ)) : Type 0 where
  pub is : buf ≡ put buf₀ (flat ls)
  pub count : n ≡ length ls
  pub wide : Wide w ls
