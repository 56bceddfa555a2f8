-- The edges of a role in a lent structure: sub-roles' buckets, or one walk over the list with a test of the role.
use Prim.Native.Nat.{ℕ, ◌/◌}
use mathlib.Core.Bool.{Bool, true, false, ◌&&◌, ◌||◌}
use mathlib.Core.Path.{◌≡◌, refl, sym}
use mathlib.Core.Logic.{⊎_elim}
use mathlib.Core.List.Memᴰ.{cases_cons}
use mathlib.Core.List.Memᴰ.{head as here}
use mathlib.Core.List.Memᴰ.{not-nil as nothing-in}
use mathlib.Core.List.Memᴰ.{tail as there}
use mathlib.Core.List.{List, [], ◌∷◌, map, Memᴰ as Member}
use native.Mathlib.Omega.{arith}
use borrow.Author.Tests.{eqb-true, eq-eqb}
use lib.Dec.{eqb}
use Rattle.deck.specs.Numbers.{inverse_word}
use Rattle.deck.specs.Deck.{Deck, Role, role_of, role_at, has}
use Rattle.deck.proofs.BelowLaws.{and_left, and_right}
use Rattle.eval.specs.declared.edges.Edge.{Edge}
use Rattle.eval.specs.declared.shape.Shape.{Shape}
use Rattle.eval.specs.Lists.{any}
use Rattle.eval.specs.Structure.{has_edge, has_pair}
use Rattle.eval.specs.Edges.{edges_of, is_edge, edge_in, goes, linked, linked_by}
use Rattle.eval.specs.Lent.{structure_of}
use Rattle.eval.proofs.ListLaws.{any_at, any_of}

pub same_truth : (a b : Bool) → (a ≡ true → b ≡ true) → (b ≡ true → a ≡ true) → a ≡ b
same_truth true b f g = sym (f refl)
same_truth false true f g = g refl
same_truth false false f g = refl

pub both : {a b : Bool} → a ≡ true → b ≡ true → a && b ≡ true
both p q = rw p q

pub has_in : (x : ℕ) (l : List ℕ) → Member x l → has l x ≡ true
unfolding has
has_in x [] m = absurd (nothing-in m)
has_in x (y ∷ ys) m = ⊎_elim (λ (e : x ≡ y). rw (eq-eqb y x (sym e))) (λ (n : Member x ys). later (eqb y x) (has_in x ys n)) (cases_cons m)
  where
    later : (b : Bool) → has ys x ≡ true → b || has ys x ≡ true
    later true h = refl
    later false h = h

pub in-has : (x : ℕ) (l : List ℕ) → has l x ≡ true → Member x l
unfolding has
in-has x [] h = let z : ◌≡◌ {A = ℕ} 0 1 = cc in absurd (omega arith)
in-has x (y ∷ ys) h = go (eqb y x) refl h (in-has x ys)
  where
    go : (b : Bool) → eqb y x ≡ b → b || has ys x ≡ true → (has ys x ≡ true → Member x ys) → Member x (y ∷ ys)
    go true e t ih = here (sym (eqb-true y x e))
    go false e t ih = there (ih t)

module _ (D : Deck) (es : List Edge) (r x y : ℕ) where
  to-linked : any (map (λ q. edge_in es q x y) (role_at D r).sub_roles) ≡ true → linked D es r x y ≡ true
  unfolding linked edge_in
  to-linked h =
      let q = any_of (λ q. edge_in es q x y) (role_at D r).sub_roles h in
      let e = any_of (is_edge q.0 x y) es q.2 in
      let role = eqb e.0.role.0 q.0 in
      let from = eqb e.0.from.0 x in
      let rest = and_right role _ e.2 in
      let same = eqb-true e.0.role.0 q.0 (and_left role _ e.2) in
      any_at (goes D r x y) es e.0 e.1
      (both (and_left from _ rest) (both (and_right from _ rest) (rw same (has_in q.0 (role_at D r).sub_roles q.1))))

  of-linked : linked D es r x y ≡ true → any (map (λ q. edge_in es q x y) (role_at D r).sub_roles) ≡ true
  unfolding linked edge_in
  of-linked h =
      let e = any_of (goes D r x y) es h in
      let from = eqb e.0.from.0 x in
      let rest = and_right from _ e.2 in
      let to = eqb e.0.to.0 y in
      let q = e.0.role.0 in
      any_at (λ q. edge_in es q x y) (role_at D r).sub_roles q (in-has q (role_at D r).sub_roles (and_right to _ rest))
      (any_at (is_edge q x y) es e.0 e.1 (both (eq-eqb q q refl) (both (and_left from _ e.2) (and_left to _ rest))))

-- one walk over the list of edges finds an edge of r
pub has-edge-is : (D : Deck) (labels : List ℕ) (rows : List (List ℕ)) (shape : Shape) (r x y : ℕ)
    → has_edge D (structure_of D labels rows shape) r x y ≡ linked D (edges_of rows shape.edges) r x y
unfolding has_edge
has-edge-is D labels rows shape r x y = same_truth _ _ (to-linked D (edges_of rows shape.edges) r x y) (of-linked D (edges_of rows shape.edges) r x y)

-- the same of a role word
pub has-pair-is : (D : Deck) (labels : List ℕ) (rows : List (List ℕ)) (shape : Shape) (r : Role) (x y : ℕ)
    → has_pair D (structure_of D labels rows shape) r x y ≡ linked_by D (edges_of rows shape.edges) r x y
has-pair-is D labels rows shape (Role.Named r) x y = has-edge-is D labels rows shape r x y
has-pair-is D labels rows shape (Role.Inverse r) x y = has-edge-is D labels rows shape r y x

module _ (D : Deck) (es : List Edge) (w x y : ℕ) where
  pub linked-inverse : inverse_word w ≡ true → linked D es (w / 2) y x ≡ linked_by D es (role_of w) x y
  linked-inverse h = rw h

  pub linked-named : inverse_word w ≡ false → linked D es (w / 2) x y ≡ linked_by D es (role_of w) x y
  linked-named h = rw h
