-- The edges that a turn of expanding adds all leave its element, so older edges need not be looked at.
--     tail-known, tail_none, tail-after     edges from `since` on, in the lent list
use Prim.Native.Nat.{ℕ, zero, suc, ◌≤◌}
use mathlib.Core.Path.{◌≡◌, refl, sym, ap, ◌∙◌}
use mathlib.Core.Bool.{Bool, true, false, ◌||◌, ◌&&◌}
use mathlib.Core.List.{List, [], ◌∷◌, ◌++◌, map}
use native.Mathlib.Omega.{arith}
use lib.ListN.{take, drop}
use lib.Dec.{eqb}
use Rattle.deck.specs.Deck.{Deck}
use Rattle.eval.specs.Lists.{any}
use Rattle.eval.specs.declared.edges.Edge.{Edge}
use Rattle.eval.specs.Edges.{edges_of, is_edge, edge_in}
use Rattle.eval.proofs.Clash.{clash}
use Rattle.build.specs.declared.bounds.Bounds.{Bounds}
use Rattle.build.specs.declared.tally.Tally.{Tally}
use Rattle.build.specs.Push.{Step}
use Rattle.build.specs.Model.{Model, Buffers, Built}
use Rattle.build.specs.Push.{leaves_any, Tail}
use Rattle.build.proofs.PushLaws.{edges-take}

pub or-both : (a b : Bool) → (a || b) ≡ false → (a ≡ false) × (b ≡ false)
or-both true b e = clash (cc)
or-both false b e = (refl, e)

-- ---- a test of the members of a list
pub any_append : {A : Type 0} (p : A → Bool) (xs ys : List A) → any (map p xs) ≡ false → any (map p ys) ≡ false → any (map p (xs ++ ys)) ≡ false
unfolding any
any_append p [] ys e f = f
any_append p (x ∷ xs) ys e f = let o = or-both (p x) (any (map p xs)) e in rw o.0 (any_append p xs ys o.1 f)

any-drop : {A : Type 0} (p : A → Bool) (n : ℕ) (l : List A) → any (map p (take n l)) ≡ false → any (map p l) ≡ any (map p (drop n l))
unfolding any
any-drop p zero l e = refl
any-drop p (suc n) [] e = refl
any-drop p (suc n) (x ∷ xs) e = let o = or-both (p x) (any (map p (take n xs))) e in rw o.0 (any-drop p n xs o.1)

-- ---- none leaves x, so none is an edge from x
not-it : (q x y : ℕ) (e : Edge) → eqb e.from.0 x ≡ false → is_edge q x y e ≡ false
not-it q x y e w = rw w (and_none (eqb e.role.0 q))
  where
    and_none : (b : Bool) → (b && false) ≡ false
    and_none true = refl
    and_none false = refl

none_is : (q x y : ℕ) (es : List Edge) → leaves_any es x ≡ false → any (map (is_edge q x y) es) ≡ false
unfolding leaves_any any
none_is q x y [] w = refl
none_is q x y (e ∷ es) w = let o = or-both (eqb e.from.0 x) (leaves_any es x) w in rw (not-it q x y e o.0) (none_is q x y es o.1)

-- ---- in the lent list
pub tail-known : {rows : List (List ℕ)} {count since x : ℕ} → Tail rows count since x → (q y : ℕ) → edge_in (edges_of rows count) q x y ≡ any (map (is_edge q x y) (drop since (edges_of rows count)))
unfolding edge_in
tail-known {rows} {count} {since} {x} T q y =
    any-drop (is_edge q x y) since (edges_of rows count) (ap (λ (l : List Edge). any (map (is_edge q x y) l)) (sym (edges-take rows since count T.within)) ∙ none_is q x y (edges_of rows since) T.none)

pub tail_none : (rows : List (List ℕ)) (count x : ℕ) → Tail rows count 0 x
unfolding leaves_any edges_of any
tail_none rows count x = record { within = omega arith; none = refl }

-- buffers that agree up to n agree up to m
pub edges-less : (a b : List (List ℕ)) (m n : ℕ) → m ≤ n → edges_of a n ≡ edges_of b n → edges_of a m ≡ edges_of b m
edges-less a b m n h e = edges-take a m n h ∙ ap (take m) e ∙ sym (edges-take b m n h)

pub tail-after : {D : Deck} {B : Bounds} {b : Buffers} {t : Tally} {b' : Buffers} {l : List ℕ} {r : Step} {m : Model} {since x : ℕ} → Tail b.edges t.edges since x → Built D B b t b' l r m → Tail b'.edges r.tally.edges since x
tail-after {b = b} {t = t} {b' = b'} {since = since} {x = x} T X = record {
  within = omega (arith, T.within, X.left.grown);
  none = ap (λ (es : List Edge). leaves_any es x) (edges-less b'.edges b.edges since t.edges T.within X.left.old) ∙ T.none;
}
