-- The structure that lent buffers hold: its edges fit, and a walk over the list of edges meets the successors of an element.
use Prim.Native.Nat.{ℕ, ◌/◌, ◌<◌}
use mathlib.Core.Bool.{Bool, true}
use mathlib.Core.Path.{◌≡◌, refl, sym, ap, ◌∙◌}
use mathlib.Core.List.{List, [], Memᴰ as Member}
use native.Mathlib.Omega.{arith}
use borrow.Author.Tests.{eqb-true, eq-eqb}
use lib.Dec.{eqb}
use lib.ListN.{get_or}
use Rattle.deck.specs.Deck.{Deck, Role, role_of, role_id}
use Rattle.deck.specs.Content.{deck_of}
use Rattle.deck.proofs.BelowLaws.{and_left, and_right}
use Rattle.deck.proofs.SoundLaws.{sound}
use Rattle.deck.proofs.TagLaws.{role-id}
use Rattle.eval.specs.declared.edges.Edge.{Edge}
use Rattle.eval.specs.declared.shape.Shape.{Shape}
use Rattle.eval.specs.Standing.{fresh}
use Rattle.eval.specs.Structure.{Structure, elements, has_edge, has_pair, successors_of}
use Rattle.eval.specs.Edges.{edge_of, edges_of, edges_by, turned, under, leaves, goes, linked}
use Rattle.eval.specs.Judge.{judge, some_from}
use Rattle.eval.specs.Lent.{Fits, EdgeFits, structure_of}
use Rattle.eval.proofs.ListLaws.{member-at, position, keep-in, in-keep, any_at, any_of}
use Rattle.eval.proofs.EdgeLaws as edge-laws
use Rattle.eval.proofs.EdgeWalks.{no_edge, edges-length, edges_at, by-at}
use Rattle.eval.proofs.Hits.{hits, hit-in, in-hits}
use Rattle.eval.proofs.LinkLaws.{both, has-edge-is}
use Rattle.eval.proofs.Tags.{some-any}

-- does an edge leave x by a role word, and where does it lead?
abbrev pub leaves_by : Deck → Role → ℕ → Edge → Bool
leaves_by D r x e = leaves D (role_id r) x (turned r e)

abbrev pub target_by : Role → Edge → ℕ
target_by r e = (turned r e).to.0

module _ (s labels : List ℕ) (rows : List (List ℕ)) (shape : Shape) (F : Fits s labels rows shape) where
  abbrev D : Deck
  D = deck_of s

  abbrev S : Structure
  S = structure_of D labels rows shape

  abbrev es : List Edge
  es = edges_of rows shape.edges

  pub edge-fits : (e : Edge) → Member e es → EdgeFits D shape.elements e
  edge-fits e m =
      let p = position no_edge e es m in
      let l : p.0 < shape.edges = omega (arith, p.1, edges-length rows shape.edges F.count) in
      rw (sym p.2 ∙ edges_at rows shape.edges p.0 l F.count) (F.ends p.0 l)

  pub edge-of : (r x y : ℕ) → linked D es r x y ≡ true → has_edge D S r x y ≡ true
  edge-of r x y h = has-edge-is D labels rows shape r x y ∙ h

  -- an edge of the list that passes as one of r
  pub edge-has : (r : ℕ) (e : Edge) → Member e es → under D r e ≡ true → has_edge D S r e.from.0 e.to.0 ≡ true
  unfolding linked
  edge-has r e m h =
      edge-of r e.from.0 e.to.0
      (any_at (goes D r e.from.0 e.to.0) es e m (both (eq-eqb e.from.0 e.from.0 refl) (both (eq-eqb e.to.0 e.to.0 refl) h)))

  -- an edge of the structure stands in the list
  pub record Listed (r x y : ℕ) : Type 0 where
    pub edge : Edge
    pub «in» : Member edge es
    pub from_is : edge.from.0 ≡ x
    pub to_is : edge.to.0 ≡ y
    pub by : under D r edge ≡ true

  pub has_listed : (r x y : ℕ) → has_edge D S r x y ≡ true → Listed r x y
  unfolding linked
  has_listed r x y h =
      let e = any_of (goes D r x y) es (sym (has-edge-is D labels rows shape r x y) ∙ h) in
      let from = eqb e.0.from.0 x in
      let to = eqb e.0.to.0 y in
      let rest = and_right from _ e.2 in
      record {
        edge = e.0;
        «in» = e.1;
        from_is = eqb-true e.0.from.0 x (and_left from _ e.2);
        to_is = eqb-true e.0.to.0 y (and_left to _ rest);
        by = and_right to _ rest;
      }

  -- ---- the same of a role word, whose edges are turned if it is inverse
  turned-fits : (r : Role) (e : Edge) → Member e es → EdgeFits D shape.elements (turned r e)
  turned-fits (Role.Named r) e m = let f = edge-fits e m in record { role = f.role; from = f.from; to = f.to }
  turned-fits (Role.Inverse r) e m = let f = edge-fits e m in record { role = f.role; from = f.to; to = f.from }

  pair-has : (r : Role) (e : Edge) → Member e es → under D (role_id r) e ≡ true → has_pair D S r (turned r e).from.0 (turned r e).to.0 ≡ true
  pair-has (Role.Named r) e m h = edge-has r e m h
  pair-has (Role.Inverse r) e m h = edge-has r e m h

  pub seen_at : (r : Role) (e : Edge) → Member e es → under D (role_id r) e ≡ true → edge-laws.PairAt D S r (turned r e).from.0 (turned r e).to.0
  seen_at r e m h = let f = turned-fits r e m in record { from_in = f.from; to_in = f.to; has = pair-has r e m h }

  pub pair-listed : (r : Role) (x y : ℕ) → has_pair D S r x y ≡ true → (e : Edge) × Member e es × ((turned r e).from.0 ≡ x) × ((turned r e).to.0 ≡ y) × (under D (role_id r) e ≡ true)
  pair-listed (Role.Named r) x y h = let k = has_listed r x y h in (k.edge, k.«in», k.from_is, k.to_is, k.by)
  pair-listed (Role.Inverse r) x y h = let k = has_listed r y x h in (k.edge, k.«in», k.to_is, k.from_is, k.by)

  module _ (r : Role) (x : ℕ) where
    to-successor : (y : ℕ) → Member y (hits (leaves_by D r x) (target_by r) es) → Member y (successors_of D S r x)
    to-successor y m =
        let e = in-hits (leaves_by D r x) (target_by r) es y m in
        let from = eqb (turned r e.0).from.0 x in
        let f = eqb-true (turned r e.0).from.0 x (and_left from _ e.2) in
        rw e.3 (keep-in (has_pair D S r x) (elements S) (target_by r e.0) (edge-laws.element-in S (target_by r e.0) (turned-fits r e.0 e.1).to) (rw f at (pair-has r e.0 e.1 (and_right from _ e.2))))

    of-successor : (y : ℕ) → Member y (successors_of D S r x) → Member y (hits (leaves_by D r x) (target_by r) es)
    of-successor y m =
        let e = pair-listed r x y (in-keep (has_pair D S r x) (elements S) y m).1 in
        rw (← e.3) (hit-in (leaves_by D r x) (target_by r) es e.0 e.1 (both (eq-eqb (turned r e.0).from.0 x e.2) e.4))

    -- a Some may walk the edges in their own order
    pub some_walk : (b : ℕ) → some_from (judge D S b) fresh (hits (leaves_by D r x) (target_by r) es) ≡ some_from (judge D S b) fresh (successors_of D S r x)
    some_walk b = some-any D (sound s F.accepted) S b (hits (leaves_by D r x) (target_by r) es) (successors_of D S r x) to-successor of-successor

  -- edge i of the list, read as a role word sees it
  module _ (w i : ℕ) (h : i < shape.edges) {edge : Edge} (is : edge ≡ turned (role_of w) (edge_of (get_or rows i []))) where
    pub edge-under : {q : ℕ} {b : Bool} → q ≡ w / 2 → b ≡ under D q edge → under D (role_id (role_of w)) (get_or (edges_by (role_of w) es) i (turned (role_of w) no_edge)) ≡ b
    edge-under {q} {b} of p = rw (by-at (role_of w) rows shape.edges F.count i h, role-id w) (sym (rw (of, is) at p))

    pub edge-by-fits : EdgeFits D shape.elements edge
    edge-by-fits =
        let l = edges-length rows shape.edges F.count in
        rw (is ∙ ap (turned (role_of w)) (sym (edges_at rows shape.edges i h F.count))) (turned-fits (role_of w) (get_or es i no_edge) (member-at no_edge es i (omega (arith, l))))
