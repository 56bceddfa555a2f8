-- A walk over the list of edges, in its own order, decides a check over the pairs of a role word, or over the edges of a role, "by from then to".
--     pairs-fail, pairs-pass                  how it ends
--     steady                                  a demand is left open with one tag only
use Prim.Native.Nat.{ℕ, ◌<◌}
use mathlib.Core.Bool.{Bool, true, false, ◌&&◌, ◌||◌}
use mathlib.Core.Path.{◌≡◌, refl, sym, ap, ◌∙◌}
use mathlib.Core.Logic.{◌⊎◌, ⊎_elim}
use mathlib.Core.List.{List, map}
use Rattle.std.specs.Prelude.{Option, Some, None}
use Rattle.eval.specs.Lists.{any}
use Rattle.eval.proofs.ListLaws.{any_of, none-at, map-in, in_map}
use borrow.Author.Tests.{lt-ltb, eq-eqb, eqb-true}
use lib.Dec.{ltb, eqb}
use Rattle.deck.specs.Deck.{Deck, Role, role_of, role_id}
use Rattle.deck.specs.Content.{deck_of}
use Rattle.deck.specs.Sound.{Sound}
use Rattle.deck.proofs.BelowLaws.{and_left, and_right}
use Rattle.deck.specs.declared.numbers.RoleWord.{RoleWord}
use Rattle.eval.specs.declared.edges.Edge.{Edge}
use Rattle.eval.specs.declared.shape.Shape.{Shape}
use Rattle.eval.specs.declared.demand.Demand.{Demand}
use Rattle.eval.specs.declared.demand.Demand.TheVariants.{Domain, Range, Within}
use Rattle.eval.specs.declared.judgement.Construct.{Construct}
use Rattle.eval.specs.declared.judgement.Judgement.{Judgement}
use Rattle.eval.specs.declared.judgement.Judgement.TheVariants.{False, True, Unresolved}
use Rattle.eval.specs.declared.lowest.Lowest.{Lowest}
use Rattle.eval.specs.declared.verdict.Witnesses.{Witnesses}
use Rattle.eval.specs.declared.verdict.Verdict.{Verdict}
use Rattle.eval.specs.declared.verdict.Verdict.TheVariants.{Holds, Fails, UnhandledAxiom, UnhandledConcept, GuardedRoleHasEdges}
use Rattle.eval.specs.Structure.{Structure, Pair, pair, has_edge, has_pair}
use Rattle.eval.specs.Judge.{truth}
use Rattle.eval.specs.Edges.{edges_of, edges_by, turned, under, leaves, linked_by}
use Rattle.eval.specs.Lent.{Fits, structure_of}
use Rattle.eval.specs.Lowest.{before, Among, Seen}
use Rattle.eval.specs.Demand.{demand_at}
use Rattle.eval.specs.Verdict.{open_or_holds, at_pairs, three, onward, composed, guarded, is_holds}
use Rattle.eval.proofs.Clash.{clash, both_ways}
use Rattle.eval.proofs.EdgeLaws as edge-laws
use Rattle.eval.proofs.LinkLaws.{both, has-pair-is}
use Rattle.eval.proofs.LentLaws.{edge-fits, edge-has, has_listed, seen_at, pair-listed}
use Rattle.eval.proofs.Order.{pairs-least, pairs-opens, pairs-holds, onward-least, onward-holds, composed-first, composed-all, guarded-some, guarded-none}
use Rattle.eval.proofs.Tags.{open_tag, open-tag}

pub before-below : (x y u v : ℕ) → (x < u) ⊎ ((x ≡ u) × (y < v)) → before x y u v ≡ true
before-below x y u v b = ⊎_elim (λ (l : x < u). rw (lt-ltb x u l)) (λ (p : (x ≡ u) × (y < v)). later (ltb x u) (rw (eq-eqb x u p.0, lt-ltb y v p.1))) b
  where
    later : (a : Bool) → eqb x u && ltb y v ≡ true → a || (eqb x u && ltb y v) ≡ true
    later true h = refl
    later false h = h

module _ (s labels : List ℕ) (rows : List (List ℕ)) (shape : Shape) (F : Fits s labels rows shape) where
  abbrev D : Deck
  D = deck_of s

  abbrev S : Structure
  S = structure_of D labels rows shape

  abbrev es : List Edge
  es = edges_of rows shape.edges

  -- an edge of the list is one of the structure, and the other way round
  pub edge-from : (r : ℕ) (e : Edge) → Among (under D r) es e → edge-laws.Edge D S r e.from.0 e.to.0
  edge-from r e m =
      let f = edge-fits s labels rows shape F e m.member in
      record { from_in = f.from; to_in = f.to; has = edge-has s labels rows shape F r e m.member m.passes }

  -- the same of the pairs of a role word, in the list of the edges as it sees them
  word-edge-from : (r : Role) (e : Edge) → Among (under D (role_id r)) (edges_by r es) e → edge-laws.PairAt D S r e.from.0 e.to.0
  word-edge-from r e m =
      let a = in_map (turned r) e es m.member in
      rw a.2 (seen_at s labels rows shape F r a.0 a.1 (rw a.2 at m.passes))

  listed_by : (r : Role) (x y : ℕ) → has_pair D S r x y ≡ true → (e : Edge) × Among (under D (role_id r)) (edges_by r es) e × (e.from.0 ≡ x) × (e.to.0 ≡ y)
  listed_by r x y h =
      let k = pair-listed s labels rows shape F r x y h in
      (turned r k.0, record { member = map-in (turned r) k.1; passes = k.4 }, k.2, k.3)

  module _ (r : Role) (g : Pair → Judgement) (w : Pair → Witnesses) {l : Lowest} (Z : Seen (Among (under D (role_id r)) (edges_by r es)) (λ e. g (pair e.from.0 e.to.0)) l) where
    -- what holds of the edges that were met holds of the role word's pairs
    never : (j : Judgement) → ((e : Edge) → Among (under D (role_id r)) (edges_by r es) e → g (pair e.from.0 e.to.0) ≡ j → ⊥) → (x y : ℕ) → edge-laws.PairAt D S r x y → g (pair x y) ≡ j → ⊥
    never j h x y e p =
        let k = listed_by r x y e.has in
        h k.0 k.1 (rw (k.2, k.3) p)

    pub pairs-fail : (d : Edge) → l.failing ≡ Some d → Fails (w (pair d.from.0 d.to.0)) ≡ at_pairs D S r g w
    pairs-fail d h =
        let m = Z.fails d h in
        sym
        (pairs-least D S r g w d.from.0 d.to.0 (word-edge-from r d m.met) m.fails
        (λ p q e b n.
        let k = listed_by r p q e.has in
        let t = m.least k.0 k.1 (rw (k.2, k.3) n) in
        both_ways (before-below p q d.from.0 d.to.0 b) (rw (k.2, k.3) at t)))

    pairs-open : (tag : Option Construct) → ((x y : ℕ) (t : Construct) → g (pair x y) ≡ Unresolved t → Some t ≡ tag) → l.failing ≡ None → (t : Construct) → l.noted ≡ Some t → UnhandledConcept t ≡ at_pairs D S r g w
    pairs-open tag steady h t k =
        let o = Z.opens t k in
        sym
        (pairs-opens D S r g w tag (λ x y t e. steady x y t) (λ x y e. never False (Z.sound h) x y e) o.edge.from.0 o.edge.to.0 t
        (word-edge-from r o.edge o.met) o.unresolved)

    pairs-hold : l.failing ≡ None → l.noted ≡ None → Holds ≡ at_pairs D S r g w
    pairs-hold h k = sym (pairs-holds D S r g w (λ x y e. by x y e (g (pair x y)) refl))
      where
        by : (x y : ℕ) → edge-laws.PairAt D S r x y → (i : Judgement) → g (pair x y) ≡ i → g (pair x y) ≡ True
        by x y e False q = absurd (never False (Z.sound h) x y e q)
        by x y e True q = q
        by x y e (Unresolved t) q = absurd (never (Unresolved t) (λ d m u. Z.closed k d t m u) x y e q)

    pub pairs-pass : (tag : Option Construct) → ((x y : ℕ) (t : Construct) → g (pair x y) ≡ Unresolved t → Some t ≡ tag) → l.failing ≡ None → open_or_holds l.noted ≡ at_pairs D S r g w
    pairs-pass tag steady h = go l.noted refl
      where
        go : (n : Option Construct) → l.noted ≡ n → open_or_holds n ≡ at_pairs D S r g w
        go (Some t) k = pairs-open tag steady h t k
        go None k = pairs-hold h k

  -- ---- two edges, one after the other
  truth-not-false : {b : Bool} → (truth b ≡ False → ⊥) → b ≡ true
  truth-not-false {b} h = go b h
    where
      go : (b : Bool) → (truth b ≡ False → ⊥) → b ≡ true
      go true h = refl
      go false h = absurd (h refl)

  module _ (b sup x y : ℕ) {l : Lowest} (Z : Seen (Among (leaves D b y) es) (λ e. truth (has_edge D S sup x e.to.0)) l) where
    -- an edge of b from y stands in the list
    met : (z : ℕ) → has_edge D S b y z ≡ true → (e : Edge) × Among (leaves D b y) es e × (e.from.0 ≡ y) × (e.to.0 ≡ z)
    met z h =
        let k = has_listed s labels rows shape F b y z h in
        (k.edge, record { member = k.«in»; passes = both (eq-eqb k.edge.from.0 y k.from_is) k.by }, k.from_is, k.to_is)

    pub onward-fail : (d : Edge) → l.failing ≡ Some d → Fails (three x y d.to.0) ≡ onward D S b sup x y
    onward-fail d h =
        let m = Z.fails d h in
        let from = eqb d.from.0 y in
        let is_y = eqb-true d.from.0 y (and_left from _ m.met.passes) in
        let has = edge-has s labels rows shape F b d m.met.member (and_right from _ m.met.passes) in
        sym
        (onward-least D S b sup x y d.to.0 (edge-fits s labels rows shape F d m.met.member).to (rw is_y at has) (edge-laws.truth-false (has_edge D S sup x d.to.0) m.fails)
        (λ u k e. truth-not-false (λ n.
        let t = met u e in
        both_ways (before-below y u d.from.0 d.to.0 (◌⊎◌.inr (sym is_y, k))) (rw (t.2, t.3) at (m.least t.0 t.1 (rw t.3 n))))))

    pub onward-hold : l.failing ≡ None → Holds ≡ onward D S b sup x y
    onward-hold h =
        sym
        (onward-holds D S b sup x y
        (λ z k e. truth-not-false (λ n. let t = met z e in Z.sound h t.0 t.1 (rw t.3 n))))

  module _ (a b sup : ℕ) {l : Lowest} (Z : Seen (Among (under D a) es) (λ e. truth (is_holds (onward D S b sup e.from.0 e.to.0))) l) where
    holds_of : (v : Verdict) → (truth (is_holds v) ≡ False → ⊥) → v ≡ Holds
    holds_of Holds h = refl
    holds_of (Fails w) h = absurd (h refl)
    holds_of (UnhandledAxiom tag part) h = absurd (h refl)
    holds_of (UnhandledConcept tag) h = absurd (h refl)
    holds_of (GuardedRoleHasEdges r) h = absurd (h refl)

    pub composed-fail : (d : Edge) → l.failing ≡ Some d → onward D S b sup d.from.0 d.to.0 ≡ composed D S a b sup
    composed-fail d h =
        let m = Z.fails d h in
        sym
        (composed-first D S a b sup d.from.0 d.to.0 (edge-from a d m.met) (λ n. clash (cc (rw n at m.fails)))
        (λ p q e k. holds_of (onward D S b sup p q) (λ n.
        let t = has_listed s labels rows shape F a p q e.has in
        both_ways (before-below p q d.from.0 d.to.0 k) (rw (t.from_is, t.to_is) at (m.least t.edge (record { member = t.«in»; passes = t.by }) (rw (t.from_is, t.to_is) n))))))

    pub composed-hold : l.failing ≡ None → Holds ≡ composed D S a b sup
    composed-hold h =
        sym
        (composed-all D S a b sup
        (λ x y e. holds_of (onward D S b sup x y) (λ n.
        let t = has_listed s labels rows shape F a x y e.has in
        Z.sound h t.edge (record { member = t.«in»; passes = t.by }) (rw (t.from_is, t.to_is) n))))

  -- ---- is there an edge?
  module _ (r : ℕ) where
    pub guarded-hit : any (map (under D r) es) ≡ true → GuardedRoleHasEdges (record { 0 = r }) ≡ guarded D S r
    guarded-hit h =
        let e = any_of (under D r) es h in
        sym (guarded-some D S r e.0.from.0 e.0.to.0 (edge-from r e.0 (record { member = e.1; passes = e.2 })))

    pub guarded-free : any (map (under D r) es) ≡ false → Holds ≡ guarded D S r
    guarded-free h =
        sym
        (guarded-none D S r (λ x y e. let t = has_listed s labels rows shape F r x y e.has in both_ways t.by (none-at (under D r) es t.edge h t.«in»)))

-- the construct with which a demand is left open, if one is
abbrev pub demand_tag : Deck → Demand → Option Construct
demand_tag D (Domain c) = open_tag D c.0
demand_tag D (Range c) = open_tag D c.0
demand_tag D (Within r) = None

pub steady : (D : Deck) → Sound D → (S : Structure) (d : Demand) (x y : ℕ) (t : Construct) → demand_at D S d (pair x y) ≡ Unresolved t → Some t ≡ demand_tag D d
steady D W S (Domain c) x y t h = open-tag D W S c.0 x t h
steady D W S (Range c) x y t h = open-tag D W S c.0 y t h
steady D W S (Within r) x y t h = absurd (edge-laws.truth-open (has_pair D S (role_of r.0) x y) t h)

-- a pair held against a role word, by one walk over the list
pub meets-within : (D : Deck) (labels : List ℕ) (rows : List (List ℕ)) (shape : Shape) (x y : ℕ) (r : RoleWord) {d : Demand} → d ≡ Within r → {b : Bool} {j : Judgement}
    → j ≡ truth b → b ≡ linked_by D (edges_of rows shape.edges) (role_of r.0) x y → j ≡ demand_at D (structure_of D labels rows shape) d (pair x y)
meets-within D labels rows shape x y r {d} is {b} {j} t h = rw is (t ∙ ap truth (h ∙ sym (has-pair-is D labels rows shape (role_of r.0) x y)))
