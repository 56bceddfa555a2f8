-- What closing keeps: a tripped bound stops everything; edges are only added, at the end; what every edge that a rule asks for keeps, closing keeps.
use Prim.Native.Nat.{ℕ, ◌+◌, ◌<◌, ◌≤◌}
use mathlib.Core.Bool.{Bool, true, false, cond}
use mathlib.Core.Path.{◌≡◌, refl, sym, ap, ◌∙◌}
use mathlib.Core.Logic.{⊎_elim}
use mathlib.Core.List.Memᴰ.{append_cases}
use mathlib.Core.List.Memᴰ.{eq_of_singleton}
use mathlib.Core.List.{List, [], ◌∷◌, ◌++◌, map, append_assoc, append-nil, Memᴰ as Member}
use native.Mathlib.Omega.{arith}
use lib.ListN.{length, length-append, length-map}
use lib.Seq.{take_all}
use lib.Dec.{eqb}
use borrow.Author.Tests.{ltb-false, eqb-true}
use Rattle.deck.specs.Deck.{Deck, Axiom, role_at, role_count, has}
use Rattle.deck.proofs.BelowLaws.{and_left, and_right}
use Rattle.eval.specs.declared.edges.Edge.{Edge}
use Rattle.eval.specs.Structure.{Pair, has_edge, successors, pairs}
use Rattle.eval.specs.Edges.{edge_of, edges_of, row_of, is_edge, edge_in, goes, linked}
use Rattle.eval.specs.Lent.{EdgeFits}
use Rattle.eval.proofs.Clash.{clash}
use Rattle.eval.proofs.ListLaws.{any_at, any_of}
use Rattle.eval.proofs.LinkLaws.{both, has-edge-is}
use Rattle.eval.proofs.EdgeLaws as edge-laws
use Rattle.std.specs.Prelude.{Option, Some, None, IfSome}
use Rattle.model.specs.declared.rules.Rule.{Rule}
use Rattle.build.specs.Push.{State, edge, added, push_edge}
use Rattle.model.specs.Rules.{rule_of, RuleFits}
use Rattle.atoms.specs.Walk.{walk}
use Rattle.model.specs.Closing.{graph, join, close_from, close_rule, close_by, close_axiom, close_pass, EdgesFit}
use Rattle.atoms.proofs.WalkLaws.{walk-keeps, walk-fixed, walk-placed}

-- ---- the edges of a state
rows-edges : (es : List Edge) → map edge_of (map row_of es) ≡ es
rows-edges [] = refl
rows-edges (e ∷ es) = ap (λ l. e ∷ l) (rows-edges es)

listed : (es : List Edge) → edges_of (map row_of es) (length es) ≡ es
unfolding edges_of
listed es = rw (take_all (length es) (map row_of es) (omega (arith, length-map es row_of))) (rows-edges es)

-- one walk over the edges tests for an edge
pub linked-is : (D : Deck) (n : ℕ) (es : List Edge) (r x y : ℕ) → has_edge D (graph n es) r x y ≡ linked D es r x y
unfolding has_edge
linked-is D n es r x y = rw (listed es) at (has-edge-is D [] (map row_of es) (record { elements = n; edges = length es }) r x y)

-- what stands in a role's own bucket is an edge of the role: a role is in its own row
pub known-linked : (D : Deck) (es : List Edge) (v x z : ℕ) → has (role_at D v).sub_roles v ≡ true → edge_in es v x z ≡ true → linked D es v x z ≡ true
unfolding linked edge_in
known-linked D es v x z own h =
    let e = any_of (is_edge v x z) es h in
    let role = eqb e.0.role.0 v in
    let from = eqb e.0.from.0 x in
    let rest = and_right role _ e.2 in
    let same = eqb-true e.0.role.0 v (and_left role _ e.2) in
    any_at (goes D v x z) es e.0 e.1 (both (and_left from _ rest) (both (and_right from _ rest) (rw same own)))

pub fits_snoc : (D : Deck) (n : ℕ) (es : List Edge) (e : Edge) → EdgesFit D n es → EdgeFits D n e → EdgesFit D n (es ++ (e ∷ []))
unfolding EdgesFit
fits_snoc D n es e F f d m = ⊎_elim (F d) (λ i. let q : d ≡ e = eq_of_singleton i in rw q f) (append_cases es m)

-- an edge of edges that fit joins elements
pub linked-fits : (D : Deck) (n : ℕ) (es : List Edge) → EdgesFit D n es → (r x y : ℕ) → linked D es r x y ≡ true → (x < n) × (y < n)
unfolding linked EdgesFit
linked-fits D n es F r x y h =
    let e = any_of (goes D r x y) es h in
    let from = eqb e.0.from.0 x in
    let to = eqb e.0.to.0 y in
    let f = F e.0 e.1 in
    (rw (eqb-true e.0.from.0 x (and_left from _ e.2)) at f.from, rw (eqb-true e.0.to.0 y (and_left to _ (and_right from _ e.2))) at f.to)

pub pass-in-order : (D : Deck) (n limit : ℕ) (s : State) → close_pass D n limit s ≡ walk (close_axiom D n limit) D.axioms s
unfolding close_pass
pass-in-order D n limit s = walk-placed (Axiom.DeclareClass 0) (close_axiom D n limit) D.axioms s

module _ (D : Deck) (n limit : ℕ) where
  -- ---- one edge
  pub join-case : (Q : State → Type 0) (v x z : ℕ) (s : State) → Q s → (s.tripped ≡ false → linked D s.edges v x z ≡ false → Q (added limit (edge v x z) s)) → Q (join D n limit v x z s)
  unfolding join push_edge
  join-case Q v x z s q h = rw (linked-is D n s.edges v x z) (go (linked D s.edges v x z) refl s.tripped refl (edge_in s.edges v x z))
    where
      go : (c : Bool) → linked D s.edges v x z ≡ c → (b : Bool) → s.tripped ≡ b → (d : Bool) → Q (cond c s (cond b s (cond d s (added limit (edge v x z) s))))
      go true f b e d = q
      go false f true e d = q
      go false f false e true = q
      go false f false e false = h e f

  pub join-stuck : (v x z : ℕ) (s : State) → s.tripped ≡ true → join D n limit v x z s ≡ s
  unfolding join push_edge
  join-stuck v x z s e = go (has_edge D (graph n s.edges) v x z) s.tripped e (edge_in s.edges v x z)
    where
      go : (c b : Bool) → b ≡ true → (d : Bool) → cond c s (cond b s (cond d s (added limit (edge v x z) s))) ≡ s
      go true b q d = refl
      go false true q d = refl
      go false false q d = clash (cc)

  -- where there is an edge, and where there is none
  module _ (v x z : ℕ) (s : State) where
    pub join-known : linked D s.edges v x z ≡ true → join D n limit v x z s ≡ s
    unfolding join
    join-known h = rw (linked-is D n s.edges v x z, h)

    pub join-new : has (role_at D v).sub_roles v ≡ true → s.tripped ≡ false → linked D s.edges v x z ≡ false → join D n limit v x z s ≡ added limit (edge v x z) s
    unfolding join push_edge
    join-new own e h = rw (linked-is D n s.edges v x z, h) (go s.tripped e (edge_in s.edges v x z) refl)
      where
        go : (b : Bool) → b ≡ false → (d : Bool) → edge_in s.edges v x z ≡ d → cond b s (cond d s (added limit (edge v x z) s)) ≡ added limit (edge v x z) s
        go true q d f = clash (cc)
        go false q true f = clash (cc (known-linked D s.edges v x z own f))
        go false q false f = refl

  -- ---- a tripped bound stops everything
  pub from-stuck : (b v : ℕ) (p : Pair) (s : State) → s.tripped ≡ true → close_from D n limit b v p s ≡ s
  unfolding close_from
  from-stuck b v p s e = walk-fixed _ (successors D (graph n s.edges) b p.to) s (λ z. join-stuck v p.from z s e)

  pub rule-stuck : (a b v : ℕ) (s : State) → s.tripped ≡ true → close_rule D n limit a b v s ≡ s
  unfolding close_rule
  rule-stuck a b v s e = walk-fixed _ (pairs D (graph n s.edges) a) s (λ p. from-stuck b v p s e)

  by-stuck : (q : Option Rule) (s : State) → s.tripped ≡ true → close_by D n limit q s ≡ s
  by-stuck (Some q) s e = rule-stuck q.first.0 q.second.0 q.third.0 s e
  by-stuck None s e = refl

  pub axiom-stuck : (x : Axiom) (s : State) → s.tripped ≡ true → close_axiom D n limit x s ≡ s
  unfolding close_axiom
  axiom-stuck x s e = by-stuck (rule_of x) s e

  -- ---- what an edge that a rule asks for keeps
  -- Q is kept where the edge of a stood in s, the edge of b in u, and t is the present state
  unfoldable pub Keeps : (State → Type 0) → ℕ → ℕ → ℕ → Type 0
  Keeps Q a b v = (s u t : State) → Q s → Q u → Q t → (x y z : ℕ) → x < n → z < n → linked D s.edges a x y ≡ true → linked D u.edges b y z ≡ true
      → t.tripped ≡ false → linked D t.edges v x z ≡ false → Q (added limit (edge v x z) t)

  abbrev pub KeepsBy : (State → Type 0) → Option Rule → Type 0
  KeepsBy Q (Some q) = Keeps Q q.first.0 q.second.0 q.third.0
  KeepsBy Q None = Unit {0}

  module _ (Q : State → Type 0) where
    from-keeps : (a b v : ℕ) → Keeps Q a b v → (s u : State) → Q s → Q u → (p : Pair) → p.from < n → linked D s.edges a p.from p.to ≡ true → Q (close_from D n limit b v p u)
    unfolding close_from Keeps
    from-keeps a b v K s u qs qu p l e =
        walk-keeps Q _ (successors D (graph n u.edges) b p.to)
        (λ z m t qt.
        let w = edge-laws.in-successors D (graph n u.edges) b p.to z m in
        join-case Q v p.from z t qt (K s u t qs qu qt p.from p.to z l w.0 e (sym (linked-is D n u.edges b p.to z) ∙ w.1))) u qu

    pub rule-keeps : (a b v : ℕ) → Keeps Q a b v → (s : State) → Q s → Q (close_rule D n limit a b v s)
    unfolding close_rule
    rule-keeps a b v K s qs =
        walk-keeps Q (close_from D n limit b v) (pairs D (graph n s.edges) a)
        (λ p m u qu.
        let w = edge-laws.in_pairs D (graph n s.edges) a p m in
        from-keeps a b v K s u qs qu p w.from_in (sym (linked-is D n s.edges a p.from p.to) ∙ w.has)) s qs

    by-keeps : (q : Option Rule) → KeepsBy Q q → (s : State) → Q s → Q (close_by D n limit q s)
    by-keeps (Some q) K s qs = rule-keeps q.first.0 q.second.0 q.third.0 K s qs
    by-keeps None K s qs = qs

    pub axiom-keeps : (x : Axiom) → KeepsBy Q (rule_of x) → (s : State) → Q s → Q (close_axiom D n limit x s)
    unfolding close_axiom
    axiom-keeps x K s qs = by-keeps (rule_of x) K s qs

    pub pass-keeps : ((x : Axiom) → Member x D.axioms → KeepsBy Q (rule_of x)) → (s : State) → Q s → Q (close_pass D n limit s)
    pass-keeps K s qs = rw (pass-in-order D n limit s) (walk-keeps Q (close_axiom D n limit) D.axioms (λ x i t qt. axiom-keeps x (K x i) t qt) s qs)

-- ---- edges are only added, at the end
pub record Grows (es fs : List Edge) : Type 0 where
  pub more : List Edge
  pub is : fs ≡ es ++ more

pub grows-refl : (es : List Edge) → Grows es es
grows-refl es = record { more = []; is = sym (append-nil es) }

pub grows-trans : {es fs gs : List Edge} → Grows es fs → Grows fs gs → Grows es gs
grows-trans {es} {fs} {gs} G H = record { more = G.more ++ H.more; is = H.is ∙ ap (λ l. l ++ H.more) G.is ∙ append_assoc es G.more H.more }

pub grows-length : {es fs : List Edge} → Grows es fs → length es ≤ length fs
grows-length {es} {fs} G = omega (arith, ap length G.is ∙ length-append es G.more)

pub walk-grows : {A : Type 0} (f : A → State → State) → ((x : A) (s : State) → Grows s.edges (f x s).edges) → (xs : List A) (s : State) → Grows s.edges (walk f xs s).edges
walk-grows f h xs s = walk-keeps (λ t. Grows s.edges t.edges) f xs (λ x i t g. grows-trans g (h x t)) s (grows-refl s.edges)

-- ---- within the bound: past it only by the edge that tripped it
unfoldable pub Bound : ℕ → State → Type 0
Bound limit s = (s.tripped ≡ false → length s.edges ≤ limit) × (length s.edges ≤ limit + 1)

pub bound-added : (limit : ℕ) (e : Edge) (s : State) → s.tripped ≡ false → Bound limit s → Bound limit (added limit e s)
unfolding Bound
bound-added limit e s q b =
    let n = length-append s.edges (e ∷ []) in
    (λ w. let l : length s.edges + 1 ≤ limit = ltb-false limit (length s.edges + 1) w in omega (arith, n), omega (arith, n, b.0 q))

module _ (D : Deck) (n limit : ℕ) where
  pub join-grows : (v x z : ℕ) (s : State) → Grows s.edges (join D n limit v x z s).edges
  join-grows v x z s = join-case D n limit (λ t. Grows s.edges t.edges) v x z s (grows-refl s.edges) (λ e f. record { more = edge v x z ∷ []; is = refl })

  pub from-grows : (b v : ℕ) (p : Pair) (s : State) → Grows s.edges (close_from D n limit b v p s).edges
  unfolding close_from
  from-grows b v p s = walk-grows _ (λ z t. join-grows v p.from z t) (successors D (graph n s.edges) b p.to) s

  pub rule-grows : (a b v : ℕ) (s : State) → Grows s.edges (close_rule D n limit a b v s).edges
  unfolding close_rule
  rule-grows a b v s = walk-grows (close_from D n limit b v) (from-grows b v) (pairs D (graph n s.edges) a) s

  by-grows : (q : Option Rule) (s : State) → Grows s.edges (close_by D n limit q s).edges
  by-grows (Some q) s = rule-grows q.first.0 q.second.0 q.third.0 s
  by-grows None s = grows-refl s.edges

  pub axiom-grows : (x : Axiom) (s : State) → Grows s.edges (close_axiom D n limit x s).edges
  unfolding close_axiom
  axiom-grows x s = by-grows (rule_of x) s

  pub pass-grows : (s : State) → Grows s.edges (close_pass D n limit s).edges
  pass-grows s = rw (pass-in-order D n limit s) (walk-grows (close_axiom D n limit) axiom-grows D.axioms s)

  -- ---- within the bound
  pub bound-keeps : (q : Option Rule) → KeepsBy D n limit (Bound limit) q
  unfolding Keeps
  bound-keeps (Some q) = λ s u t bs bu bt x y z hx hz ea eb et el. bound-added limit (edge q.third.0 x z) t et bt
  bound-keeps None = tt

  pub pass-bound : (s : State) → length s.edges ≤ limit → (close_pass D n limit s).tripped ≡ false → length (close_pass D n limit s).edges ≤ limit
  unfolding Bound
  pass-bound s l = (pass-keeps D n limit (Bound limit) (λ x i. bound-keeps (rule_of x)) s (λ e. l, omega (arith, l))).0

  -- ---- every edge fits
  unfoldable pub FitState : State → Type 0
  FitState s = EdgesFit D n s.edges

  pub fits-keeps : (q : Option Rule) → IfSome q (RuleFits D) → KeepsBy D n limit FitState q
  unfolding Keeps FitState
  fits-keeps (Some q) F = λ s u t fs fu ft x y z hx hz ea eb et el. fits_snoc D n t.edges (edge q.third.0 x z) ft (record { role = F.third; from = hx; to = hz })
  fits-keeps None F = tt

  pub rule_fits : (a b v : ℕ) → v < role_count D → (s : State) → EdgesFit D n s.edges → EdgesFit D n (close_rule D n limit a b v s).edges
  unfolding Keeps FitState
  rule_fits a b v F s f =
      rule-keeps D n limit FitState a b v
      (λ s u t fs fu ft x y z hx hz ea eb et el. fits_snoc D n t.edges (edge v x z) ft (record { role = F; from = hx; to = hz })) s f

  pub from-fits : (b v : ℕ) → v < role_count D → (p : Pair) → p.from < n → (s : State) → EdgesFit D n s.edges → EdgesFit D n (close_from D n limit b v p s).edges
  unfolding close_from
  from-fits b v F p l s f =
      walk-keeps (λ t. EdgesFit D n t.edges) _ (successors D (graph n s.edges) b p.to)
      (λ z m t ft.
      join-case D n limit (λ u. EdgesFit D n u.edges) v p.from z t ft
      (λ e g. fits_snoc D n t.edges (edge v p.from z) ft (record { role = F; from = l; to = (edge-laws.in-successors D (graph n s.edges) b p.to z m).0 }))) s f

  pub pass_fits : ((x : Axiom) → Member x D.axioms → IfSome (rule_of x) (RuleFits D)) → (s : State) → EdgesFit D n s.edges → EdgesFit D n (close_pass D n limit s).edges
  unfolding FitState
  pass_fits F s f = pass-keeps D n limit FitState (λ x i. fits-keeps (rule_of x) (F x i)) s f

  pub axiom-fits : (x : Axiom) → IfSome (rule_of x) (RuleFits D) → (s : State) → EdgesFit D n s.edges → EdgesFit D n (close_axiom D n limit x s).edges
  unfolding FitState
  axiom-fits x F s f = axiom-keeps D n limit FitState x (fits-keeps (rule_of x) F) s f

-- an axiom with a rule, and one without
module _ (D : Deck) (n limit : ℕ) (x : Axiom) (s : State) where
  pub axiom-by : {q : Rule} → rule_of x ≡ Some q → close_rule D n limit q.first.0 q.second.0 q.third.0 s ≡ close_axiom D n limit x s
  unfolding close_axiom
  axiom-by q = rw q

  pub axiom-none : rule_of x ≡ None → s ≡ close_axiom D n limit x s
  unfolding close_axiom
  axiom-none q = rw q
