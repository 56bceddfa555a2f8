-- Closing does just enough.
--     holds     after closing that trips no bound, every two-link chain axiom and every transitive axiom without inverse words holds
--     least     any assignment of pairs to roles that has the edges of before, the pairs of each role's row and what the rules ask has at least what closing left
use Prim.Native.Nat.{ℕ, zero, suc, ◌-◌, ◌<◌, ◌≤◌}
use mathlib.Core.Bool.{Bool, true, false, cond, ◌||◌}
use mathlib.Core.Path.{◌≡◌, refl, sym, ap, ◌∙◌}
use mathlib.Core.Logic.{⊎_elim}
use mathlib.Core.List.Memᴰ.{append_cases}
use mathlib.Core.List.Memᴰ.{cases_cons}
use mathlib.Core.List.Memᴰ.{eq_of_singleton}
use mathlib.Core.List.Memᴰ.{not-nil as nothing-in}
use mathlib.Core.List.{List, [], ◌∷◌, Memᴰ as Member}
use native.Mathlib.Omega.{arith}
use lib.ListN.{length, length-append}
use lib.Dec.{eqb}
use borrow.Author.Tests.{eqb-true}
use Rattle.deck.specs.Deck.{Deck, Role, Axiom, role_at, role_count, has}
use Rattle.deck.specs.Sound.{Sound}
use Rattle.deck.proofs.BelowLaws.{and_left, and_right}
use Rattle.eval.specs.declared.edges.Edge.{Edge}
use Rattle.eval.specs.Lists.{any}
use Rattle.eval.specs.Structure.{Structure, pair, has_edge, successors, pairs}
use Rattle.eval.specs.declared.verdict.Verdict.TheVariants.{Holds}
use Rattle.eval.specs.Verdict.{verdict, composed, links as eval-links}
use Rattle.eval.specs.Edges.{goes, linked, edge_in}
use Rattle.eval.proofs.Clash.{clash}
use Rattle.eval.proofs.ListLaws.{any_of}
use Rattle.eval.proofs.EdgeLaws as edge-laws
use Rattle.eval.proofs.Order.{composed-holds}
use Rattle.std.specs.Prelude.{Option, Some, None}
use Rattle.std.proofs.lemmas.Option.{same_Some}
use Rattle.model.specs.declared.rules.Rule.{Rule}
use Rattle.build.specs.Push.{State, edge, added, push_edge}
use Rattle.model.specs.Rules.{compose, links, chain_rule, rule_of}
use Rattle.atoms.specs.Walk.{walk}
use Rattle.model.specs.Closing.{graph, join, close_from, close_rule, close_axiom, close_pass, closing, close, EdgesFit}
use Rattle.atoms.proofs.WalkLaws.{walk-keeps}
use Rattle.model.proofs.RuleLaws.{rule-fits-in}
use Rattle.model.proofs.CloseLaws.{pass-in-order, linked-is, linked-fits, join-stuck, join-new, join-grows, from-stuck, from-grows, axiom-stuck, axiom-grows, axiom-by, Keeps, KeepsBy, pass-keeps, Bound, bound-keeps, fits-keeps, FitState, Grows, grows-length, walk-grows}
use Rattle.model.proofs.Passes.{ends, goes_on, close-step}

-- ---- a walk that adds nothing
-- after a trip nothing changes, and a step that adds nothing changes nothing
pub record Steady {A : Type 0} (f : A → State → State) : Type 0 where
  pub stuck : (x : A) (s : State) → s.tripped ≡ true → f x s ≡ s
  pub grows : (x : A) (s : State) → Grows s.edges (f x s).edges
  pub still : (x : A) (s : State) → s.tripped ≡ false → length (f x s).edges ≡ length s.edges → f x s ≡ s

quiet_or : (s : State) → {X : Type 0} → (s.tripped ≡ true → X) → (s.tripped ≡ false → X) → X
quiet_or s t f = go s.tripped t f
  where
    go : {X : Type 0} (b : Bool) → (b ≡ true → X) → (b ≡ false → X) → X
    go true t f = t refl
    go false t f = f refl

module _ {A : Type 0} (f : A → State → State) (S : Steady f) where
  walk-stuck : (xs : List A) (s : State) → s.tripped ≡ true → (walk f xs s).tripped ≡ true
  walk-stuck xs s e = walk-keeps (λ t. t.tripped ≡ true) f xs (λ x i t w. rw (S.stuck x t w) w) s e

  -- a walk over a list from an untripped state that adds nothing: no step of it changes anything
  walk_step : (xs : List A) (s : State) → s.tripped ≡ false → length (walk f xs s).edges ≡ length s.edges → (x : A) → Member x xs → f x s ≡ s
  unfolding walk
  walk_step [] s e l x m = absurd (nothing-in m)
  walk_step (y ∷ ys) s e l x m =
      let first : f y s ≡ s =
      S.still y s e (omega (arith, l, grows-length (S.grows y s), grows-length (walk-grows f S.grows ys (f y s)))) in
      ⊎_elim (λ (q : x ≡ y). rw q first) (λ n. walk_step ys s e (ap (λ (u : State). length (walk f ys u).edges) (sym first) ∙ l) x n) (cases_cons m)

  walk-still : (xs : List A) (s : State) → s.tripped ≡ false → length (walk f xs s).edges ≡ length s.edges → walk f xs s ≡ s
  unfolding walk
  walk-still [] s e l = refl
  walk-still (y ∷ ys) s e l =
      let first : f y s ≡ s =
      S.still y s e (omega (arith, l, grows-length (S.grows y s), grows-length (walk-grows f S.grows ys (f y s)))) in
      ap (walk f ys) first ∙ walk-still ys s e (ap (λ (u : State). length (walk f ys u).edges) (sym first) ∙ l)

module _ (D : Deck) (n limit : ℕ) where
  -- joining that adds nothing changes nothing
  join-still : (v x z : ℕ) (s : State) → length (join D n limit v x z s).edges ≡ length s.edges → join D n limit v x z s ≡ s
  unfolding join push_edge
  join-still v x z s l = go (has_edge D (graph n s.edges) v x z) s.tripped (edge_in s.edges v x z) l
    where
      go : (b c d : Bool) → length (cond b s (cond c s (cond d s (added limit (edge v x z) s)))).edges ≡ length s.edges → cond b s (cond c s (cond d s (added limit (edge v x z) s))) ≡ s
      go true c d l = refl
      go false true d l = refl
      go false false true l = refl
      go false false false l = absurd (omega (arith, l, length-append s.edges (edge v x z ∷ [])))

  join-steady : (v x : ℕ) → Steady (join D n limit v x)
  join-steady v x = record { stuck = λ z. join-stuck D n limit v x z; grows = λ z. join-grows D n limit v x z; still = λ z s e l. join-still v x z s l }

  from-steady : (b v : ℕ) → Steady (close_from D n limit b v)
  unfolding close_from
  from-steady b v = record {
    stuck = from-stuck D n limit b v;
    grows = from-grows D n limit b v;
    still = λ p s e l. walk-still (join D n limit v p.from) (join-steady v p.from) (successors D (graph n s.edges) b p.to) s e l;
  }

  axiom-still : (x : Axiom) (s : State) → s.tripped ≡ false → length (close_axiom D n limit x s).edges ≡ length s.edges → close_axiom D n limit x s ≡ s
  unfolding close_axiom close_rule
  axiom-still x s e l = go (rule_of x) refl l
    where
      go : (q : Option Rule) → rule_of x ≡ q → length (close_axiom D n limit x s).edges ≡ length s.edges → close_axiom D n limit x s ≡ s
      go (Some r) q l = rw q (walk-still (close_from D n limit r.second.0 r.third.0) (from-steady r.second.0 r.third.0) (pairs D (graph n s.edges) r.first.0) s e (rw q at l))
      go None q l = rw q

  axiom-steady : Steady (close_axiom D n limit)
  axiom-steady = record { stuck = axiom-stuck D n limit; grows = axiom-grows D n limit; still = axiom-still }

  -- ---- where a pass changes nothing, every rule's edges are there
  pass-closed : Sound D → (t : State) → t.tripped ≡ false → EdgesFit D n t.edges → length (close_pass D n limit t).edges ≡ length t.edges
      → (x : Axiom) → Member x D.axioms → (rule : Rule) → rule_of x ≡ Some rule
      → (p q r : ℕ) → linked D t.edges rule.first.0 p q ≡ true → linked D t.edges rule.second.0 q r ≡ true → linked D t.edges rule.third.0 p r ≡ true
  unfolding close_rule close_from
  pass-closed S t e F l x m rule i p q r ea eb =
      let a = rule.first in
      let b = rule.second in
      let v = rule.third in
      let G = graph n t.edges in
      let wa = linked-fits D n t.edges F a.0 p q ea in
      let wb = linked-fits D n t.edges F b.0 q r eb in
      let one : close_rule D n limit a.0 b.0 v.0 t ≡ t = axiom-by D n limit x t i ∙ walk_step (close_axiom D n limit) axiom-steady D.axioms t e (rw (pass-in-order D n limit t) at l) x m in
      let two = walk_step (close_from D n limit b.0 v.0) (from-steady b.0 v.0) (pairs D G a.0) t e (ap (λ (u : State). length u.edges) one) (pair p q)
      (edge-laws.pair-in D G a.0 p q (record { from_in = wa.0; to_in = wa.1; has = linked-is D n t.edges a.0 p q ∙ ea })) in
      let three = walk_step (join D n limit v.0 p) (join-steady v.0 p) (successors D G b.0 q) t e (ap (λ (u : State). length u.edges) two) r
      (edge-laws.successor-in D G b.0 q r wb.1 (linked-is D n t.edges b.0 q r ∙ eb)) in
      known v.0 (rw i at (rule-fits-in D S x m)).third three (linked D t.edges v.0 p r) refl
    where
      known : (v : ℕ) → v < role_count D → join D n limit v p r t ≡ t → (c : Bool) → linked D t.edges v p r ≡ c → c ≡ true
      known v h j true k = refl
      known v h j false k =
          absurd
          (omega (arith, ap (λ (u : State). length u.edges) (sym (join-new D n limit v p r t (S.roles v h).own e k) ∙ j), length-append t.edges (edge v p r ∷ [])))

  -- ---- closing ends where a pass changes nothing
  settled-now : (s : State) → (close_pass D n limit s).tripped ≡ false → ends D n limit s ≡ true → close_pass D n limit s ≡ s
  unfolding ends
  settled-now s e w =
      let same : length (close_pass D n limit s).edges ≡ length s.edges = eqb-true _ _ (rw e at w) in
      pass-in-order D n limit s ∙ walk-still (close_axiom D n limit) axiom-steady D.axioms s quiet (rw (pass-in-order D n limit s) at same)
    where
      quiet : s.tripped ≡ false
      quiet = quiet_or s (λ q. clash (cc (pass-in-order D n limit s, walk-stuck (close_axiom D n limit) axiom-steady D.axioms s q))) (λ q. q)

  Settled : State → Type 0
  Settled s = (close D n limit s).tripped ≡ false → close_pass D n limit (close D n limit s) ≡ close D n limit s

  settle : (s : State) → length s.edges ≤ limit → (ends D n limit s ≡ false → Settled (close_pass D n limit s)) → Settled s
  unfolding Settled
  settle s l ih e = go (ends D n limit s) refl (close-step D n limit s l)
    where
      go : (b : Bool) → ends D n limit s ≡ b → close D n limit s ≡ cond b (close_pass D n limit s) (close D n limit (close_pass D n limit s)) → close_pass D n limit (close D n limit s) ≡ close D n limit s
      go true w p =
          let q = settled-now s (sym (ap (λ (t : State). t.tripped) p) ∙ e) w in
          ap (close_pass D n limit) (p ∙ q) ∙ sym p
      go false w p = rw p (ih w (sym (ap (λ (t : State). t.tripped) p) ∙ e))

  settles : (turns : ℕ) (s : State) → length s.edges ≤ limit → limit - length s.edges ≤ turns → Settled s
  settles zero s l h = settle s l (λ w. absurd (let g = goes_on D n limit s l w in omega (arith, g.1, g.2)))
  settles (suc turns) s l h = settle s l (λ w. let g = goes_on D n limit s l w in settles turns (close_pass D n limit s) g.2 (omega (arith, g.1, g.2)))

  -- ---- what closing keeps
  module _ (Q : State → Type 0) (K : (x : Axiom) → Member x D.axioms → KeepsBy D n limit Q (rule_of x)) where
    closing-keeps : (turns : ℕ) (s : State) → Q s → Q (closing D n limit turns s)
    unfolding closing
    closing-keeps zero s q = q
    closing-keeps (suc turns) s q =
        go ((close_pass D n limit s).tripped || eqb (length (close_pass D n limit s).edges) (length s.edges)) (pass-keeps D n limit Q K s q) (closing-keeps turns (close_pass D n limit s))
      where
        go : (b : Bool) → Q (close_pass D n limit s) → (Q (close_pass D n limit s) → Q (closing D n limit turns (close_pass D n limit s))) → Q (cond b (close_pass D n limit s) (closing D n limit turns (close_pass D n limit s)))
        go true p ih = p
        go false p ih = ih p

    pub close-keeps : (s : State) → Q s → Q (close D n limit s)
    unfolding close
    close-keeps s q = closing-keeps (suc (limit - length s.edges)) s q

  -- closing stays within the bound
  pub close-bound : (s : State) → Bound limit s → Bound limit (close D n limit s)
  close-bound = close-keeps (Bound limit) (λ x m. bound-keeps D n limit (rule_of x))

  -- every edge fits after closing
  pub close-fits : Sound D → (s : State) → EdgesFit D n s.edges → EdgesFit D n (close D n limit s).edges
  unfolding FitState
  close-fits S s f = close-keeps (FitState D n limit) (λ x m. fits-keeps D n limit (rule_of x) (rule-fits-in D S x m)) s f

-- ---- closing stops no earlier
-- n elements with any labels, and these edges
abbrev pub over : ℕ → (ℕ → ℕ → Bool) → List Edge → Structure
over n member es = record { size = n; member = member; edge = edge_in es }

over-linked : (D : Deck) (n : ℕ) (member : ℕ → ℕ → Bool) (es : List Edge) (r x y : ℕ) → has_edge D (over n member es) r x y ≡ linked D es r x y
unfolding has_edge
over-linked D n member es r x y = linked-is D n es r x y

module _ (D : Deck) (T : Structure) where
  module _ {rule : Rule} where
    roles_of : (p q r : ℕ) → compose p q r ≡ Some rule → (p ≡ rule.first.0) × (q ≡ rule.second.0) × (r ≡ rule.third.0)
    roles_of p q r e = let s = same_Some _ _ e in (ap (λ (u : Rule). u.first.0) s, ap (λ (u : Rule). u.second.0) s, ap (λ (u : Rule). u.third.0) s)

    by-links : (p q r : Role) → links p q r ≡ Some rule → composed D T rule.first.0 rule.second.0 rule.third.0 ≡ Holds → eval-links D T p q r ≡ Holds
    unfolding any
    by-links (Role.Named p) (Role.Named q) (Role.Named r) e h = let s = roles_of p q r e in rw (s.0, s.1, s.2) h
    by-links (Role.Named p) (Role.Named q) (Role.Inverse r) e h = clash (cc)
    by-links (Role.Named p) (Role.Inverse q) r e h = clash (cc)
    by-links (Role.Inverse p) q r e h = clash (cc)

    by_chain : (l : List Role) (sup : Role) → chain_rule l sup ≡ Some rule → composed D T rule.first.0 rule.second.0 rule.third.0 ≡ Holds → verdict D T (Axiom.SubObjectPropertyChain l sup) ≡ Holds
    unfolding verdict
    by_chain [] sup e h = clash (cc)
    by_chain (p ∷ []) sup e h = clash (cc)
    by_chain (p ∷ q ∷ []) sup e h = by-links p q sup e h
    by_chain (p ∷ q ∷ r ∷ l) sup e h = clash (cc)

    by_word : (r : Role) → links r r r ≡ Some rule → composed D T rule.first.0 rule.second.0 rule.third.0 ≡ Holds → verdict D T (Axiom.TransitiveRole r) ≡ Holds
    unfolding verdict any
    by_word (Role.Named r) e h =
        let s = roles_of r r r e in
        ap (λ x. composed D T x r r) s.0 ∙ ap (λ x. composed D T rule.first.0 x r) s.1 ∙ ap (λ x. composed D T rule.first.0 rule.second.0 x) s.2 ∙ h
    by_word (Role.Inverse r) e h = clash (cc)

    by-rule : (x : Axiom) → rule_of x ≡ Some rule → composed D T rule.first.0 rule.second.0 rule.third.0 ≡ Holds → verdict D T x ≡ Holds
    unfolding rule_of
    by-rule (Axiom.SubClassOf x y) e h = clash (cc)
    by-rule (Axiom.EquivalentClasses x) e h = clash (cc)
    by-rule (Axiom.DisjointClasses x) e h = clash (cc)
    by-rule (Axiom.DisjointUnion x y) e h = clash (cc)
    by-rule (Axiom.SubObjectPropertyOf x y) e h = clash (cc)
    by-rule (Axiom.SubObjectPropertyChain l sup) e h = by_chain l sup e h
    by-rule (Axiom.EquivalentObjectProperties x) e h = clash (cc)
    by-rule (Axiom.DisjointObjectProperties x) e h = clash (cc)
    by-rule (Axiom.InverseObjectProperties x y) e h = clash (cc)
    by-rule (Axiom.ObjectPropertyDomain x y) e h = clash (cc)
    by-rule (Axiom.ObjectPropertyRange x y) e h = clash (cc)
    by-rule (Axiom.TransitiveRole r) e h = by_word r e h
    by-rule (Axiom.SymmetricRole x) e h = clash (cc)
    by-rule (Axiom.AsymmetricRole x) e h = clash (cc)
    by-rule (Axiom.ReflexiveRole x) e h = clash (cc)
    by-rule (Axiom.IrreflexiveRole x) e h = clash (cc)
    by-rule (Axiom.FunctionalRole x) e h = clash (cc)
    by-rule (Axiom.InverseFunctionalRole x) e h = clash (cc)
    by-rule (Axiom.ClassAssertion x y) e h = clash (cc)
    by-rule (Axiom.ObjectPropertyAssertion x y z) e h = clash (cc)
    by-rule (Axiom.NegativeObjectPropertyAssertion x y z) e h = clash (cc)
    by-rule (Axiom.SameIndividual x) e h = clash (cc)
    by-rule (Axiom.DifferentIndividuals x) e h = clash (cc)
    by-rule (Axiom.DeclareClass x) e h = clash (cc)
    by-rule (Axiom.DeclareObjectProperty x) e h = clash (cc)
    by-rule (Axiom.DeclareNamedIndividual x) e h = clash (cc)

module _ (D : Deck) (S : Sound D) (n limit : ℕ) (s : State) (l : length s.edges ≤ limit) (F : EdgesFit D n s.edges) (e : (close D n limit s).tripped ≡ false) where
  -- the edges that closing left are closed under every rule
  pub closed : (x : Axiom) → Member x D.axioms → (rule : Rule) → rule_of x ≡ Some rule → (p q r : ℕ)
      → linked D (close D n limit s).edges rule.first.0 p q ≡ true → linked D (close D n limit s).edges rule.second.0 q r ≡ true → linked D (close D n limit s).edges rule.third.0 p r ≡ true
  unfolding Settled
  closed = pass-closed D n limit S (close D n limit s) e (close-fits D n limit S s F) (ap (λ (u : State). length u.edges) (settles D n limit (limit - length s.edges) s l (omega arith) e))

  -- every two-link chain axiom and every transitive axiom without inverse words Holds
  pub holds : (member : ℕ → ℕ → Bool) (x : Axiom) → Member x D.axioms → (rule : Rule) → rule_of x ≡ Some rule → verdict D (over n member (close D n limit s).edges) x ≡ Holds
  holds member x m rule i =
      let T = over n member (close D n limit s).edges in
      by-rule D T x i
      (composed-holds D T rule.first.0 rule.second.0 rule.third.0
      (λ p q r k j.
      over-linked D n member (close D n limit s).edges rule.third.0 p r
      ∙ closed x m rule i p q r (sym (over-linked D n member (close D n limit s).edges rule.first.0 p q) ∙ k.has) (sym (over-linked D n member (close D n limit s).edges rule.second.0 q r) ∙ j.has)))

-- ---- closing does not overreach
-- every edge's pair is in P, under the edge's own role
unfoldable pub Inside : (ℕ → ℕ → ℕ → Type 0) → List Edge → Type 0
Inside P es = (e : Edge) → Member e es → P e.role.0 e.from.0 e.to.0

-- an assignment of pairs to roles that gives each role at least the pairs of the roles in its row, and is closed under those axioms
pub record Assignment (D : Deck) (P : ℕ → ℕ → ℕ → Type 0) : Type 0 where
  pub rows : (r q x y : ℕ) → has (role_at D r).sub_roles q ≡ true → P q x y → P r x y
  pub rules : (x : Axiom) → Member x D.axioms → (rule : Rule) → rule_of x ≡ Some rule → (p q r : ℕ) → P rule.first.0 p q → P rule.second.0 q r → P rule.third.0 p r

module _ (D : Deck) (P : ℕ → ℕ → ℕ → Type 0) (A : Assignment D P) where
  linked-inside : (es : List Edge) → Inside P es → (r x y : ℕ) → linked D es r x y ≡ true → P r x y
  unfolding linked Inside
  linked-inside es h r x y i =
      let e = any_of (goes D r x y) es i in
      let from = eqb e.0.from.0 x in
      let to = eqb e.0.to.0 y in
      let rest = and_right from _ e.2 in
      rw (eqb-true e.0.from.0 x (and_left from _ e.2), eqb-true e.0.to.0 y (and_left to _ rest)) at (A.rows r e.0.role.0 e.0.from.0 e.0.to.0 (and_right to _ rest) (h e.0 e.1))

  unfoldable InsideState : State → Type 0
  InsideState s = Inside P s.edges

  inside-keeps : (n limit : ℕ) (x : Axiom) → Member x D.axioms → (q : Option Rule) → rule_of x ≡ q → KeepsBy D n limit InsideState q
  unfolding Keeps InsideState Inside
  inside-keeps n limit x m (Some rule) i = λ s u t hs hu ht p q r lx lz ea eb et el d k.
      ⊎_elim (ht d)
      (λ w.
      let o : d ≡ edge rule.third.0 p r = eq_of_singleton w in
      rw o (A.rules x m rule i p q r (linked-inside s.edges hs rule.first.0 p q ea) (linked-inside u.edges hu rule.second.0 q r eb)))
      (append_cases t.edges k)
  inside-keeps n limit x m None i = tt

  -- such an assignment has, for every role, at least the pairs that closing left
  pub least : (n limit : ℕ) (s : State) → Inside P s.edges → (member : ℕ → ℕ → Bool) (r x y : ℕ) → has_edge D (over n member (close D n limit s).edges) r x y ≡ true → P r x y
  unfolding InsideState
  least n limit s h member r x y i =
      linked-inside (close D n limit s).edges (close-keeps D n limit InsideState (λ x m. inside-keeps n limit x m (rule_of x) refl) s h) r x y
      (sym (over-linked D n member (close D n limit s).edges r x y) ∙ i)
