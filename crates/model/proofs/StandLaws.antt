-- Members of EquivalentClasses that would change nothing.
--     from-passed     the pairs from a member that is passed over
--     stands-none     nothing is known
--     stands_after    the pairs from a member that fires
use Prim.Native.Nat.{ℕ, ◌+◌}
use mathlib.Core.Bool.{Bool, true, false, cond, not, ◌&&◌}
use mathlib.Core.Path.{◌≡◌, refl, sym, ap, subst, ◌∙◌}
use mathlib.Core.List.{List, [], Memᴰ as Member}
use native.Mathlib.Omega.{arith}
use lib.ListN.{get_or}
use lib.Dec.{eqb}
use borrow.Author.Tests.{eq-eqb, eqb-true, eqb-false}
use Rattle.deck.specs.declared.numbers.ConceptId.{ConceptId}
use Rattle.deck.specs.Deck.{Deck}
use Rattle.deck.specs.Content.{deck_of}
use Rattle.eval.proofs.Clash.{clash, both_true}
use Rattle.build.specs.declared.bounds.Bounds.{Bounds}
use Rattle.build.specs.declared.tally.Tally.{Tally}
use Rattle.build.specs.Push.{Step}
use Rattle.model.specs.declared.still.Still.{Still}
use Rattle.model.specs.declared.still.Still.TheVariants.{Unknown, Others, All}
use Rattle.build.specs.Model.{Model, Buffers, begun, Prepared, Built}
use Rattle.build.specs.Exists.{work}
use Rattle.build.specs.Again.{structure_size, model_size, LiveModel}
use Rattle.model.specs.Rounds.{fire, fire_pair, fire_from}
use Rattle.atoms.specs.Antecedent.{is_rule, holds_atoms}
use Rattle.model.specs.Still.{idles, Stands, passes, joined, after}
use Rattle.atoms.proofs.WalkLaws.{walk-keeps}
use Rattle.build.proofs.BuildLaws.{built-start}
use Rattle.build.proofs.IdleLaws.{either}
use Rattle.model.proofs.StillLaws.{from-grows, others-still}
use Rattle.build.proofs.AgainLaws.{begun-size}

-- ---- the counts stand
abbrev unchanged : Tally → Tally → Bool
unchanged t u = eqb t.elements u.elements && (eqb t.edges u.edges && eqb t.reasons u.reasons)

record Same (t u : Tally) : Type 0 where
  elements : t.elements ≡ u.elements
  edges : t.edges ≡ u.edges
  reasons : t.reasons ≡ u.reasons

same_of : (t u : Tally) → unchanged t u ≡ true → Same t u
same_of t u h =
    let x = both_true (eqb t.elements u.elements) (eqb t.edges u.edges && eqb t.reasons u.reasons) h in
    let y = both_true (eqb t.edges u.edges) (eqb t.reasons u.reasons) x.1 in
    record { elements = eqb-true t.elements u.elements x.0; edges = eqb-true t.edges u.edges y.0; reasons = eqb-true t.reasons u.reasons y.1 }

-- ---- members by their numbers
-- the pairs of a member that is passed over go to others, which idle
passed-idles : (s : Still) (a : ConceptId) (c : ℕ) → passes s a ≡ true → eqb a.0 c ≡ false → idles s c ≡ true
passed-idles Unknown a c p q = clash (cc)
passed-idles (Others b) a c p q = go (eqb c b.0) refl
  where
    go : (x : Bool) → eqb c b.0 ≡ x → not x ≡ true
    go true e = let k : a.0 ≡ c → ⊥ = eqb-false a.0 c q in absurd (k (eqb-true a.0 b.0 p ∙ sym (eqb-true c b.0 e)))
    go false e = refl
passed-idles All a c p q = refl

-- one more member: what idles now idled before, or is another
joined-idles : (s : Still) (a : ConceptId) (c : ℕ) → passes s a ≡ false → idles (joined s a) c ≡ true → a.0 ≡ c → idles s c ≡ true
joined-idles Unknown a c p q e = let h : eqb c a.0 ≡ true = eq-eqb c a.0 (sym e) in clash (cc)
joined-idles (Others b) a c p q e = rw (← e, p)
joined-idles All a c p q e = refl

module _ (D : Deck) (floor : List ℕ) (B : Bounds) (e : ℕ) (l : List ℕ) where
  pub from-passed : {s : Still} {m : Model} → Stands D floor B e l s m → (a : ConceptId) → passes s a ≡ true → m ≡ fire_from D floor B e l a.0 m
  unfolding fire_from fire_pair fire
  from-passed {s} {m} S a p = sym (walk-keeps (λ (k : Model). k ≡ m) (fire_pair D floor B e a.0) l (λ c i k q. ap (fire_pair D floor B e a.0 c) q ∙ pair c i (eqb a.0 c) refl) m refl)
    where
      pair : (c : ℕ) → Member c l → (x : Bool) → eqb a.0 c ≡ x → cond x m (cond (holds_atoms D (get_or m.labels e []) a.0 && is_rule D a.0) (work D floor B c e m) m) ≡ m
      pair c i true q = refl
      pair c i false q = either (holds_atoms D (get_or m.labels e []) a.0 && is_rule D a.0) (S.idle c i (passed-idles s a c p q)) refl

  pub stands-none : (m : Model) → Stands D floor B e l Unknown m
  stands-none m = record { idle = λ c i h. clash (cc) }

  -- one more member, whose pairs changed nothing
  stands-joined : {s : Still} {m : Model} → Stands D floor B e l s m → (a : ConceptId) → passes s a ≡ false → ((c : ℕ) → Member c l → (a.0 ≡ c → ⊥) → work D floor B c e m ≡ m) → Stands D floor B e l (joined s a) m
  stands-joined {s} {m} S a p others = record { idle = λ c i h. go c i h (eqb a.0 c) refl }
    where
      go : (c : ℕ) → Member c l → idles (joined s a) c ≡ true → (x : Bool) → eqb a.0 c ≡ x → work D floor B c e m ≡ m
      go c i h true q = S.idle c i (joined-idles s a c p h (eqb-true a.0 c q))
      go c i h false q = others c i (eqb-false a.0 c q)

-- ---- the pairs from member a, which fires, and was not passed over
module _ {s : List ℕ} {B : Bounds} {b : Buffers} {t : Tally} {floor label : List ℕ} (P : Prepared s B b t floor label) (e : ℕ) (l : List ℕ) (a : ConceptId) {b' : Buffers} {l' : List ℕ} {r : Step}
    (X : Built (deck_of s) B b t b' l' r (fire_from (deck_of s) floor B e l a.0 (begun (deck_of s) b t))) (w : r.tripped ≡ false) where
  abbrev D : Deck
  D = deck_of s

  abbrev m : Model
  m = begun D b t

  abbrev m' : Model
  m' = fire_from D floor B e l a.0 m

  size-stands : Same t r.tally → model_size m' ≡ model_size m
  size-stands S =
      let now : structure_size (begun D b' r.tally) ≡ r.tally.elements + r.tally.edges = begun-size D b' r.tally X.left.room in
      let was : structure_size m ≡ t.elements + t.edges = begun-size D b t (omega (arith, P.space.bound, P.space.room)) in
      let q : model_size (begun D b' r.tally) ≡ model_size m' = ap model_size (built-start X w) in
      omega (arith, q, now, was, S.elements, S.edges, S.reasons)

  live : Same t r.tally → LiveModel m'
  live S = subst LiveModel (built-start X w) refl

  model-stands : Same t r.tally → begun D b' r.tally ≡ m
  model-stands S = built-start X w ∙ (from-grows D floor B e l a.0 m).still (size-stands S) (live S)

  pub stands_after : {k : Still} → Stands D floor B e l k m → passes k a ≡ false → {f : Bool} → f ≡ (holds_atoms D (get_or m.labels e []) a.0 && is_rule D a.0) → f ≡ true
      → {same : Bool} → same ≡ unchanged t r.tally → Stands D floor B e l (after k a same) (begun D b' r.tally)
  stands_after {k} K p f y {same} q = go same q
    where
      go : (x : Bool) → x ≡ unchanged t r.tally → Stands D floor B e l (cond x (joined k a) Unknown) (begun D b' r.tally)
      go true h =
          let S = same_of t r.tally (sym h) in
          rw (model-stands S) (stands-joined D floor B e l K a p (others-still D floor B e l a.0 m (sym f ∙ y) (size-stands S) (live S)))
      go false h = stands-none D floor B e l (begun D b' r.tally)
