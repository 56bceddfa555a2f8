-- The table of walks that were made before.
--     begun-size                the size of the structure that buffers hold
--     right-zeros, right-grows  a table of none; a table stays right while the structure grows
--     known-gives, known-in, gives-now    what a walk that is known gives, and leaves
--     kept_same, kept_put       what is done to the table after a walk
--     right-kept                and it is right again
--     right-reached, right-passed   after the step to a Some's target; after a walk
use Prim.Native.Nat.{ℕ, ◌+◌, ◌-◌, ◌<◌, ◌≤◌}
use mathlib.Core.Bool.{Bool, true, false}
use mathlib.Core.Path.{◌≡◌, refl, sym, ap, subst, ◌∙◌}
use mathlib.Core.List.{List}
use mathlib.Core.Logic.{⊎_elim, ◌⊎◌, inl, inr}
use native.Mathlib.Omega.{arith}
use lib.Dec.{eqb}
use lib.ListN.{length, set, replicate}
use lib.Seq.{get_or-set_same, get_or-set_other}
use borrow.Author.Tests.{eqb-true, eqb-false}
use Rattle.deck.specs.Deck.{Deck}
use Rattle.deck.specs.Content.{deck_of}
use Rattle.deck.proofs.CaseLaws.{lt-or-le}
use Rattle.eval.specs.Lent.{label_width}
use Rattle.eval.proofs.EdgeWalks.{edges-length}
use Rattle.atoms.specs.declared.reasons.Reason.{Reason}
use Rattle.atoms.specs.Walk.{walk}
use Rattle.atoms.specs.declared.reasons.Stretch.{Stretch}
use Rattle.atoms.specs.Reasons.{note}
use Rattle.atoms.specs.Occurrences.{capped, logs}
use Rattle.atoms.proofs.OccurrenceLaws.{walk-total}
use Rattle.atoms.proofs.StandingLaws.{standing-own, standing-walk, replicate-at}
use Rattle.atoms.proofs.RowLaws.{length-rows}
use Rattle.build.specs.declared.again.Walked.{Walked}
use Rattle.build.specs.declared.bounds.Bounds.{Bounds}
use Rattle.build.specs.declared.building.Build.{Build}
use Rattle.build.specs.Building.{deck_in, buffers, model_by, Ready}
use Rattle.build.specs.declared.tally.Tally.{Tally}
use Rattle.build.specs.Push.{Step}
use Rattle.build.specs.Model.{Model, Buffers, lent, begun, Prepared, Built}
use Rattle.build.specs.Exists.{reach_body, work}
use Rattle.build.specs.Again.{size_of, structure_size, LiveModel, log_of, with_log, Given, Remembers, of_total, word_of, Worded, none, walked_at, Known, Right, Marked, Kept}
use Rattle.build.proofs.BuildLaws.{built-start}
use Rattle.build.proofs.GivesLaws.{Adds, given-now, reach-body-adds, work-adds}

pub begun-size : (D : Deck) (b : Buffers) (t : Tally) → t.edges ≤ length b.edges → structure_size (begun D b t) ≡ size_of t
begun-size D b t h = omega (arith, length-rows (label_width D) t.elements b.labels, edges-length b.edges t.edges h)

-- ---- words
-- words of one structure tell concepts and elements apart
one_word : (n o e c f : ℕ) → o < 16384 → c < 16384 → word_of n o e ≡ word_of n c f → (c ≡ o) × (f ≡ e)
one_word n o e c f ho hc q = (omega (arith, ho, hc, q), omega (arith, ho, hc, q))

-- ---- a table of none
word-of-none : (n i : ℕ) → (walked_at (replicate n none) i).word ≡ 0
word-of-none n i = ap (λ (w : Walked). w.word) (replicate-at n i none)

-- ---- a table
module _ {D : Deck} {floor : List ℕ} {B : Bounds} where
  -- after more reasons
  remembers-at : {m k : Model} {o e : ℕ} {s : Stretch} (ys : List Reason) → k ≡ with_log m (walk note ys (log_of m)) → Remembers D floor B m o e s → Remembers D floor B k o e s
  remembers-at {m} {k} {o} {e} {s} ys p R =
      subst (λ (k : Model). Remembers D floor B k o e s) (sym p) (record { given = record { reasons = R.given.reasons; is = R.given.is }; standing = standing-walk ys (log_of m) R.standing })

  pub right-zeros : (n : ℕ) (m : Model) → Right D floor B (replicate n none) m
  right-zeros n m = record { again = λ i o e ho he v q. absurd (omega (arith, word-of-none n i, q)); old = λ i. omega (arith, word-of-none n i) }

  pub right-grows : {table : List Walked} {f : Model → Model} {m : Model} → Right D floor B table m → Adds f m → Right D floor B table (f m)
  right-grows {table} {f} {m} Q X = record {
    again = λ i o e ho he v q.
        ⊎_elim (λ (h : structure_size m < structure_size (f m)). absurd (omega (arith, h, q, Q.old i)))
        (λ (h : structure_size (f m) ≤ structure_size m).
        let same : structure_size (f m) ≡ structure_size m = omega (arith, h, X.up) in
        let G : Given f m = X.still same v in
        let p : f m ≡ with_log m (walk note G.reasons (log_of m)) = given-now G in
        let live : LiveModel m = sym (ap (λ (k : Model). k.state.tripped) p) ∙ v in
        remembers-at G.reasons p (Q.again i o e ho he live (q ∙ ap (λ (n : ℕ). word_of n o e) same)))
        (lt-or-le (structure_size m) (structure_size (f m)));
    old = λ i. omega (arith, Q.old i, X.up);
  }

  -- a walk that is known
  pub known-gives : {table : List Walked} (b : Buffers) {t : Tally} {o e : ℕ} {s : Stretch} → Right D floor B table (begun D b t) → t.edges ≤ length b.edges → Known table t o e s → Remembers D floor B (begun D b t) o e s
  known-gives {table} b {t} {o} {e} {s} Q h K =
      subst (Remembers D floor B (begun D b t) o e) K.given (Q.again K.place o e K.worded.concept K.worded.element refl (K.word ∙ ap (λ (n : ℕ). word_of n o e) (sym (begun-size D b t h))))

  -- what it leaves: the log g and the total n
  pub gives-now : (b : Buffers) (t : Tally) {o e : ℕ} {s : Stretch} (R : Remembers D floor B (begun D b t) o e s) {g : List ℕ} {n : ℕ} → logs g n ≡ walk note R.given.reasons (logs b.log t.reasons) → begun D (lent b.labels b.edges g) (of_total n t) ≡ work D floor B o e (begun D b t)
  gives-now b t R q = ap (with_log (begun D b t)) q ∙ sym (given-now R.given)

  -- the step to a Some's target
  pub right-reached : {table : List Walked} {b : Buffers} {t : Tally} → Right D floor B table (begun D b t) → {b₁ : Buffers} {l₁ : List ℕ} {z : Step} (r k e : ℕ)
      → Built D B b t b₁ l₁ z (reach_body D floor B r k e (begun D b t)) → z.tripped ≡ false → Right D floor B table (begun D b₁ z.tally)
  right-reached {table} {b} {t} Q r k e X w = subst (Right D floor B table) (sym (built-start X w)) (right-grows Q (reach-body-adds D floor B r k e (begun D b t)))

  -- a walk that is not made
  pub right-passed : {table : List Walked} {m k : Model} (o e : ℕ) → Right D floor B table m → k ≡ work D floor B o e m → Right D floor B table k
  right-passed {table} {m} o e Q p = subst (Right D floor B table) (sym p) (right-grows Q (work-adds D floor B o e m))

-- the same of a structure in the making
pub known-in : (a b : Build) {table : List Walked} {o e : ℕ} {s : Stretch} → Ready b → Right (deck_in a) a.plan.floor.now a.plan.bounds table (model_by a b) → Known table b.tally o e s → Remembers (deck_in a) a.plan.floor.now a.plan.bounds (model_by a b) o e s
known-in a b P R K = known-gives (buffers b) R (omega (arith, P.space.bound, P.space.room)) K

-- ---- after a walk of concept o from element e that took the tally from t to u
module _ (table : List Walked) (t u : Tally) (o e : ℕ) where
  pub kept_same : Kept table table t u o e
  kept_same = record { each = λ i. inl refl }

  pub kept_put : (at : ℕ) (w : Walked) → at < length table → t.elements ≡ u.elements → t.edges ≡ u.edges → Worded o e → w.word ≡ word_of (size_of u) o e → w.given.first ≡ t.reasons → w.given.count ≡ u.reasons - t.reasons → Kept table (set table at w) t u o e
  kept_put at w h x y W q f r = record { each = λ i. go i (eqb i at) refl }
    where
      go : (i : ℕ) (z : Bool) → eqb i at ≡ z → (walked_at (set table at w) i ≡ walked_at table i) ⊎ Marked (set table at w) i t u o e
      go i true p =
          let k : walked_at (set table at w) i ≡ w = ap (walked_at (set table at w)) (eqb-true i at p) ∙ get_or-set_same table at w none h in
          inr (record { elements = x; edges = y; worded = W; word = ap (λ (v : Walked). v.word) k ∙ q; first = ap (λ (v : Walked). v.given.first) k ∙ f; count = ap (λ (v : Walked). v.given.count) k ∙ r })
      go i false p = inl (get_or-set_other table at i w none (eqb-false i at p))

module _ {s : List ℕ} {B : Bounds} {b : Buffers} {t : Tally} {floor label : List ℕ} (P : Prepared s B b t floor label) (o e : ℕ) {b' : Buffers} {l' : List ℕ} {r : Step}
    (X : Built (deck_of s) B b t b' l' r (work (deck_of s) floor B o e (begun (deck_of s) b t))) (w : r.tripped ≡ false) where
  abbrev D : Deck
  D = deck_of s

  abbrev m : Model
  m = begun D b t

  abbrev m' : Model
  m' = begun D b' r.tally

  abbrev adds : Adds (work D floor B o e) m
  adds = work-adds D floor B o e m

  now-size : structure_size m' ≡ size_of r.tally
  now-size = begun-size D b' r.tally X.left.room

  pub more-reasons : t.reasons ≤ r.tally.reasons
  more-reasons = omega (arith, adds.more, ap (λ (k : Model). k.state.reasons) (built-start X w))

  -- where elements and edges stand, the walk gave reasons alone
  gave : t.elements ≡ r.tally.elements → t.edges ≡ r.tally.edges → Given (work D floor B o e) m
  gave x y =
      let was : structure_size m ≡ size_of t = begun-size D b t (omega (arith, P.space.bound, P.space.room)) in
      let q : structure_size m' ≡ structure_size (work D floor B o e m) = ap structure_size (built-start X w) in
      adds.still (omega (arith, q, now-size, was, x, y)) (subst LiveModel (built-start X w) refl)

  remembered : t.reasons ≤ 4294967295 → t.elements ≡ r.tally.elements → t.edges ≡ r.tally.edges → {z : Stretch} → z.first ≡ t.reasons → z.count ≡ r.tally.reasons - t.reasons → Remembers D floor B m' o e z
  remembered l x y {z} f c =
      let G = gave x y in
      let p : m' ≡ with_log m (walk note G.reasons (log_of m)) = built-start X w ∙ given-now G in
      let n : r.tally.reasons ≡ capped (t.reasons + length G.reasons) = ap (λ (k : Model). k.state.reasons) p ∙ walk-total G.reasons (log_of m) l in
      let S = standing-own G.reasons (log_of m) l f (omega (arith, c, n, l)) in
      subst (λ (k : Model). Remembers D floor B k o e z) (sym p) (record { given = record { reasons = G.reasons; is = G.is }; standing = S })

  marked-right : t.reasons ≤ 4294967295 → {now : List Walked} (i c f : ℕ) → c < 16384 → (walked_at now i).word ≡ word_of (structure_size m') c f → Marked now i t r.tally o e → Remembers D floor B m' c f (walked_at now i).given
  marked-right l {now} i c f hc q M =
      let x = one_word (size_of r.tally) o e c f M.worded.concept hc (sym M.word ∙ q ∙ ap (λ (n : ℕ). word_of n c f) now-size) in
      rw (x.0, x.1) (remembered l M.elements M.edges M.first M.count)

  pub right-kept : t.reasons ≤ 4294967295 → {was now : List Walked} → Right D floor B was m' → Kept was now t r.tally o e → Right D floor B now m'
  right-kept l {was} {now} Q K = record {
    again = λ i c f hc hf v q.
        ⊎_elim
        (λ (p : walked_at now i ≡ walked_at was i). subst (λ (k : Walked). Remembers D floor B m' c f k.given) (sym p) (Q.again i c f hc hf v (sym (ap (λ (k : Walked). k.word) p) ∙ q)))
        (λ (M : Marked now i t r.tally o e). marked-right l i c f hc q M) (K.each i);
    old = λ i. ⊎_elim (λ (p : walked_at now i ≡ walked_at was i). omega (arith, ap (λ (k : Walked). k.word) p, Q.old i)) (λ (M : Marked now i t r.tally o e). omega (arith, M.word, now-size, M.worded.concept, M.worded.element)) (K.each i);
  }
