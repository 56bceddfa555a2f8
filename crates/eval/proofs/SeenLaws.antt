-- Going through edges one by one: what was seen of the first i, and what it says of a check over all edges of a role.
--     seen_start, seen_skip, seen_next, seen_end     a loop over the list
use Prim.Native.Nat.{ℕ, ◌+◌, ◌<◌, ◌≤◌}
use mathlib.Core.Bool.{Bool, true, false, cond, ◌&&◌, ◌||◌}
use mathlib.Core.Path.{◌≡◌, refl, sym, ap, subst, ◌∙◌}
use Rattle.std.specs.Prelude.{Option, Some, None}
use mathlib.Core.Logic.{◌⊎◌, ⊎_elim, inl, inr}
use mathlib.Core.List.Memᴰ.{append_cases}
use mathlib.Core.List.Memᴰ.{append_left}
use mathlib.Core.List.Memᴰ.{append_right}
use mathlib.Core.List.Memᴰ.{eq_of_singleton}
use mathlib.Core.List.Memᴰ.{head as here}
use mathlib.Core.List.Memᴰ.{not-nil as nothing-in}
use mathlib.Core.List.{List, [], ◌∷◌, ◌++◌}
use native.Mathlib.Omega.{arith}
use native.Mathlib.Numerals.{add-one}
use lib.ListN.{length, get_or, take}
use lib.Seq.{take-suc, take_all}
use lib.Dec.{eqb, ltb}
use borrow.Author.Tests.{ltb-true, ltb-false, eqb-true, eqb-false, le-ltb, ne_eqb, eq-eqb}
use Rattle.eval.specs.declared.edges.Edge.{Edge}
use Rattle.eval.specs.declared.judgement.Construct.{Construct}
use Rattle.eval.specs.declared.judgement.Judgement.{Judgement}
use Rattle.eval.specs.declared.judgement.Judgement.TheVariants.{False, True, Unresolved}
use Rattle.eval.specs.declared.lowest.Lowest.{Lowest}
use Rattle.eval.specs.Lowest.{nothing_yet, before, lower_of, lower, lowest_next, Among, Least, LeftOpen, Seen}
use Rattle.eval.proofs.Clash.{clash}

-- ---- the order
-- what is not before, and what is before that, are in order
before-trans : (a b c d e f : ℕ) → before c d e f ≡ true → before a b e f ≡ false → before a b c d ≡ false
before-trans a b c d e f p q =
    go (ltb c e) (eqb c e) refl refl p (ltb a e) (eqb a e) refl refl q
  where
    go : (s t : Bool) → ltb c e ≡ s → eqb c e ≡ t → s || (t && ltb d f) ≡ true → (u v : Bool) → ltb a e ≡ u → eqb a e ≡ v → u || (v && ltb b f) ≡ false → before a b c d ≡ false
    go s t i j p true v k l q = clash (cc)
    go true t i j p false v k l q =
        let x : c < e = ltb-true c e i in
        let y : e ≤ a = ltb-false a e k in
        rw (le-ltb a c (omega arith), ne_eqb a c (omega arith))
    go false false i j p false v k l q = clash (cc)
    go false true i j p false true k l q =
        let x : c ≡ e = eqb-true c e j in
        let y : a ≡ e = eqb-true a e l in
        let z : d < f = ltb-true d f p in
        let w : f ≤ b = ltb-false b f q in
        rw (le-ltb a c (omega arith), eq-eqb a c (omega arith)) (le-ltb b d (omega arith))
    go false true i j p false false k l q =
        let x : c ≡ e = eqb-true c e j in
        let y : e ≤ a = ltb-false a e k in
        rw (le-ltb a c (omega arith), ne_eqb a c (λ h. eqb-false a e l (omega arith)))

before_self : (a b : ℕ) → before a b a b ≡ false
before_self a b = rw (le-ltb a a (omega arith), le-ltb b b (omega arith), eq-eqb a a refl)

-- ---- one more edge
module _ (P Q : Edge → Type 0) (f : Edge → Judgement) (e : Edge) (keep : (x : Edge) → P x → Q x) (add : Q e) (split : (x : Edge) → Q x → P x ⊎ (x ≡ e)) (l : Lowest) (S : Seen P f l) where
  open_kept : (t : Construct) → l.noted ≡ Some t → LeftOpen Q f t
  open_kept t h = let o = S.opens t h in record { edge = o.edge; met = keep o.edge o.met; unresolved = o.unresolved }

  closed-kept : {j : Judgement} → f e ≡ j → ((t : Construct) → j ≡ Unresolved t → ⊥) → l.noted ≡ None → (x : Edge) (t : Construct) → Q x → f x ≡ Unresolved t → ⊥
  closed-kept p n h x t q u = ⊎_elim (λ m. S.closed h x t m u) (λ (i : x ≡ e). n t (sym p ∙ (rw i at u))) (split x q)

  sound-kept : {j : Judgement} → f e ≡ j → (j ≡ False → ⊥) → l.failing ≡ None → (x : Edge) → Q x → f x ≡ False → ⊥
  sound-kept p n h x q u = ⊎_elim (λ m. S.sound h x m u) (λ (i : x ≡ e). n (sym p ∙ (rw i at u))) (split x q)

  least_kept : {j : Judgement} → f e ≡ j → (j ≡ False → ⊥) → (d : Edge) → l.failing ≡ Some d → Least Q f d
  least_kept p n d h =
      let m = S.fails d h in
      record {
        met = keep d m.met;
        fails = m.fails;
        least = λ x q u. ⊎_elim (λ k. m.least x k u) (λ (i : x ≡ e). absurd (n (sym p ∙ (rw i at u)))) (split x q);
      }

  seen_true : f e ≡ True → Seen Q f l
  seen_true p = record {
    fails = least_kept p (λ i. clash (cc));
    sound = sound-kept p (λ i. clash (cc));
    opens = open_kept;
    closed = closed-kept p (λ t i. clash (cc));
  }

  seen-open : (t : Construct) → f e ≡ Unresolved t → Seen Q f (lowest_next l (Unresolved t) e)
  seen-open t p = record {
    fails = least_kept p (λ i. clash (cc));
    sound = sound-kept p (λ i. clash (cc));
    opens = λ u h. record { edge = e; met = add; unresolved = cc };
    closed = λ h. clash (cc);
  }

  -- where the lowest is now the edge d
  seen_new : f e ≡ False → (d : Edge) → Least Q f d → Seen Q f (record { failing = Some d; noted = l.noted })
  seen_new p d L = record {
    fails = λ x i. let same : d ≡ x = cc in subst (Least Q f) same L;
    sound = λ i. clash (cc);
    opens = open_kept;
    closed = closed-kept p (λ t i. clash (cc));
  }

  seen_false : f e ≡ False → Seen Q f (lower l e)
  seen_false p = seen_new p (lower_of l.failing e) (go l.failing refl)
    where
      go : (o : Option Edge) → l.failing ≡ o → Least Q f (lower_of o e)
      go None h = record {
        met = add;
        fails = p;
        least = λ x q u. ⊎_elim (λ n. absurd (S.sound h x n u)) (λ (n : x ≡ e). rw n (before_self e.from.0 e.to.0)) (split x q);
      }
      go (Some d) h = by (before e.from.0 e.to.0 d.from.0 d.to.0) refl
        where
          m : Least P f d
          m = S.fails d h

          by : (c : Bool) → before e.from.0 e.to.0 d.from.0 d.to.0 ≡ c → Least Q f (cond c e d)
          by true k = record {
            met = add;
            fails = p;
            least = λ x q u. ⊎_elim (λ n. before-trans x.from.0 x.to.0 e.from.0 e.to.0 d.from.0 d.to.0 k (m.least x n u)) (λ (n : x ≡ e). rw n (before_self e.from.0 e.to.0)) (split x q);
          }
          by false k = record {
            met = keep d m.met;
            fails = m.fails;
            least = λ x q u. ⊎_elim (λ n. m.least x n u) (λ (n : x ≡ e). rw n k) (split x q);
          }

  seen_more : {j : Judgement} → j ≡ f e → Seen Q f (lowest_next l j e)
  seen_more {j} p = go j p
    where
      go : (j : Judgement) → j ≡ f e → Seen Q f (lowest_next l j e)
      go False p = seen_false (sym p)
      go True p = seen_true (sym p)
      go (Unresolved t) p = seen-open t (sym p)

-- ---- a loop over the list
module _ (hit : Edge → Bool) (f : Edge → Judgement) (es : List Edge) where
  -- what was seen of the first i edges
  abbrev pub SeenTo : ℕ → Lowest → Type 0
  SeenTo i l = Seen (Among hit (take i es)) f l

  pub seen_start : SeenTo 0 nothing_yet
  seen_start = record {
    fails = λ d h. clash (cc);
    sound = λ h x m u. absurd (nothing-in m.member);
    opens = λ t h. clash (cc);
    closed = λ h x t m u. absurd (nothing-in m.member);
  }

  pub seen_end : (i : ℕ) {l : Lowest} → length es ≤ i → SeenTo i l → Seen (Among hit es) f l
  seen_end i {l} h S = rw (take_all i es h) at S

  module _ (d : Edge) (i : ℕ) (h : i < length es) where
    longer : take (i + 1) es ≡ take i es ++ (get_or es i d ∷ [])
    longer = rw (add-one i) (take-suc es i d h)

    kept : (x : Edge) → Among hit (take i es) x → Among hit (take (i + 1) es) x
    kept x m = record { member = rw longer (append_left (get_or es i d ∷ []) m.member); passes = m.passes }

    split : (x : Edge) → Among hit (take (i + 1) es) x → Among hit (take i es) x ⊎ (x ≡ get_or es i d)
    split x m = ⊎_elim (λ n. inl (record { member = n; passes = m.passes })) (λ n. inr (eq_of_singleton n)) (append_cases (take i es) (rw longer at m.member))

    -- an edge that does not count
    pub seen_skip : {l : Lowest} → hit (get_or es i d) ≡ false → SeenTo i l → SeenTo (i + 1) l
    seen_skip {l} n S =
        let old : (x : Edge) → Among hit (take (i + 1) es) x → Among hit (take i es) x = λ x m. ⊎_elim (λ k. k) (λ (e : x ≡ get_or es i d). clash (cc (ap hit e, m.passes))) (split x m) in
        record {
          fails = λ e t. let m = S.fails e t in record { met = kept e m.met; fails = m.fails; least = λ x q u. m.least x (old x q) u };
          sound = λ t x q u. S.sound t x (old x q) u;
          opens = λ u t. let o = S.opens u t in record { edge = o.edge; met = kept o.edge o.met; unresolved = o.unresolved };
          closed = λ t x u q v. S.closed t x u (old x q) v;
        }

    -- an edge that counts
    pub seen_next : {l : Lowest} {j : Judgement} → hit (get_or es i d) ≡ true → j ≡ f (get_or es i d) → SeenTo i l → SeenTo (i + 1) (lowest_next l j (get_or es i d))
    seen_next {l} {j} y p S =
        seen_more (Among hit (take i es)) (Among hit (take (i + 1) es)) f (get_or es i d) kept
        (record { member = rw longer (append_right (take i es) (here refl)); passes = y }) split l S p
