-- What a verdict claims is so, in every structure and under every choice.
--     claimed        both claims at once
--     holds-true     Holds: the axiom is true
--     fails-false    Fails: the axiom is false at the witnesses
-- Assumes nothing.
use Prim.Native.Nat.{ℕ, ◌<◌}
use mathlib.Core.Bool.{Bool, true, false, cond}
use mathlib.Core.Path.{◌≡◌, refl, sym, ap, ◌∙◌}
use mathlib.Core.Logic.{⊎_elim}
use mathlib.Core.List.{List, [], ◌∷◌, map}
use native.Mathlib.Omega.{arith}
use Rattle.eval.proofs.Clash.{clash, both_ways}
use lib.Dec.{eqb}
use lib.ListN.{get_or}
use borrow.Author.Tests.{eqb-true, eqb-false}
use Rattle.deck.specs.Deck.{Deck, Role, role_id, Axiom}
use Rattle.deck.specs.Sound.{Sound}
use Rattle.eval.specs.declared.judgement.Judgement.{Judgement}
use Rattle.eval.specs.declared.judgement.Judgement.TheVariants.{False, True, Unresolved}
use Rattle.eval.specs.declared.verdict.Witnesses.{Witnesses}
use Rattle.eval.specs.declared.verdict.Unhandled.TheVariants.{Inverse}
use Rattle.eval.specs.declared.verdict.Verdict.TheVariants.{Holds, Fails, UnhandledAxiom}
use Rattle.eval.specs.Lists.{any}
use Rattle.eval.specs.Structure.{Structure, elements, has_edge, has_pair, inverse, any_inverse}
use Rattle.eval.specs.Standing.{fresh}
use Rattle.eval.specs.Judge.{judge, Right, decided}
use Rattle.eval.specs.Verdict.{verdict, scan, implies, all_agree, at_most_one, equivalent, guarded, one, witnesses_of}
use Rattle.eval.specs.Truth.{Choice, ext, True as IsTrue, FalseAt}
use Rattle.eval.proofs.ListLaws.{member-at, position, none-at}
use Rattle.eval.proofs.Rightness.{right}
use Rattle.eval.proofs.VoteLaws.{agree-false, agree-true, one-false, one-true}
use Rattle.eval.proofs.ScanLaws.{scan-case, else-case, Case}
use Rattle.eval.proofs.EdgeLaws.{element-in, in-elements, named-pair, Edge, PairAt, pairs-case, within-case, composed-case, equivalent-case, guarded-case}
use Rattle.eval.proofs.Breaks.{Claims, implies_true, implies-false, right-true, right-false, at_one, at-two, at-three, at-chain, false-at, false-from, false-to}

module _ (D : Deck) (W : Sound D) (S : Structure) (χ : Choice) where
  right-at : (c e : ℕ) → Right (judge D S c e) (ext D S χ c e)
  right-at = right D W S χ

  edge : (r x y : ℕ) → x < S.size → y < S.size → has_edge D S r x y ≡ true → Edge D S r x y
  edge r x y h k e = record { from_in = h; to_in = k; has = e }

  at_pair : (r : Role) (x y : ℕ) → x < S.size → y < S.size → has_pair D S r x y ≡ true → PairAt D S r x y
  at_pair r x y h k e = record { from_in = h; to_in = k; has = e }

  -- ---- classes
  -- an outcome at each element, with a break at an element
  at-elements : (a : Axiom) (f : ℕ → Judgement)
      → ((e : ℕ) → e < S.size → f e ≡ False → FalseAt D S χ a (e ∷ []))
      → (((e : ℕ) → e < S.size → f e ≡ True) → IsTrue D S χ a)
      → Claims D S χ a (scan f one fresh (elements S))
  at-elements a f fails holds =
      scan-case f one (Claims D S χ a) (elements S) (λ e m. fails e (in-elements S e m)) (λ e t m q. tt) (λ h. holds (λ e l. h e (element-in S e l)))

  -- two judgements that are the same and decided are right of the same truth value
  same : (i j : Judgement) (x y : Bool) → Right i x → Right j y → i ≡ j → decided i ≡ true → x ≡ y
  same False j x y r s e d = r ∙ sym (right-false s (sym e))
  same True j x y r s e d = r ∙ sym (right-true s (sym e))
  same (Unresolved t) j x y r s e d = clash (cc)

  sub-class : (sub sup : ℕ) → Claims D S χ (Axiom.SubClassOf sub sup) (verdict D S (Axiom.SubClassOf sub sup))
  unfolding verdict
  sub-class sub sup =
      at-elements (Axiom.SubClassOf sub sup) (λ e. implies (judge D S sub e) (judge D S sup e))
      (λ e l q. false-at D S χ (Axiom.SubClassOf sub sup) (e ∷ []) (at_one e l (implies-false (judge D S sub e) (judge D S sup e) _ _ (right-at sub e) (right-at sup e) q)))
      (λ h ws b. implies_true (judge D S sub b.x) (judge D S sup b.x) _ _ (right-at sub b.x) (right-at sup b.x) (h b.x b.x-in) b.breaks.0 b.breaks.1)

  equivalent-classes : (l : List ℕ) → Claims D S χ (Axiom.EquivalentClasses l) (verdict D S (Axiom.EquivalentClasses l))
  unfolding verdict
  equivalent-classes l =
      at-elements (Axiom.EquivalentClasses l) (λ e. all_agree (map (λ c. judge D S c e) l))
      (λ e k q.
      let r = agree-false (λ c. judge D S c e) l q in
      false-at D S χ (Axiom.EquivalentClasses l) (e ∷ [])
      (at_one e k (record { i = r.i; j = r.j; i-in = r.i-in; j-in = r.j-in; apart = r.apart; related = (right-true (right-at _ e) r.related.0, right-false (right-at _ e) r.related.1) })))
      (λ h ws b.
      let k = b.breaks in
      let r = agree-true (λ c. judge D S c b.x) l (h b.x b.x-in) k.i k.j k.apart k.i-in k.j-in in
      both_ways k.related.0 (same _ _ _ _ (right-at (get_or l k.i 0) b.x) (right-at (get_or l k.j 0) b.x) r.0 r.1 ∙ k.related.1))

  disjoint-classes : (l : List ℕ) → Claims D S χ (Axiom.DisjointClasses l) (verdict D S (Axiom.DisjointClasses l))
  unfolding verdict
  disjoint-classes l =
      at-elements (Axiom.DisjointClasses l) (λ e. at_most_one (map (λ c. judge D S c e) l))
      (λ e k q.
      let r = one-false (λ c. judge D S c e) l q in
      false-at D S χ (Axiom.DisjointClasses l) (e ∷ [])
      (at_one e k (record { i = r.i; j = r.j; i-in = r.i-in; j-in = r.j-in; apart = r.apart; related = (right-true (right-at _ e) r.related.0, right-true (right-at _ e) r.related.1) })))
      (λ h ws b.
      let k = b.breaks in
      ⊎_elim (λ q. both_ways k.related.0 (right-false (right-at (get_or l k.i 0) b.x) q)) (λ q. both_ways k.related.1 (right-false (right-at (get_or l k.j 0) b.x) q))
      (one-true (λ c. judge D S c b.x) l (h b.x b.x-in) k.i k.j k.apart k.i-in k.j-in))

  -- ---- roles
  sub-role : (sub sup : Role) → Claims D S χ (Axiom.SubObjectPropertyOf sub sup) (verdict D S (Axiom.SubObjectPropertyOf sub sup))
  unfolding verdict any
  sub-role (Role.Inverse p) sup = tt
  sub-role (Role.Named p) (Role.Inverse q) = tt
  sub-role (Role.Named p) (Role.Named q) =
      let a = Axiom.SubObjectPropertyOf (Role.Named p) (Role.Named q) in
      within-case D S (Claims D S χ a) (Role.Named p) (Role.Named q) (λ x y e u. false-at D S χ a (x ∷ y ∷ []) (at-two x y e.from_in e.to_in (e.has, u)))
      (λ h ws b. both_ways (h b.x b.y (at_pair (Role.Named p) b.x b.y b.x-in b.y-in b.breaks.0)) b.breaks.1)

  chain-of : (l : List Role) (sup : Role) → Claims D S χ (Axiom.SubObjectPropertyChain l sup) (verdict D S (Axiom.SubObjectPropertyChain l sup))
  unfolding verdict any
  chain-of [] sup = tt
  chain-of (a ∷ []) sup = tt
  chain-of (Role.Inverse p ∷ b ∷ []) sup = tt
  chain-of (Role.Named p ∷ Role.Inverse q ∷ []) sup = tt
  chain-of (Role.Named p ∷ Role.Named q ∷ []) (Role.Inverse r) = tt
  chain-of (Role.Named p ∷ Role.Named q ∷ []) (Role.Named r) =
      let a = Axiom.SubObjectPropertyChain (Role.Named p ∷ Role.Named q ∷ []) (Role.Named r) in
      composed-case D S (Claims D S χ a) p q r
      (λ x y z e f u. false-at D S χ a (x ∷ y ∷ z ∷ []) (at-chain D S (Role.Named p) (Role.Named q) (Role.Named r) x y z e.from_in e.to_in f.to_in e.has f.has u))
      (λ h ws b.
      let x = get_or ws 0 0 in
      let y = get_or ws 1 0 in
      let z = get_or ws 2 0 in
      let n = b.long in
      let xi = b.all_in 0 (omega arith) in
      let yi = b.all_in 1 (omega arith) in
      let zi = b.all_in 2 (omega arith) in
      both_ways (h x y z (edge p x y xi yi (b.linked 0 (omega arith))) (edge q y z yi zi (b.linked 1 (omega arith)))) b.ends)
  chain-of (a ∷ b ∷ c ∷ l) sup = tt

  equivalent-roles : (l : List Role) → Claims D S χ (Axiom.EquivalentObjectProperties l) (verdict D S (Axiom.EquivalentObjectProperties l))
  unfolding verdict
  equivalent-roles l = go (any_inverse l) refl
    where
      go : (t : Bool) → any_inverse l ≡ t → Claims D S χ (Axiom.EquivalentObjectProperties l) (cond t (UnhandledAxiom 6 Inverse) (equivalent D S l))
      go true q = tt
      go false q =
          equivalent-case D S (Claims D S χ (Axiom.EquivalentObjectProperties l)) l
          (λ a b m n u x y e v.
          let i = position (Role.Named 0) a l m in
          let j = position (Role.Named 0) b l n in
          false-at D S χ (Axiom.EquivalentObjectProperties l) (x ∷ y ∷ [])
          (at-two x y e.from_in e.to_in
          (record {
            i = i.0;
            j = j.0;
            i-in = i.1;
            j-in = j.1;
            apart = λ h. eqb-false (role_id a) (role_id b) u (ap role_id (sym i.2 ∙ ap (λ (s : ℕ). get_or l s (Role.Named 0)) h ∙ j.2));
            related = (rw i.2 e.has, rw j.2 v);
          })))
          (λ h ws b.
          let k = b.breaks in
          let r = get_or l k.i (Role.Named 0) in
          let s = get_or l k.j (Role.Named 0) in
          let m = member-at (Role.Named 0) l k.i k.i-in in
          let n = member-at (Role.Named 0) l k.j k.j-in in
          other r s b.x b.y (none-at inverse l r q m) (none-at inverse l s q n) k.related.0 k.related.1
          (λ u. h r s m n u b.x b.y (at_pair r b.x b.y b.x-in b.y-in k.related.0)))
        where
          other : (r s : Role) (x y : ℕ) → inverse r ≡ false → inverse s ≡ false → has_pair D S r x y ≡ true → has_pair D S s x y ≡ false → (eqb (role_id r) (role_id s) ≡ false → has_pair D S s x y ≡ true) → ⊥
          other r s x y i j p o h = test (eqb (role_id r) (role_id s)) refl
            where
              test : (t : Bool) → eqb (role_id r) (role_id s) ≡ t → ⊥
              test true u = both_ways (rw (eqb-true (role_id r) (role_id s) u) at (sym (named-pair D S r x y i) ∙ p)) (sym (named-pair D S s x y j) ∙ o)
              test false u = both_ways (h u) o

  domain : (r : Role) (c : ℕ) → Claims D S χ (Axiom.ObjectPropertyDomain r c) (verdict D S (Axiom.ObjectPropertyDomain r c))
  unfolding verdict any
  domain (Role.Inverse r) c = tt
  domain (Role.Named r) c =
      let a = Axiom.ObjectPropertyDomain (Role.Named r) c in
      pairs-case D S (Claims D S χ a) (Role.Named r) (λ p. judge D S c p.from) (λ p. one p.from)
      (λ x y e q. false-from D S χ a x y (at-two x y e.from_in e.to_in (e.has, right-false (right-at c x) q))) (λ x y t e q. tt)
      (λ h ws b. both_ways (right-true (right-at c b.x) (h b.x b.y (at_pair (Role.Named r) b.x b.y b.x-in b.y-in b.breaks.0))) b.breaks.1)

  range-of : (r : Role) (c : ℕ) → Claims D S χ (Axiom.ObjectPropertyRange r c) (verdict D S (Axiom.ObjectPropertyRange r c))
  unfolding verdict any
  range-of (Role.Inverse r) c = tt
  range-of (Role.Named r) c =
      let a = Axiom.ObjectPropertyRange (Role.Named r) c in
      pairs-case D S (Claims D S χ a) (Role.Named r) (λ p. judge D S c p.to) (λ p. one p.to)
      (λ x y e q. false-to D S χ a x y (at-two x y e.from_in e.to_in (e.has, right-false (right-at c y) q))) (λ x y t e q. tt)
      (λ h ws b. both_ways (right-true (right-at c b.y) (h b.x b.y (at_pair (Role.Named r) b.x b.y b.x-in b.y-in b.breaks.0))) b.breaks.1)

  transitive : (r : Role) → Claims D S χ (Axiom.TransitiveRole r) (verdict D S (Axiom.TransitiveRole r))
  unfolding verdict any
  transitive (Role.Inverse r) = tt
  transitive (Role.Named r) =
      let a = Axiom.TransitiveRole (Role.Named r) in
      composed-case D S (Claims D S χ a) r r r (λ x y z e f u. false-at D S χ a (x ∷ y ∷ z ∷ []) (at-three x y z e.from_in e.to_in f.to_in (e.has, f.has, u)))
      (λ h ws b. both_ways (h b.x b.y b.z (edge r b.x b.y b.x-in b.y-in b.breaks.0) (edge r b.y b.z b.y-in b.z-in b.breaks.1)) b.breaks.2)

  symmetric : (r : Role) → Claims D S χ (Axiom.SymmetricRole r) (verdict D S (Axiom.SymmetricRole r))
  unfolding verdict any
  symmetric (Role.Inverse r) = tt
  symmetric (Role.Named r) = guarded-case D S (Claims D S χ (Axiom.SymmetricRole (Role.Named r))) r tt (λ h ws b. h b.x b.y (edge r b.x b.y b.x-in b.y-in b.breaks.0))

  inverse-roles : (p q : Role) → Claims D S χ (Axiom.InverseObjectProperties p q) (verdict D S (Axiom.InverseObjectProperties p q))
  unfolding verdict any
  inverse-roles (Role.Inverse p) q = tt
  inverse-roles (Role.Named p) (Role.Inverse q) = tt
  inverse-roles (Role.Named p) (Role.Named q) =
      let C = Claims D S χ (Axiom.InverseObjectProperties (Role.Named p) (Role.Named q)) in
      else-case C ((x y : ℕ) → Edge D S p x y → ⊥) (guarded D S p) (guarded D S q) (guarded-case D S (Case ((x y : ℕ) → Edge D S p x y → ⊥) C) p tt (λ h. h))
      (λ h. guarded-case D S C q tt
      (λ k ws b. ⊎_elim (λ u. h b.x b.y (edge p b.x b.y b.x-in b.y-in u.0)) (λ u. k b.x b.y (edge q b.x b.y b.x-in b.y-in u.0)) b.breaks))

  -- ---- every axiom
  pub claimed : (a : Axiom) → Claims D S χ a (verdict D S a)
  unfolding verdict
  claimed (Axiom.SubClassOf sub sup) = sub-class sub sup
  claimed (Axiom.EquivalentClasses l) = equivalent-classes l
  claimed (Axiom.DisjointClasses l) = disjoint-classes l
  claimed (Axiom.DisjointUnion k l) = tt
  claimed (Axiom.SubObjectPropertyOf sub sup) = sub-role sub sup
  claimed (Axiom.SubObjectPropertyChain l sup) = chain-of l sup
  claimed (Axiom.EquivalentObjectProperties l) = equivalent-roles l
  claimed (Axiom.DisjointObjectProperties l) = tt
  claimed (Axiom.InverseObjectProperties p q) = inverse-roles p q
  claimed (Axiom.ObjectPropertyDomain r c) = domain r c
  claimed (Axiom.ObjectPropertyRange r c) = range-of r c
  claimed (Axiom.TransitiveRole r) = transitive r
  claimed (Axiom.SymmetricRole r) = symmetric r
  claimed (Axiom.AsymmetricRole r) = tt
  claimed (Axiom.ReflexiveRole r) = tt
  claimed (Axiom.IrreflexiveRole r) = tt
  claimed (Axiom.FunctionalRole r) = tt
  claimed (Axiom.InverseFunctionalRole r) = tt
  claimed (Axiom.ClassAssertion c i) = tt
  claimed (Axiom.ObjectPropertyAssertion r i j) = tt
  claimed (Axiom.NegativeObjectPropertyAssertion r i j) = tt
  claimed (Axiom.SameIndividual l) = tt
  claimed (Axiom.DifferentIndividuals l) = tt
  claimed (Axiom.DeclareClass k) = λ ws b. b
  claimed (Axiom.DeclareObjectProperty r) = λ ws b. b
  claimed (Axiom.DeclareNamedIndividual i) = λ ws b. b

  pub holds-true : (a : Axiom) → verdict D S a ≡ Holds → IsTrue D S χ a
  holds-true a e = let h : Claims D S χ a Holds = rw e at (claimed a) in h

  pub fails-false : (a : Axiom) (w : Witnesses) → verdict D S a ≡ Fails w → FalseAt D S χ a (witnesses_of w)
  fails-false a w e = let h : Claims D S χ a (Fails w) = rw e at (claimed a) in h
