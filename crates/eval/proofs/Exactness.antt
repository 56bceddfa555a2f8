-- Over plain axioms the verdict is exact, in every structure and under every choice.
--     decided-plain    the verdict is Holds or Fails
--     holds-iff        it is Holds just where the axiom is true
--     fails-iff        it is Fails, at some witnesses, just where the axiom is false
-- Assumes nothing.
use Prim.Native.Nat.{ℕ}
use mathlib.Core.Bool.{true, false, not, ◌&&◌}
use mathlib.Core.Path.{◌≡◌, refl}
use mathlib.Core.Logic.{◌↔◌}
use mathlib.Core.List.{List, [], ◌∷◌, map}
use native.Mathlib.Omega.{arith}
use Rattle.eval.proofs.Clash.{clash, both_true}
use lib.Dec.{eqb}
use lib.ListN.{length}
use borrow.Author.Tests.{eqb-true, not-true}
use Rattle.deck.specs.Deck.{Deck, Role, Axiom}
use Rattle.deck.specs.Sound.{Sound}
use Rattle.eval.specs.declared.judgement.Construct.{Construct}
use Rattle.eval.specs.declared.judgement.Judgement.{Judgement}
use Rattle.eval.specs.declared.judgement.Judgement.TheVariants.{Unresolved}
use Rattle.eval.specs.declared.verdict.Witnesses.{Witnesses}
use Rattle.eval.specs.declared.verdict.Verdict.{Verdict}
use Rattle.eval.specs.declared.verdict.Verdict.TheVariants.{Holds, Fails}
use Rattle.eval.specs.Standing.{fresh}
use Rattle.eval.specs.Lists.{any}
use Rattle.eval.specs.Structure.{Structure, elements, any_inverse}
use Rattle.eval.specs.Judge.{judge, decided}
use Rattle.eval.specs.Verdict.{verdict, scan, implies, all_agree, at_most_one, one}
use Rattle.eval.specs.Truth.{Choice, plain, plain_axiom, True as IsTrue, FalseAt}
use Rattle.eval.proofs.ListLaws.{every-at}
use Rattle.eval.proofs.Rightness.{settled}
use Rattle.eval.proofs.VoteLaws.{agree-decided, one-decided}
use Rattle.eval.proofs.ScanLaws.{scan-case}
use Rattle.eval.proofs.EdgeLaws.{pairs-case, within-case, composed-case, equivalent-case}
use Rattle.eval.proofs.Breaks.{implies-decided}
use Rattle.eval.proofs.Soundness.{holds-true, fails-false}

-- Holds or Fails
pub data Decided : Verdict → Type 0 where
  it-holds : Decided Holds
  it-fails : (w : Witnesses) → Decided (Fails w)

never-open : (j : Judgement) (t : Construct) → decided j ≡ true → j ≡ Unresolved t → ⊥
never-open j t d e = let h : false ≡ true = rw e at d in clash (cc)

module _ (D : Deck) (W : Sound D) (S : Structure) where
  at-elements : (f : ℕ → Judgement) → ((e : ℕ) → decided (f e) ≡ true) → Decided (scan f one fresh (elements S))
  at-elements f h = scan-case f one Decided (elements S) (λ e m q. it-fails (one e)) (λ e t m q. absurd (never-open (f e) t (h e) q)) (λ k. it-holds)

  chain-plain : (l : List Role) (sup : Role) → (eqb (length l) 2 && not (any_inverse (sup ∷ l))) ≡ true → Decided (verdict D S (Axiom.SubObjectPropertyChain l sup))
  unfolding verdict any
  chain-plain [] sup e = clash (cc)
  chain-plain (a ∷ []) sup e = clash (cc)
  chain-plain (Role.Named p ∷ Role.Named q ∷ []) (Role.Named r) e = composed-case D S Decided p q r (λ x y z u v w. it-fails _) (λ h. it-holds)
  chain-plain (Role.Named p ∷ Role.Named q ∷ []) (Role.Inverse r) e = clash (cc)
  chain-plain (Role.Inverse p ∷ b ∷ []) (Role.Named r) e = clash (cc)
  chain-plain (Role.Inverse p ∷ b ∷ []) (Role.Inverse r) e = clash (cc)
  chain-plain (Role.Named p ∷ Role.Inverse q ∷ []) (Role.Named r) e = clash (cc)
  chain-plain (Role.Named p ∷ Role.Inverse q ∷ []) (Role.Inverse r) e = clash (cc)
  chain-plain (a ∷ b ∷ c ∷ l) sup e = absurd (let h = eqb-true (length (a ∷ b ∷ c ∷ l)) 2 (both_true (eqb (length (a ∷ b ∷ c ∷ l)) 2) (not (any_inverse (sup ∷ a ∷ b ∷ c ∷ l))) e).0 in omega arith)

  roles-plain : (l : List Role) → not (any_inverse l) ≡ true → Decided (verdict D S (Axiom.EquivalentObjectProperties l))
  unfolding verdict
  roles-plain l e = rw (not-true (any_inverse l) e) (equivalent-case D S Decided l (λ a b m n u x y g v. it-fails _) (λ h. it-holds))

  pub decided-plain : (a : Axiom) → plain_axiom D a ≡ true → Decided (verdict D S a)
  unfolding verdict any
  decided-plain (Axiom.SubClassOf sub sup) p =
      let b = both_true (plain D sub) (plain D sup) p in
      at-elements (λ e. implies (judge D S sub e) (judge D S sup e)) (λ e. implies-decided (judge D S sub e) (judge D S sup e) (settled D W S sub b.0 e) (settled D W S sup b.1 e))
  decided-plain (Axiom.EquivalentClasses l) p =
      at-elements (λ e. all_agree (map (λ c. judge D S c e) l)) (λ e. agree-decided (λ c. judge D S c e) l (λ c m. settled D W S c (every-at (plain D) l c p m) e))
  decided-plain (Axiom.DisjointClasses l) p =
      at-elements (λ e. at_most_one (map (λ c. judge D S c e) l)) (λ e. one-decided (λ c. judge D S c e) l (λ c m. settled D W S c (every-at (plain D) l c p m) e))
  decided-plain (Axiom.DisjointUnion k l) p = clash (cc)
  decided-plain (Axiom.SubObjectPropertyOf (Role.Named r) (Role.Named s)) p = within-case D S Decided (Role.Named r) (Role.Named s) (λ x y u v. it-fails _) (λ h. it-holds)
  decided-plain (Axiom.SubObjectPropertyOf (Role.Named r) (Role.Inverse s)) p = clash (cc)
  decided-plain (Axiom.SubObjectPropertyOf (Role.Inverse r) s) p = clash (cc)
  decided-plain (Axiom.SubObjectPropertyChain l sup) p = chain-plain l sup p
  decided-plain (Axiom.EquivalentObjectProperties l) p = roles-plain l p
  decided-plain (Axiom.DisjointObjectProperties l) p = clash (cc)
  decided-plain (Axiom.InverseObjectProperties r s) p = clash (cc)
  decided-plain (Axiom.ObjectPropertyDomain (Role.Named r) c) p =
      pairs-case D S Decided (Role.Named r) (λ q. judge D S c q.from) (λ q. one q.from) (λ x y u v. it-fails _) (λ x y t u v. absurd (never-open (judge D S c x) t (settled D W S c p x) v)) (λ h. it-holds)
  decided-plain (Axiom.ObjectPropertyDomain (Role.Inverse r) c) p = clash (cc)
  decided-plain (Axiom.ObjectPropertyRange (Role.Named r) c) p =
      pairs-case D S Decided (Role.Named r) (λ q. judge D S c q.to) (λ q. one q.to) (λ x y u v. it-fails _) (λ x y t u v. absurd (never-open (judge D S c y) t (settled D W S c p y) v)) (λ h. it-holds)
  decided-plain (Axiom.ObjectPropertyRange (Role.Inverse r) c) p = clash (cc)
  decided-plain (Axiom.TransitiveRole (Role.Named r)) p = composed-case D S Decided r r r (λ x y z u v w. it-fails _) (λ h. it-holds)
  decided-plain (Axiom.TransitiveRole (Role.Inverse r)) p = clash (cc)
  decided-plain (Axiom.SymmetricRole r) p = clash (cc)
  decided-plain (Axiom.AsymmetricRole r) p = clash (cc)
  decided-plain (Axiom.ReflexiveRole r) p = clash (cc)
  decided-plain (Axiom.IrreflexiveRole r) p = clash (cc)
  decided-plain (Axiom.FunctionalRole r) p = clash (cc)
  decided-plain (Axiom.InverseFunctionalRole r) p = clash (cc)
  decided-plain (Axiom.ClassAssertion c i) p = clash (cc)
  decided-plain (Axiom.ObjectPropertyAssertion r i j) p = clash (cc)
  decided-plain (Axiom.NegativeObjectPropertyAssertion r i j) p = clash (cc)
  decided-plain (Axiom.SameIndividual l) p = clash (cc)
  decided-plain (Axiom.DifferentIndividuals l) p = clash (cc)
  decided-plain (Axiom.DeclareClass k) p = clash (cc)
  decided-plain (Axiom.DeclareObjectProperty r) p = clash (cc)
  decided-plain (Axiom.DeclareNamedIndividual i) p = clash (cc)

  module _ (χ : Choice) where
    -- false at witnesses is not true
    pub not-both : (a : Axiom) (ws : List ℕ) → FalseAt D S χ a ws → IsTrue D S χ a → ⊥
    not-both a ws f t = t f.elements f.break

    module _ (a : Axiom) (p : plain_axiom D a ≡ true) where
      pub holds-iff : (verdict D S a ≡ Holds) ↔ IsTrue D S χ a
      holds-iff = (holds-true D W S χ a, λ t. go (verdict D S a) refl (decided-plain a p) t)
        where
          go : (v : Verdict) → verdict D S a ≡ v → Decided v → IsTrue D S χ a → v ≡ Holds
          go _ q it-holds t = refl
          go _ q (it-fails w) t = absurd (not-both a _ (fails-false D W S χ a w q) t)

      pub fails-iff : ((w : Witnesses) × (verdict D S a ≡ Fails w)) ↔ (IsTrue D S χ a → ⊥)
      fails-iff = (λ f. not-both a _ (fails-false D W S χ a f.0 f.1), λ n. go (verdict D S a) refl (decided-plain a p) n)
        where
          go : (v : Verdict) → verdict D S a ≡ v → Decided v → (IsTrue D S χ a → ⊥) → (w : Witnesses) × (verdict D S a ≡ Fails w)
          go _ q it-holds n = absurd (n (holds-true D W S χ a q))
          go _ q (it-fails w) n = (w, q)
