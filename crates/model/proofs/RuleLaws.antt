-- The rule of an axiom: by its tag and role words, and its roles are in range.
use Prim.Native.Nat.{ℕ, ◌<◌}
use mathlib.Core.Path.{◌≡◌, refl, ap, ◌∙◌}
use mathlib.Core.List.{List, [], ◌∷◌, map, Memᴰ as Member}
use native.Mathlib.Omega.{arith}
use lib.ListN.{length, get_or}
use Rattle.deck.specs.declared.axioms.AxiomRecord.{AxiomRecord}
use Rattle.deck.specs.Deck.{Deck, Role, role_of, role_id, Axiom, axiom_at, axiom_count, concept_count, role_count}
use Rattle.deck.specs.Content.{list_at, deck_of, axiom_of, make_axiom}
use Rattle.deck.specs.Reads.{AxiomRead, Within}
use Rattle.deck.specs.Sound.{Sound, AxiomFits, EachRole, counts_in}
use Rattle.deck.proofs.CaseLaws.{Cases, case_at}
use Rattle.eval.proofs.ListLaws.{position}
use Rattle.std.specs.Prelude.{Option, Some, None, IfSome}
use Rattle.model.specs.declared.rules.Rule.{Rule}
use Rattle.model.specs.Rules.{links, chain_rule, rule_of, RuleFits}

-- ---- a list of role words
pub chain-two : (l : List ℕ) (v : Role) → length l ≡ 2 → links (role_of (get_or l 0 0)) (role_of (get_or l 1 0)) v ≡ chain_rule (map role_of l) v
chain-two [] v h = absurd (omega arith)
chain-two (a ∷ []) v h = absurd (omega arith)
chain-two (a ∷ b ∷ []) v h = refl
chain-two (a ∷ b ∷ c ∷ l) v h = absurd (omega arith)

pub chain-other : (l : List ℕ) (v : Role) → (length l ≡ 2 → ⊥) → None ≡ chain_rule (map role_of l) v
chain-other [] v h = refl
chain-other (a ∷ []) v h = refl
chain-other (a ∷ b ∷ []) v h = absurd (h refl)
chain-other (a ∷ b ∷ c ∷ l) v h = refl

-- ---- a tag
module _ (s : List ℕ) (x y z : ℕ) where
  Ruleless : ℕ → Type 0
  Ruleless k = (k ≡ 5 → ⊥) → (k ≡ 11 → ⊥) → None ≡ rule_of (axiom_of s k x y z)

  nones : Cases Ruleless 26
  unfolding Ruleless axiom_of make_axiom rule_of
  nones = ((((((((((((((((((((((((((tt, (λ h g. refl)), (λ h g. refl)), (λ h g. refl)), (λ h g. refl)), (λ h g. refl)), (λ h g. absurd (h refl))), (λ h g. refl)), (λ h g. refl)), (λ h g. refl)), (λ h g. refl)), (λ h g. refl)), (λ h g. absurd (g refl))), (λ h g. refl)), (λ h g. refl)), (λ h g. refl)), (λ h g. refl)), (λ h g. refl)), (λ h g. refl)), (λ h g. refl)), (λ h g. refl)), (λ h g. refl)), (λ h g. refl)), (λ h g. refl)), (λ h g. refl)), (λ h g. refl)), (λ h g. refl))

  pub no-rule : (tag : ℕ) → tag < 26 → (tag ≡ 5 → ⊥) → (tag ≡ 11 → ⊥) → None ≡ rule_of (axiom_of s tag x y z)
  unfolding Ruleless
  no-rule tag h = case_at Ruleless 26 tag nones h

  pub chain-rule : chain_rule (map role_of (list_at s x y)) (role_of z) ≡ rule_of (axiom_of s 5 x y z)
  unfolding axiom_of make_axiom rule_of
  chain-rule = refl

  pub transitive-rule : links (role_of x) (role_of x) (role_of x) ≡ rule_of (axiom_of s 11 x y z)
  unfolding axiom_of make_axiom rule_of
  transitive-rule = refl

-- the rule of what was read is the axiom's
pub rule-read : {s : List ℕ} {k : ℕ} {r : AxiomRecord} → AxiomRead s k r → {q : Option Rule} → q ≡ rule_of (axiom_of s r.tag r.first r.second r.third) → q ≡ rule_of (axiom_at (deck_of s) k)
rule-read R e = e ∙ ap rule_of R.is

pub rule-read-at : {s : List ℕ} {k : ℕ} {r : AxiomRecord} → AxiomRead s k r → (tag : ℕ) → r.tag ≡ tag → {q : Option Rule} → q ≡ rule_of (axiom_of s tag r.first r.second r.third) → q ≡ rule_of (axiom_at (deck_of s) k)
rule-read-at R tag h e = rule-read R (rw h e)

-- the list of a chain
pub chain-within : {s : List ℕ} {k : ℕ} {r : AxiomRecord} → AxiomRead s k r → r.tag ≡ 5 → Within s (record { start = r.first; count = r.second })
chain-within R h = (rw h at R.fits).0.within

-- ---- the roles of a rule
module _ (D : Deck) where
  links-fit : (a b v : Role) → role_id a < role_count D → role_id b < role_count D → role_id v < role_count D → IfSome (links a b v) (RuleFits D)
  links-fit (Role.Named a) (Role.Named b) (Role.Named v) h k l = record { first = h; second = k; third = l }
  links-fit (Role.Named a) (Role.Named b) (Role.Inverse v) h k l = tt
  links-fit (Role.Named a) (Role.Inverse b) v h k l = tt
  links-fit (Role.Inverse a) b v h k l = tt

  chain_fits : (l : List Role) (v : Role) → EachRole (role_count D) l → role_id v < role_count D → IfSome (chain_rule l v) (RuleFits D)
  chain_fits [] v F k = tt
  chain_fits (a ∷ []) v F k = tt
  chain_fits (a ∷ b ∷ []) v F k = links-fit a b v (F 0 (omega arith)) (F 1 (omega arith)) k
  chain_fits (a ∷ b ∷ c ∷ l) v F k = tt

  rule-fits-of : (x : Axiom) → AxiomFits (counts_in D) (concept_count D) x → IfSome (rule_of x) (RuleFits D)
  unfolding rule_of
  rule-fits-of (Axiom.SubClassOf x y) F = tt
  rule-fits-of (Axiom.EquivalentClasses x) F = tt
  rule-fits-of (Axiom.DisjointClasses x) F = tt
  rule-fits-of (Axiom.DisjointUnion x y) F = tt
  rule-fits-of (Axiom.SubObjectPropertyOf x y) F = tt
  rule-fits-of (Axiom.SubObjectPropertyChain l v) F = chain_fits l v F.0 F.1
  rule-fits-of (Axiom.EquivalentObjectProperties x) F = tt
  rule-fits-of (Axiom.DisjointObjectProperties x) F = tt
  rule-fits-of (Axiom.InverseObjectProperties x y) F = tt
  rule-fits-of (Axiom.ObjectPropertyDomain x y) F = tt
  rule-fits-of (Axiom.ObjectPropertyRange x y) F = tt
  rule-fits-of (Axiom.TransitiveRole r) F = links-fit r r r F F F
  rule-fits-of (Axiom.SymmetricRole x) F = tt
  rule-fits-of (Axiom.AsymmetricRole x) F = tt
  rule-fits-of (Axiom.ReflexiveRole x) F = tt
  rule-fits-of (Axiom.IrreflexiveRole x) F = tt
  rule-fits-of (Axiom.FunctionalRole x) F = tt
  rule-fits-of (Axiom.InverseFunctionalRole x) F = tt
  rule-fits-of (Axiom.ClassAssertion x y) F = tt
  rule-fits-of (Axiom.ObjectPropertyAssertion x y z) F = tt
  rule-fits-of (Axiom.NegativeObjectPropertyAssertion x y z) F = tt
  rule-fits-of (Axiom.SameIndividual x) F = tt
  rule-fits-of (Axiom.DifferentIndividuals x) F = tt
  rule-fits-of (Axiom.DeclareClass x) F = tt
  rule-fits-of (Axiom.DeclareObjectProperty x) F = tt
  rule-fits-of (Axiom.DeclareNamedIndividual x) F = tt

  module _ (S : Sound D) where
    pub rule-fits-at : (i : ℕ) → i < axiom_count D → IfSome (rule_of (axiom_at D i)) (RuleFits D)
    rule-fits-at i h = rule-fits-of (axiom_at D i) (S.axioms i h)

    pub rule-fits-in : (x : Axiom) → Member x D.axioms → IfSome (rule_of x) (RuleFits D)
    rule-fits-in x m = let p = position (Axiom.DeclareClass 0) x D.axioms m in rw (← p.2) (rule-fits-at p.0 p.1)

    pub rule-fits-as : (i : ℕ) → i < axiom_count D → {q : Rule} → rule_of (axiom_at D i) ≡ Some q → RuleFits D q
    rule-fits-as i h e = rw e at (rule-fits-at i h)
