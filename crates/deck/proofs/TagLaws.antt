-- Concepts and axioms by tag: fields of the tag's form make a concept or an axiom whose numbers are in range.
-- Assumes nothing.
use mathlib.Core.Path.{◌≡◌, refl}
use mathlib.Core.Logic.{⊎_elim}
use mathlib.Core.Bool.{Bool, true, false, cond}
use mathlib.Core.List.{List, map}
use Prim.Native.Nat.{ℕ, ◌*◌, ◌/◌, ◌<◌, ◌≤◌}
use native.Mathlib.Omega.{arith}
use lib.ListN.{length, get_or, length-map, get_or-map, get_or-eq_default}
use Rattle.deck.specs.declared.forms.Form.{Form}
use Rattle.deck.specs.declared.forms.Form.TheVariants.{Unknown}
use Rattle.deck.specs.Numbers.{inverse_word}
use Rattle.deck.specs.Deck.{Role, role_of, role_id}
use Rattle.deck.specs.Records.{concept_form, concept_forms, axiom_form, axiom_forms}
use Rattle.deck.specs.Content.{list_at, concept_of, make_concept, axiom_of, make_axiom, deck_of}
use Rattle.deck.specs.Sound.{EachBelow, EachRole, counts_in, ConceptFits, AxiomFits}
use Rattle.deck.specs.Exprs.{expr_at}
use Rattle.deck.specs.Reads.{FormFits, expr_of, ExprFits}
use Rattle.deck.proofs.CaseLaws.{Cases, case_at, lt-or-le}

pub role-id : (w : ℕ) → role_id (role_of w) ≡ w / 2
role-id w = go (inverse_word w)
  where
    go : (b : Bool) → role_id (cond b (Role.Inverse (w / 2)) (Role.Named (w / 2))) ≡ w / 2
    go true = refl
    go false = refl

-- a role word below 2 R names a role below R
role-below : (w n : ℕ) → w < 2 * n → role_id (role_of w) < n
role-below w n h = rw (role-id w) (omega arith)

roles-below : (l : List ℕ) (n : ℕ) → EachBelow (2 * n) l → EachRole n (map role_of l)
roles-below l n h i k = rw (get_or-map role_of l i 0) (role-below (get_or l i 0) n (h i (omega (arith, length-map l role_of))))

-- a tag that is not in the table has no form
module _ (s : List ℕ) (c tag x y z : ℕ) where
  known : (forms : List Form) → FormFits s c (get_or forms tag Unknown) x y z → tag < length forms
  known forms h =
      ⊎_elim (λ (l : tag < length forms). l)
      (λ (g : length forms ≤ tag). let e : get_or forms tag Unknown ≡ Unknown = get_or-eq_default forms Unknown g in absurd (rw e at h))
      (lt-or-le tag (length forms))

  pub known-concept : FormFits s c (concept_form tag) x y z → tag < 12
  known-concept h = known concept_forms h

  pub known-axiom : FormFits s c (axiom_form tag) x y z → tag < 26
  known-axiom h = known axiom_forms h

module _ (s : List ℕ) (k : ℕ) where
  -- what is shown of concept tags: the concept is in range, and the code's value is in range and stands for it
  ConceptAt : ℕ → Type 0
  ConceptAt tag = (x y z : ℕ) → FormFits s k (concept_form tag) x y z
      → ConceptFits (counts_in (deck_of s)) k (concept_of s tag x y z) × (ExprFits s k (expr_at tag x y z) × (expr_of s (expr_at tag x y z) ≡ concept_of s tag x y z))

  concept-tags : Cases ConceptAt 12
  unfolding ConceptAt concept_of make_concept expr_at
  concept-tags = (
    (
      (
        (
          (
            (
              (
                (
                  (
                    (
                      (
                        (
                          tt,
                          λ x y z h. (tt, (tt, refl)),
                        ),
                        λ x y z h. (tt, (tt, refl)),
                      ),
                      λ x y z h. (h.0, (h.0, refl)),
                    ),
                    λ x y z h. (tt, (tt, refl)),
                  ),
                  λ x y z h. (role-below x _ h.0, (h.0, refl)),
                ),
                λ x y z h. (h.0, (h.0, refl)),
              ),
              λ x y z h. (h.0.below, (h.0, refl)),
            ),
            λ x y z h. (h.0.below, (h.0, refl)),
          ),
          λ x y z h. ((role-below x _ h.0, h.1.0), ((h.0, h.1.0), refl)),
        ),
        λ x y z h. ((role-below x _ h.0, h.1.0), ((h.0, h.1.0), refl)),
      ),
      λ x y z h. ((role-below y _ h.1.0, h.1.1), (h.1, refl)),
    ),
    λ x y z h. ((role-below y _ h.1.0, h.1.1), (h.1, refl)),
  )

  module _ (tag x y z : ℕ) (h : FormFits s k (concept_form tag) x y z) where
    concept-tag : ConceptFits (counts_in (deck_of s)) k (concept_of s tag x y z) × (ExprFits s k (expr_at tag x y z) × (expr_of s (expr_at tag x y z) ≡ concept_of s tag x y z))
    unfolding ConceptAt
    concept-tag = case_at ConceptAt 12 tag concept-tags (known-concept s k tag x y z h) x y z h

    pub concept-fits : ConceptFits (counts_in (deck_of s)) k (concept_of s tag x y z)
    concept-fits = concept-tag.0

    pub expr-fits : ExprFits s k (expr_at tag x y z)
    expr-fits = concept-tag.1.0

    pub expr-is : expr_of s (expr_at tag x y z) ≡ concept_of s tag x y z
    expr-is = concept-tag.1.1

module _ (s : List ℕ) (c : ℕ) where
  AxiomAt : ℕ → Type 0
  AxiomAt tag = (x y z : ℕ) → FormFits s c (axiom_form tag) x y z → AxiomFits (counts_in (deck_of s)) c (axiom_of s tag x y z)

  axiom-tags : Cases AxiomAt 26
  unfolding AxiomAt axiom_of make_axiom
  axiom-tags = (
    (
      (
        (
          (
            (
              (
                (
                  (
                    (
                      (
                        (
                          (
                            (
                              (
                                (
                                  (
                                    (
                                      (
                                        (
                                          (
                                            (
                                              (
                                                (
                                                  (
                                                    (
                                                      tt,
                                                      λ x y z h. (h.0, h.1.0),
                                                    ),
                                                    λ x y z h. h.0.below,
                                                  ),
                                                  λ x y z h. h.0.below,
                                                ),
                                                λ x y z h. (h.0, h.1.below),
                                              ),
                                              λ x y z h. (role-below x _ h.0, role-below y _ h.1.0),
                                            ),
                                            λ x y z h. (roles-below (list_at s x y) _ h.0.below, role-below z _ h.1),
                                          ),
                                          λ x y z h. roles-below (list_at s x y) _ h.0.below,
                                        ),
                                        λ x y z h. roles-below (list_at s x y) _ h.0.below,
                                      ),
                                      λ x y z h. (role-below x _ h.0, role-below y _ h.1.0),
                                    ),
                                    λ x y z h. (role-below x _ h.0, h.1.0),
                                  ),
                                  λ x y z h. (role-below x _ h.0, h.1.0),
                                ),
                                λ x y z h. role-below x _ h.0,
                              ),
                              λ x y z h. role-below x _ h.0,
                            ),
                            λ x y z h. role-below x _ h.0,
                          ),
                          λ x y z h. role-below x _ h.0,
                        ),
                        λ x y z h. role-below x _ h.0,
                      ),
                      λ x y z h. role-below x _ h.0,
                    ),
                    λ x y z h. role-below x _ h.0,
                  ),
                  λ x y z h. h.0,
                ),
                λ x y z h. role-below x _ h.0,
              ),
              λ x y z h. role-below x _ h.0,
            ),
            λ x y z h. tt,
          ),
          λ x y z h. tt,
        ),
        λ x y z h. h.0,
      ),
      λ x y z h. h.0,
    ),
    λ x y z h. tt,
  )

  pub axiom-fits : (tag x y z : ℕ) → FormFits s c (axiom_form tag) x y z → AxiomFits (counts_in (deck_of s)) c (axiom_of s tag x y z)
  unfolding AxiomAt
  axiom-fits tag x y z h = case_at AxiomAt 26 tag axiom-tags (known-axiom s c tag x y z h) x y z h
