-- Judging, checking and truth look at a structure's elements only, their classes and the edges between them: structures that agree
-- in these have the same judgements and verdicts, and the same axioms are true in them.
--     judge-agree, verdict-agree    judgements, verdicts
--     ext-agree                     extensions, under every choice
--     true-agree, false-agree       truth, and falsity at witnesses, of an axiom whose numbers are the deck's
-- Assumes nothing.
use Prim.Native.Nat.{ℕ, suc, ◌<◌}
use mathlib.Core.Bool.{Bool, true, false, cond, ◌&&◌}
use mathlib.Core.Path.{◌≡◌, refl, sym, ap, ◌∙◌}
use mathlib.Core.Logic.{◌↔◌, ◌⊎◌}
use mathlib.Core.List.Memᴰ.{head as here}
use mathlib.Core.List.Memᴰ.{not-nil as nothing-in}
use mathlib.Core.List.Memᴰ.{tail as there}
use mathlib.Core.List.{List, [], ◌∷◌, map, flat_map, Memᴰ as Member}
use native.Mathlib.Omega.{arith}
use lib.Dec.{ltb, eqb}
use lib.ListN.{get_or, length, get_or-eq_default}
use borrow.Author.Tests.{ltb-true, ltb-false}
use Rattle.deck.specs.Deck.{Deck, Role, role_id, Concept, Axiom, concept_at, role_at, class_count, role_count, concept_count}
use Rattle.deck.specs.Sound.{Sound, ConceptFits, AxiomFits, counts_in}
use Rattle.eval.specs.declared.judgement.Construct.TheVariants.{InverseSome}
use Rattle.eval.specs.declared.judgement.Judgement.{Judgement}
use Rattle.eval.specs.declared.judgement.Judgement.TheVariants.{Unresolved}
use Rattle.eval.specs.declared.standing.Standing.{Standing}
use Rattle.eval.specs.declared.verdict.Witnesses.{Witnesses}
use Rattle.eval.specs.declared.verdict.Unhandled.TheVariants.{Inverse}
use Rattle.eval.specs.declared.verdict.Verdict.TheVariants.{Holds, UnhandledAxiom}
use Rattle.eval.specs.Standing.{fresh, and_next, some_next}
use Rattle.eval.specs.Lists.{range, keep, every, any}
use Rattle.eval.specs.Structure.{Structure, elements, has_edge, has_pair, successors_of, successors, pair, pairs_by, pairs_of, pairs, Pair, inverse, any_inverse}
use Rattle.eval.specs.Judge.{judge, judge_of, truth, some_from}
use Rattle.eval.specs.Verdict.{verdict, scan, implies, all_agree, at_most_one, at_pairs, within, onward, composed, across, equivalent, in_turn, one, two, three}
use Rattle.eval.specs.Truth.{Choice, ext, ext_of, AtOne, AtTwo, AtThree, AtChain, Apart, In, in_one, Break, True, FalseAt}
use Rattle.eval.proofs.Falling.{falling}
use Rattle.eval.proofs.ListLaws.{map_same, in-keep}
use Rattle.eval.proofs.Steps.{fits, each_below, and_same, judge-at, ext-at}
use Rattle.eval.proofs.EdgeLaws.{in-elements, in-successors, in_pairs, in-word-pairs, PairAt}

pub record Agree (D : Deck) (S T : Structure) : Type 0 where
  pub size : S.size ≡ T.size
  pub member : (e k : ℕ) → e < S.size → k < class_count D → S.member e k ≡ T.member e k
  pub edge : (r x y : ℕ) → r < role_count D → x < S.size → y < S.size → S.edge r x y ≡ T.edge r x y

agree-sym : {D : Deck} {S T : Structure} → Agree D S T → Agree D T S
agree-sym Q = record {
  size = sym Q.size;
  member = λ e k h l. sym (Q.member e k (rw Q.size h) l);
  edge = λ r x y l h k. sym (Q.edge r x y l (rw Q.size h) (rw Q.size k));
}

-- ---- what a list is asked
keep_same : (p q : ℕ → Bool) (xs : List ℕ) → ((x : ℕ) → Member x xs → p x ≡ q x) → keep p xs ≡ keep q xs
unfolding keep
keep_same p q [] h = refl
keep_same p q (x ∷ xs) h = rw (h x (here refl), keep_same p q xs (λ y m. h y (there m)))

flat-same : {A B : Type 0} (f g : A → List B) (xs : List A) → ((x : A) → Member x xs → f x ≡ g x) → flat_map f xs ≡ flat_map g xs
unfolding flat_map
flat-same f g [] h = refl
flat-same f g (x ∷ xs) h = rw (h x (here refl), flat-same f g xs (λ y m. h y (there m)))

some-asks : (f g : ℕ → Judgement) (s : Standing) (xs : List ℕ) → ((x : ℕ) → Member x xs → f x ≡ g x) → some_from f s xs ≡ some_from g s xs
unfolding some_from
some-asks f g s [] h = refl
some-asks f g s (x ∷ xs) h = rw (h x (here refl)) (some-asks f g (some_next s (g x)) xs (λ y m. h y (there m)))

scan-same : {A : Type 0} (f g : A → Judgement) (w : A → Witnesses) (s : Standing) (xs : List A) → ((x : A) → Member x xs → f x ≡ g x) → scan f w s xs ≡ scan g w s xs
unfolding scan
scan-same f g w s [] h = refl
scan-same f g w s (x ∷ xs) h = rw (h x (here refl), scan-same f g w (and_next s (g x)) xs (λ y m. h y (there m)))

module _ (D : Deck) (W : Sound D) (S T : Structure) (Q : Agree D S T) where
  -- the sub-roles of every role number are roles: past the count stands an empty row
  sub-below : (r q : ℕ) → Member q (role_at D r).sub_roles → q < role_count D
  sub-below r q m = go (ltb r (role_count D)) refl
    where
      go : (b : Bool) → ltb r (role_count D) ≡ b → q < role_count D
      go true e = each_below (role_count D) (role_at D r).sub_roles (W.roles r (ltb-true r (role_count D) e)).below q m
      go false e = absurd (nothing-in (rw (get_or-eq_default D.roles (record { sub_roles = []; range = [] }) (ltb-false r (role_count D) e)) at m))

  edge-agree : (r x y : ℕ) → x < S.size → y < S.size → has_edge D S r x y ≡ has_edge D T r x y
  unfolding has_edge
  edge-agree r x y h k = ap any (map_same (λ q. S.edge q x y) (λ q. T.edge q x y) (role_at D r).sub_roles (λ q m. Q.edge q x y (sub-below r q m) h k))

  pair-agree : (r : Role) (x y : ℕ) → x < S.size → y < S.size → has_pair D S r x y ≡ has_pair D T r x y
  pair-agree (Role.Named r) x y h k = edge-agree r x y h k
  pair-agree (Role.Inverse r) x y h k = edge-agree r y x k h

  word-successors-agree : (r : Role) (x : ℕ) → x < S.size → successors_of D S r x ≡ successors_of D T r x
  word-successors-agree r x h =
      keep_same (has_pair D S r x) (has_pair D T r x) (elements S) (λ y m. pair-agree r x y h (in-elements S y m)) ∙ ap (λ (n : ℕ). keep (has_pair D T r x) (range 0 n)) Q.size

  successors-agree : (r x : ℕ) → x < S.size → successors D S r x ≡ successors D T r x
  unfolding successors
  successors-agree r = word-successors-agree (Role.Named r)

  by-agree : (f g : ℕ → List ℕ) → ((x : ℕ) → x < S.size → f x ≡ g x) → pairs_by S f ≡ pairs_by T g
  by-agree f g h =
      flat-same (λ x. map (pair x) (f x)) (λ x. map (pair x) (g x)) (elements S) (λ x m. ap (map (pair x)) (h x (in-elements S x m)))
      ∙ ap (λ (n : ℕ). flat_map (λ x. map (pair x) (g x)) (range 0 n)) Q.size

  pairs-agree : (r : ℕ) → pairs D S r ≡ pairs D T r
  unfolding pairs
  pairs-agree r = by-agree (successors D S r) (successors D T r) (successors-agree r)

  -- ---- concepts
  judge-of : (c : ℕ) (k : Concept) → ConceptFits (counts_in D) c k → ((o : ℕ) → o < c → (e : ℕ) → e < S.size → judge D S o e ≡ judge D T o e) → (e : ℕ) → e < S.size
      → judge_of D S k (judge D S) e ≡ judge_of D T k (judge D T) e
  unfolding judge_of
  judge-of c Concept.Top h ih e l = refl
  judge-of c Concept.Bot h ih e l = refl
  judge-of c (Concept.Atomic k) h ih e l = ap truth (Q.member e k l h)
  judge-of c (Concept.Nominal i) h ih e l = refl
  judge-of c (Concept.SelfRestriction r) h ih e l = refl
  judge-of c (Concept.Not b) h ih e l = refl
  judge-of c (Concept.And os) h ih e l = and_same (λ o. judge D S o e) (λ o. judge D T o e) fresh os (λ o m. ih o (each_below c os h o m) e l)
  judge-of c (Concept.Or os) h ih e l = refl
  judge-of c (Concept.Some r b) h ih e l =
      ap (cond (inverse r) (Unresolved InverseSome))
      (some-asks (judge D S b) (judge D T b) fresh (successors_of D S r e) (λ t m. ih b h.1 t (in-elements S t (in-keep (has_pair D S r e) (elements S) t m).0))
      ∙ ap (some_from (judge D T b) fresh) (word-successors-agree r e l))
  judge-of c (Concept.All r b) h ih e l = refl
  judge-of c (Concept.Min n r b) h ih e l = refl
  judge-of c (Concept.Max n r b) h ih e l = refl

  pub judge-agree : (c e : ℕ) → e < S.size → judge D S c e ≡ judge D T c e
  judge-agree =
      falling (λ c. (e : ℕ) → e < S.size → judge D S c e ≡ judge D T c e) (λ c ih e l. rw (judge-at D W S c, judge-at D W T c) (judge-of c (concept_at D c) (fits D W c) ih e l))

  -- ---- axioms
  at-elements : (f g : ℕ → Judgement) → ((e : ℕ) → e < S.size → f e ≡ g e) → scan f one fresh (elements S) ≡ scan g one fresh (elements T)
  at-elements f g h = scan-same f g one fresh (elements S) (λ e m. h e (in-elements S e m)) ∙ ap (λ (n : ℕ). scan g one fresh (range 0 n)) Q.size

  at-pairs : (r : Role) (f g : Pair → Judgement) (w : Pair → Witnesses) → ((x y : ℕ) → PairAt D S r x y → f (pair x y) ≡ g (pair x y)) → at_pairs D S r f w ≡ at_pairs D T r g w
  at-pairs r f g w h =
      scan-same f g w fresh (pairs_of D S r) (λ p m. h p.from p.to (in-word-pairs D S r p m))
      ∙ ap (scan g w fresh) (by-agree (successors_of D S r) (successors_of D T r) (word-successors-agree r))

  within-agree : (sub sup : Role) → within D S sub sup ≡ within D T sub sup
  unfolding within
  within-agree sub sup = at-pairs sub (λ p. truth (has_pair D S sup p.from p.to)) (λ p. truth (has_pair D T sup p.from p.to)) (λ p. two p.from p.to) (λ x y e. ap truth (pair-agree sup x y e.from_in e.to_in))

  onward-agree : (b sup x y : ℕ) → x < S.size → y < S.size → onward D S b sup x y ≡ onward D T b sup x y
  unfolding onward
  onward-agree b sup x y h k =
      scan-same (λ z. truth (has_edge D S sup x z)) (λ z. truth (has_edge D T sup x z)) (three x y) fresh (successors D S b y) (λ z m. ap truth (edge-agree sup x z h (in-successors D S b y z m).0))
      ∙ ap (scan (λ z. truth (has_edge D T sup x z)) (three x y) fresh) (successors-agree b y k)

  composed-agree : (a b sup : ℕ) → composed D S a b sup ≡ composed D T a b sup
  unfolding composed
  composed-agree a b sup =
      ap in_turn
      (map_same (λ p. onward D S b sup p.from p.to) (λ p. onward D T b sup p.from p.to) (pairs D S a)
      (λ p m. let e = in_pairs D S a p m in onward-agree b sup p.from p.to e.from_in e.to_in))
      ∙ ap (λ (ps : List Pair). in_turn (map (λ p. onward D T b sup p.from p.to) ps)) (pairs-agree a)

  equivalent-agree : (l : List Role) → equivalent D S l ≡ equivalent D T l
  unfolding equivalent
  equivalent-agree l =
      ap in_turn
      (map_same (λ a. in_turn (map (across D S a) l)) (λ a. in_turn (map (across D T a) l)) l
      (λ a m. ap in_turn (map_same (across D S a) (across D T a) l (λ b n. ap (cond (eqb (role_id a) (role_id b)) Holds) (within-agree a b)))))

  chain-agree : (l : List Role) (sup : Role) → verdict D S (Axiom.SubObjectPropertyChain l sup) ≡ verdict D T (Axiom.SubObjectPropertyChain l sup)
  unfolding verdict
  chain-agree [] sup = refl
  chain-agree (a ∷ []) sup = refl
  chain-agree (a ∷ b ∷ []) sup = ap (cond (any_inverse (a ∷ b ∷ sup ∷ [])) (UnhandledAxiom 5 Inverse)) (composed-agree (role_id a) (role_id b) (role_id sup))
  chain-agree (a ∷ b ∷ c ∷ l) sup = refl

  pub verdict-agree : (a : Axiom) → verdict D S a ≡ verdict D T a
  unfolding verdict
  verdict-agree (Axiom.SubClassOf sub sup) =
      at-elements (λ e. implies (judge D S sub e) (judge D S sup e)) (λ e. implies (judge D T sub e) (judge D T sup e)) (λ e l. rw (judge-agree sub e l, judge-agree sup e l))
  verdict-agree (Axiom.EquivalentClasses l) =
      at-elements (λ e. all_agree (map (λ c. judge D S c e) l)) (λ e. all_agree (map (λ c. judge D T c e) l)) (λ e h. ap all_agree (map_same (λ c. judge D S c e) (λ c. judge D T c e) l (λ c m. judge-agree c e h)))
  verdict-agree (Axiom.DisjointClasses l) =
      at-elements (λ e. at_most_one (map (λ c. judge D S c e) l)) (λ e. at_most_one (map (λ c. judge D T c e) l)) (λ e h. ap at_most_one (map_same (λ c. judge D S c e) (λ c. judge D T c e) l (λ c m. judge-agree c e h)))
  verdict-agree (Axiom.DisjointUnion k l) = refl
  verdict-agree (Axiom.SubObjectPropertyOf sub sup) = ap (cond (any_inverse (sub ∷ sup ∷ [])) (UnhandledAxiom 4 Inverse)) (within-agree sub sup)
  verdict-agree (Axiom.SubObjectPropertyChain l sup) = chain-agree l sup
  verdict-agree (Axiom.EquivalentObjectProperties l) = ap (cond (any_inverse l) (UnhandledAxiom 6 Inverse)) (equivalent-agree l)
  verdict-agree (Axiom.DisjointObjectProperties l) = refl
  verdict-agree (Axiom.InverseObjectProperties p q) = rw (pairs-agree (role_id p), pairs-agree (role_id q))
  verdict-agree (Axiom.ObjectPropertyDomain r c) =
      ap (cond (any_inverse (r ∷ [])) (UnhandledAxiom 9 Inverse)) (at-pairs r (λ p. judge D S c p.from) (λ p. judge D T c p.from) (λ p. one p.from) (λ x y e. judge-agree c x e.from_in))
  verdict-agree (Axiom.ObjectPropertyRange r c) =
      ap (cond (any_inverse (r ∷ [])) (UnhandledAxiom 10 Inverse)) (at-pairs r (λ p. judge D S c p.to) (λ p. judge D T c p.to) (λ p. one p.to) (λ x y e. judge-agree c y e.to_in))
  verdict-agree (Axiom.TransitiveRole r) = ap (cond (any_inverse (r ∷ [])) (UnhandledAxiom 11 Inverse)) (composed-agree (role_id r) (role_id r) (role_id r))
  verdict-agree (Axiom.SymmetricRole r) = rw (pairs-agree (role_id r))
  verdict-agree (Axiom.AsymmetricRole r) = refl
  verdict-agree (Axiom.ReflexiveRole r) = refl
  verdict-agree (Axiom.IrreflexiveRole r) = refl
  verdict-agree (Axiom.FunctionalRole r) = refl
  verdict-agree (Axiom.InverseFunctionalRole r) = refl
  verdict-agree (Axiom.ClassAssertion c i) = refl
  verdict-agree (Axiom.ObjectPropertyAssertion r i j) = refl
  verdict-agree (Axiom.NegativeObjectPropertyAssertion r i j) = refl
  verdict-agree (Axiom.SameIndividual l) = refl
  verdict-agree (Axiom.DifferentIndividuals l) = refl
  verdict-agree (Axiom.DeclareClass k) = refl
  verdict-agree (Axiom.DeclareObjectProperty r) = refl
  verdict-agree (Axiom.DeclareNamedIndividual i) = refl

  -- ---- truth
  module _ (χ : Choice) where
    ext-of : (c : ℕ) (k : Concept) → ConceptFits (counts_in D) c k → ((o : ℕ) → o < c → (e : ℕ) → e < S.size → ext D S χ o e ≡ ext D T χ o e) → (e : ℕ) → e < S.size
        → ext_of D S χ c k (ext D S χ) e ≡ ext_of D T χ c k (ext D T χ) e
    unfolding ext_of
    ext-of c Concept.Top h ih e l = refl
    ext-of c Concept.Bot h ih e l = refl
    ext-of c (Concept.Atomic k) h ih e l = Q.member e k l h
    ext-of c (Concept.Nominal i) h ih e l = refl
    ext-of c (Concept.SelfRestriction r) h ih e l = refl
    ext-of c (Concept.Not b) h ih e l = refl
    ext-of c (Concept.And os) h ih e l = ap every (map_same (λ o. ext D S χ o e) (λ o. ext D T χ o e) os (λ o m. ih o (each_below c os h o m) e l))
    ext-of c (Concept.Or os) h ih e l = refl
    ext-of c (Concept.Some r b) h ih e l =
        ap (cond (inverse r) (χ.sets c e))
        (ap any (map_same (λ t. has_pair D S r e t && ext D S χ b t) (λ t. has_pair D T r e t && ext D T χ b t) (elements S) (λ t m. let k = in-elements S t m in rw (pair-agree r e t l k, ih b h.1 t k)))
        ∙ ap (λ (n : ℕ). any (map (λ t. has_pair D T r e t && ext D T χ b t) (range 0 n))) Q.size)
    ext-of c (Concept.All r b) h ih e l = refl
    ext-of c (Concept.Min n r b) h ih e l = refl
    ext-of c (Concept.Max n r b) h ih e l = refl

    pub ext-agree : (c e : ℕ) → e < S.size → ext D S χ c e ≡ ext D T χ c e
    ext-agree =
        falling (λ c. (e : ℕ) → e < S.size → ext D S χ c e ≡ ext D T χ c e) (λ c ih e l. rw (ext-at D W S χ c, ext-at D W T χ c) (ext-of c (concept_at D c) (fits D W c) ih e l))

    -- a truth value about one structure is the same about the other
    as_is : {a b c : Bool} → a ≡ b → a ≡ c → b ≡ c
    as_is p q = sym p ∙ q

    one-agree : (P R : ℕ → Type 0) (ws : List ℕ) → ((x : ℕ) → x < S.size → P x → R x) → AtOne S.size P ws → AtOne T.size R ws
    one-agree P R ws h b = record { x = b.x; is = b.is; x-in = rw Q.size at b.x-in; breaks = h b.x b.x-in b.breaks }

    two-agree : (P R : ℕ → ℕ → Type 0) (ws : List ℕ) → ((x y : ℕ) → x < S.size → y < S.size → P x y → R x y) → AtTwo S.size P ws → AtTwo T.size R ws
    two-agree P R ws h b = record { x = b.x; y = b.y; is = b.is; x-in = rw Q.size at b.x-in; y-in = rw Q.size at b.y-in; breaks = h b.x b.y b.x-in b.y-in b.breaks }

    three-agree : (P R : ℕ → ℕ → ℕ → Type 0) (ws : List ℕ) → ((x y z : ℕ) → x < S.size → y < S.size → z < S.size → P x y z → R x y z) → AtThree S.size P ws → AtThree T.size R ws
    three-agree P R ws h b = record {
      x = b.x;
      y = b.y;
      z = b.z;
      is = b.is;
      x-in = rw Q.size at b.x-in;
      y-in = rw Q.size at b.y-in;
      z-in = rw Q.size at b.z-in;
      breaks = h b.x b.y b.z b.x-in b.y-in b.z-in b.breaks;
    }

    apart-agree : {A : Type 0} (d : A) (l : List A) (P R : A → A → Type 0) → ((a b : A) → P a b → R a b) → Apart d l P → Apart d l R
    apart-agree d l P R h k = record { i = k.i; j = k.j; i-in = k.i-in; j-in = k.j-in; apart = k.apart; related = h _ _ k.related }

    -- in, outside, linked by a role word: the same at elements
    at : (c x : ℕ) → x < S.size → {b : Bool} → ext D S χ c x ≡ b → ext D T χ c x ≡ b
    at c x h p = as_is (ext-agree c x h) p

    by : (r : Role) (x y : ℕ) → x < S.size → y < S.size → {b : Bool} → has_pair D S r x y ≡ b → has_pair D T r x y ≡ b
    by r x y h k p = as_is (pair-agree r x y h k) p

    in_one_lem : (l : List ℕ) (x : ℕ) → x < S.size → {b : Bool} → in_one D S χ l x ≡ b → in_one D T χ l x ≡ b
    in_one_lem l x h p = as_is (ap any (map_same (λ c. ext D S χ c x) (λ c. ext D T χ c x) l (λ c m. ext-agree c x h))) p

    union-agree : (k : ℕ) (l : List ℕ) (x : ℕ) → k < class_count D → x < S.size
        → ((S.member x k ≡ true) × (in_one D S χ l x ≡ false)) ⊎ (((S.member x k ≡ false) × (in_one D S χ l x ≡ true)) ⊎ Apart 0 l (λ c d. In D S χ c x × In D S χ d x))
        → ((T.member x k ≡ true) × (in_one D T χ l x ≡ false)) ⊎ (((T.member x k ≡ false) × (in_one D T χ l x ≡ true)) ⊎ Apart 0 l (λ c d. In D T χ c x × In D T χ d x))
    union-agree k l x f h (◌⊎◌.inl p) = ◌⊎◌.inl (as_is (Q.member x k h f) p.0, in_one_lem l x h p.1)
    union-agree k l x f h (◌⊎◌.inr (◌⊎◌.inl p)) = ◌⊎◌.inr (◌⊎◌.inl (as_is (Q.member x k h f) p.0, in_one_lem l x h p.1))
    union-agree k l x f h (◌⊎◌.inr (◌⊎◌.inr p)) = ◌⊎◌.inr (◌⊎◌.inr (apart-agree 0 l _ _ (λ c d q. (at c x h q.0, at d x h q.1)) p))

    turned-agree : (p q : Role) (x y : ℕ) → x < S.size → y < S.size
        → ((has_pair D S p x y ≡ true) × (has_pair D S q y x ≡ false)) ⊎ ((has_pair D S q x y ≡ true) × (has_pair D S p y x ≡ false))
        → ((has_pair D T p x y ≡ true) × (has_pair D T q y x ≡ false)) ⊎ ((has_pair D T q x y ≡ true) × (has_pair D T p y x ≡ false))
    turned-agree p q x y h k (◌⊎◌.inl b) = ◌⊎◌.inl (by p x y h k b.0, by q y x k h b.1)
    turned-agree p q x y h k (◌⊎◌.inr b) = ◌⊎◌.inr (by q x y h k b.0, by p y x k h b.1)

    chain-break : (l : List Role) (sup : Role) (ws : List ℕ) → AtChain D S l sup ws → AtChain D T l sup ws
    chain-break l sup ws b = record {
      long = b.long;
      all_in = λ i h. rw Q.size at (b.all_in i h);
      linked = λ i h. by (get_or l i (Role.Named 0)) _ _ (b.all_in i (omega (arith, b.long))) (b.all_in (suc i) (omega (arith, b.long))) (b.linked i h);
      ends = by sup _ _ (b.all_in 0 (omega (arith, b.long))) (b.all_in (length l) (omega (arith, b.long))) b.ends;
    }

    break-agree : (a : Axiom) → AxiomFits (counts_in D) (concept_count D) a → (ws : List ℕ) → Break D S χ a ws → Break D T χ a ws
    break-agree (Axiom.SubClassOf sub sup) f ws = one-agree _ _ ws (λ x h b. (at sub x h b.0, at sup x h b.1))
    break-agree (Axiom.EquivalentClasses l) f ws = one-agree _ _ ws (λ x h. apart-agree 0 l _ _ (λ c d b. (at c x h b.0, at d x h b.1)))
    break-agree (Axiom.DisjointClasses l) f ws = one-agree _ _ ws (λ x h. apart-agree 0 l _ _ (λ c d b. (at c x h b.0, at d x h b.1)))
    break-agree (Axiom.DisjointUnion k l) f ws = one-agree _ _ ws (λ x h. union-agree k l x f.0 h)
    break-agree (Axiom.SubObjectPropertyOf sub sup) f ws = two-agree _ _ ws (λ x y h k b. (by sub x y h k b.0, by sup x y h k b.1))
    break-agree (Axiom.SubObjectPropertyChain l sup) f ws = chain-break l sup ws
    break-agree (Axiom.EquivalentObjectProperties l) f ws = two-agree _ _ ws (λ x y h k. apart-agree (Role.Named 0) l _ _ (λ p q b. (by p x y h k b.0, by q x y h k b.1)))
    break-agree (Axiom.DisjointObjectProperties l) f ws = two-agree _ _ ws (λ x y h k. apart-agree (Role.Named 0) l _ _ (λ p q b. (by p x y h k b.0, by q x y h k b.1)))
    break-agree (Axiom.InverseObjectProperties p q) f ws = two-agree _ _ ws (turned-agree p q)
    break-agree (Axiom.ObjectPropertyDomain r c) f ws = two-agree _ _ ws (λ x y h k b. (by r x y h k b.0, at c x h b.1))
    break-agree (Axiom.ObjectPropertyRange r c) f ws = two-agree _ _ ws (λ x y h k b. (by r x y h k b.0, at c y k b.1))
    break-agree (Axiom.TransitiveRole r) f ws = three-agree _ _ ws (λ x y z h k l b. (by r x y h k b.0, by r y z k l b.1, by r x z h l b.2))
    break-agree (Axiom.SymmetricRole r) f ws = two-agree _ _ ws (λ x y h k b. (by r x y h k b.0, by r y x k h b.1))
    break-agree (Axiom.AsymmetricRole r) f ws = two-agree _ _ ws (λ x y h k b. (by r x y h k b.0, by r y x k h b.1))
    break-agree (Axiom.ReflexiveRole r) f ws = one-agree _ _ ws (λ x h b. by r x x h h b)
    break-agree (Axiom.IrreflexiveRole r) f ws = one-agree _ _ ws (λ x h b. by r x x h h b)
    break-agree (Axiom.FunctionalRole r) f ws = three-agree _ _ ws (λ x y z h k l b. (by r x y h k b.0, by r x z h l b.1, b.2))
    break-agree (Axiom.InverseFunctionalRole r) f ws = three-agree _ _ ws (λ x y z h k l b. (by r x z h l b.0, by r y z k l b.1, b.2))
    break-agree (Axiom.ClassAssertion c i) f ws = one-agree _ _ ws (λ x h b. (b.0, at c x h b.1))
    break-agree (Axiom.ObjectPropertyAssertion r i j) f ws = two-agree _ _ ws (λ x y h k b. (b.0, b.1, by r x y h k b.2))
    break-agree (Axiom.NegativeObjectPropertyAssertion r i j) f ws = two-agree _ _ ws (λ x y h k b. (b.0, b.1, by r x y h k b.2))
    break-agree (Axiom.SameIndividual l) f ws = two-agree _ _ ws (λ x y h k b. b)
    break-agree (Axiom.DifferentIndividuals l) f ws = one-agree _ _ ws (λ x h b. b)
    break-agree (Axiom.DeclareClass k) f ws = λ b. b
    break-agree (Axiom.DeclareObjectProperty r) f ws = λ b. b
    break-agree (Axiom.DeclareNamedIndividual i) f ws = λ b. b

module _ (D : Deck) (W : Sound D) (S T : Structure) (Q : Agree D S T) (χ : Choice) (a : Axiom) (f : AxiomFits (counts_in D) (concept_count D) a) where
  pub true-agree : True D S χ a ↔ True D T χ a
  true-agree = (λ t ws b. t ws (break-agree D W T S (agree-sym Q) χ a f ws b), λ t ws b. t ws (break-agree D W S T Q χ a f ws b))

  false-to : (ws : List ℕ) → FalseAt D S χ a ws → FalseAt D T χ a ws
  false-to ws n = record { elements = n.elements; break = break-agree D W S T Q χ a f n.elements n.break; stand = n.stand }

pub false-agree : (D : Deck) (W : Sound D) (S T : Structure) (Q : Agree D S T) (χ : Choice) (a : Axiom) → AxiomFits (counts_in D) (concept_count D) a → (ws : List ℕ) → FalseAt D S χ a ws ↔ FalseAt D T χ a ws
false-agree D W S T Q χ a f ws = (false-to D W S T Q χ a f ws, false-to D W T S (agree-sym Q) χ a f ws)
