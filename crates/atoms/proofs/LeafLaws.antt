-- What a concept leads to through Ands: its leaves, questions of them, and a walk downward by marks.
--     leaves-and, leaves-other            of a concept that was read
--     atoms-leaves                        required atoms, by the leaves
--     universal-leaves, holds-leaves, atom-leaves    the three questions, each by the leaves: one law, `by-leaves`
--     every-same                          a question does not mind repeats and order
--     pending_next, pending-marked        the walk: from one mark to the next, and an And that marks its operands
use Prim.Native.Nat.{ℕ, zero, suc, ◌+◌, ◌-◌, ◌*◌, ◌/◌, ◌%◌, ◌<◌, ◌≤◌}
use mathlib.Core.Bool.{Bool, true, false, cond, not, ◌||◌, ◌&&◌, or-false}
use mathlib.Core.Path.{◌≡◌, refl, sym, ap, subst, ◌∙◌}
use mathlib.Core.List.{List, [], ◌∷◌, ◌++◌, map, flat_map, append-nil}
use mathlib.Core.Logic.{⊎_elim}
use native.Mathlib.Nat.{add-zero}
use native.Mathlib.Omega.{arith}
use lib.ListN.{length, get_or, drop, length-drop, replicate, length-replicate}
use lib.Seq.{get_or-drop}
use lib.Dec.{eqb, ltb}
use borrow.Author.Tests.{eq-eqb, ne_eqb, eqb-true, lt-ltb, le-ltb}
use types.Run.{OneOf, miss}
use denote.Enum.Declared.{tag_of}
use Rattle.deck.specs.contracts.concepts.ConceptExpr.{the_type}
use Rattle.deck.specs.declared.concepts.ConceptExpr.{ConceptExpr}
use Rattle.deck.specs.declared.rows.Span.{Span}
use Rattle.deck.specs.Deck.{Deck, Concept, concept_count, concept_at, has}
use Rattle.deck.specs.Sound.{Sound, ConceptFits, counts_in}
use Rattle.deck.specs.Content.{IsAccepted, deck_of}
use Rattle.deck.specs.Reads.{ConceptRead, expr_of, list_of}
use Rattle.deck.specs.Below.{any_below}
use Rattle.deck.proofs.SoundLaws.{sound, limited}
use Rattle.deck.proofs.BelowLaws.{and_left, and_right, any_same}
use Rattle.deck.proofs.CaseLaws.{lt-or-le}
use Rattle.eval.specs.Lists.{every, any}
use Rattle.eval.proofs.Clash.{clash}
use Rattle.eval.proofs.Falling.{numbered-at, falling}
use Rattle.eval.proofs.LinkLaws.{same_truth}
use Rattle.eval.proofs.ListLaws.{map_same}
use Rattle.eval.proofs.Steps.{fits, each_below}
use Rattle.atoms.specs.declared.leaves.Question.{Question}
use Rattle.atoms.specs.declared.leaves.Question.TheVariants.{Universal, Atomless, Held}
use Rattle.deck.specs.declared.numbers.ClassId.{ClassId}
use denote.Ref.{Bor}
use Rattle.std.specs.Prelude.{Option, Some, None}
use Rattle.deck.specs.declared.numbers.ConceptId.{ConceptId}
use Rattle.atoms.specs.Label.{label_has, insert_bit, insert_all}
use Rattle.atoms.specs.Floor.{universal_of, universal, atoms_of, required_atoms}
use Rattle.atoms.specs.Antecedent.{some_in, has_atom, holds_atoms}
use Rattle.atoms.specs.Leaves.{leaves_of, leaves, IsLeaf, holds_atom, allows, answer_of, answer, every_leaf, pending, highest_mark, Same, Grown, Next}
use Rattle.atoms.proofs.ListWalks.{flat-same, flat-flat}
use Rattle.atoms.proofs.MemberLaws.{has-insert, or_assoc, none_has, by_cases}
use Rattle.atoms.proofs.LabelLaws.{length-insert, length-insert-all}
use Rattle.atoms.proofs.FloorLaws.{universal-at, atoms-at, read_is, no-class}
use Rattle.atoms.proofs.AntecedentLaws.{every-flat, some-flat}

-- ---- the leaves of a concept in a sound deck
module _ (D : Deck) (W : Sound D) where
  leaves-same : (c : ℕ) (k : Concept) → ConceptFits (counts_in D) c k → (f g : ℕ → List ℕ) → ((o : ℕ) → o < c → f o ≡ g o) → leaves_of c k f ≡ leaves_of c k g
  unfolding leaves_of
  leaves-same c Concept.Top h f g q = refl
  leaves-same c Concept.Bot h f g q = refl
  leaves-same c (Concept.Atomic k) h f g q = refl
  leaves-same c (Concept.Nominal i) h f g q = refl
  leaves-same c (Concept.SelfRestriction r) h f g q = refl
  leaves-same c (Concept.Not b) h f g q = refl
  leaves-same c (Concept.And l) h f g q = flat-same f g l (λ o m. q o (each_below c l h o m))
  leaves-same c (Concept.Or l) h f g q = refl
  leaves-same c (Concept.Some r b) h f g q = refl
  leaves-same c (Concept.All r b) h f g q = refl
  leaves-same c (Concept.Min m r b) h f g q = refl
  leaves-same c (Concept.Max m r b) h f g q = refl

  pub leaves_at : (c : ℕ) → leaves D c ≡ leaves_of c (concept_at D c) (leaves D)
  unfolding leaves
  leaves_at = numbered-at [] (λ c f. leaves_of c (concept_at D c) f) (λ c f g q. leaves-same c (concept_at D c) (fits D W c) f g q)

  -- a value that is every operand's at an And, and else the answer, is every leaf's answer
  module _ (q : Question) (value : ℕ → Bool) where
    abbrev ByForm : ℕ → Concept → Type 0
    ByForm c (Concept.And l) = value c ≡ every (map value l)
    ByForm c Concept.Top = value c ≡ answer_of q Concept.Top
    ByForm c Concept.Bot = value c ≡ answer_of q Concept.Bot
    ByForm c (Concept.Atomic k) = value c ≡ answer_of q (Concept.Atomic k)
    ByForm c (Concept.Nominal i) = value c ≡ answer_of q (Concept.Nominal i)
    ByForm c (Concept.SelfRestriction r) = value c ≡ answer_of q (Concept.SelfRestriction r)
    ByForm c (Concept.Not b) = value c ≡ answer_of q (Concept.Not b)
    ByForm c (Concept.Or l) = value c ≡ answer_of q (Concept.Or l)
    ByForm c (Concept.Some r b) = value c ≡ answer_of q (Concept.Some r b)
    ByForm c (Concept.All r b) = value c ≡ answer_of q (Concept.All r b)
    ByForm c (Concept.Min m r b) = value c ≡ answer_of q (Concept.Min m r b)
    ByForm c (Concept.Max m r b) = value c ≡ answer_of q (Concept.Max m r b)

    and-true : (b : Bool) → b ≡ (b && true)
    and-true true = refl
    and-true false = refl

    leaf-step : (c : ℕ) (k : Concept) → k ≡ concept_at D c → value c ≡ answer_of q k → value c ≡ every (map (answer D q) (c ∷ []))
    unfolding every answer
    leaf-step c k e h = h ∙ ap (answer_of q) e ∙ and-true (answer_of q (concept_at D c))

    form-step : (c : ℕ) (k : Concept) → k ≡ concept_at D c → ConceptFits (counts_in D) c k → ByForm c k → ((o : ℕ) → o < c → value o ≡ every_leaf D q o) → value c ≡ every (map (answer D q) (leaves_of c k (leaves D)))
    unfolding leaves_of every_leaf
    form-step c (Concept.And l) e f h ih = h ∙ ap every (map_same value (λ o. every (map (answer D q) (leaves D o))) l (λ o m. ih o (each_below c l f o m))) ∙ sym (every-flat (answer D q) (leaves D) l)
    form-step c Concept.Top e f h ih = leaf-step c Concept.Top e h
    form-step c Concept.Bot e f h ih = leaf-step c Concept.Bot e h
    form-step c (Concept.Atomic k) e f h ih = leaf-step c (Concept.Atomic k) e h
    form-step c (Concept.Nominal i) e f h ih = leaf-step c (Concept.Nominal i) e h
    form-step c (Concept.SelfRestriction r) e f h ih = leaf-step c (Concept.SelfRestriction r) e h
    form-step c (Concept.Not b) e f h ih = leaf-step c (Concept.Not b) e h
    form-step c (Concept.Or l) e f h ih = leaf-step c (Concept.Or l) e h
    form-step c (Concept.Some r b) e f h ih = leaf-step c (Concept.Some r b) e h
    form-step c (Concept.All r b) e f h ih = leaf-step c (Concept.All r b) e h
    form-step c (Concept.Min m r b) e f h ih = leaf-step c (Concept.Min m r b) e h
    form-step c (Concept.Max m r b) e f h ih = leaf-step c (Concept.Max m r b) e h

    by-leaves : ((c : ℕ) → ByForm c (concept_at D c)) → (c : ℕ) → value c ≡ every_leaf D q c
    unfolding every_leaf
    by-leaves h = falling (λ c. value c ≡ every (map (answer D q) (leaves D c))) (λ c ih. form-step c (concept_at D c) refl (fits D W c) (h c) ih ∙ ap (λ (l : List ℕ). every (map (answer D q) l)) (sym (leaves_at c)))

  -- the three questions
  universal-form : (c : ℕ) (k : Concept) → universal D c ≡ universal_of k (universal D) → ByForm Universal (universal D) c k
  unfolding universal_of
  universal-form c (Concept.And l) h = h
  universal-form c Concept.Top h = h
  universal-form c Concept.Bot h = h
  universal-form c (Concept.Atomic k) h = h
  universal-form c (Concept.Nominal i) h = h
  universal-form c (Concept.SelfRestriction r) h = h
  universal-form c (Concept.Not b) h = h
  universal-form c (Concept.Or l) h = h
  universal-form c (Concept.Some r b) h = h
  universal-form c (Concept.All r b) h = h
  universal-form c (Concept.Min m r b) h = h
  universal-form c (Concept.Max m r b) h = h

  pub universal-leaves : (c : ℕ) → universal D c ≡ every_leaf D Universal c
  universal-leaves = by-leaves Universal (universal D) (λ c. universal-form c (concept_at D c) (universal-at D W c))

  module _ (label : Bor (List ℕ)) where
    abbrev holds : List ℕ → Bool
    holds ks = every (map (label_has label.now) ks)

    holds-form : (c : ℕ) (k : Concept) → required_atoms D c ≡ atoms_of k (required_atoms D) → ByForm (Held label) (λ c. holds (required_atoms D c)) c k
    unfolding atoms_of every
    holds-form c (Concept.And l) h = ap holds h ∙ every-flat (label_has label.now) (required_atoms D) l
    holds-form c Concept.Top h = ap holds h
    holds-form c Concept.Bot h = ap holds h
    holds-form c (Concept.Atomic k) h = ap holds h ∙ sym (and-true (Held label) (λ o. true) (label_has label.now k))
    holds-form c (Concept.Nominal i) h = ap holds h
    holds-form c (Concept.SelfRestriction r) h = ap holds h
    holds-form c (Concept.Not b) h = ap holds h
    holds-form c (Concept.Or l) h = ap holds h
    holds-form c (Concept.Some r b) h = ap holds h
    holds-form c (Concept.All r b) h = ap holds h
    holds-form c (Concept.Min m r b) h = ap holds h
    holds-form c (Concept.Max m r b) h = ap holds h

    pub holds-leaves : (c : ℕ) → holds_atoms D label.now c ≡ every_leaf D (Held label) c
    unfolding holds_atoms
    holds-leaves = by-leaves (Held label) (λ c. holds (required_atoms D c)) (λ c. holds-form c (concept_at D c) (atoms-at D W c))

  -- its required atoms are those of its leaves
  leaf-atoms : (c : ℕ) → leaves D c ≡ c ∷ [] → required_atoms D c ≡ flat_map (required_atoms D) (leaves D c)
  unfolding flat_map
  leaf-atoms c e = rw e (sym (append-nil (required_atoms D c)))

  atoms-form : (c : ℕ) (k : Concept) → ConceptFits (counts_in D) c k → leaves D c ≡ leaves_of c k (leaves D) → required_atoms D c ≡ atoms_of k (required_atoms D) → ((o : ℕ) → o < c → required_atoms D o ≡ flat_map (required_atoms D) (leaves D o)) → required_atoms D c ≡ flat_map (required_atoms D) (leaves D c)
  unfolding leaves_of atoms_of
  atoms-form c (Concept.And l) f e h ih = h ∙ flat-same (required_atoms D) (λ o. flat_map (required_atoms D) (leaves D o)) l (λ o m. ih o (each_below c l f o m)) ∙ sym (flat-flat (required_atoms D) (leaves D) l) ∙ ap (flat_map (required_atoms D)) (sym e)
  atoms-form c Concept.Top f e h ih = leaf-atoms c e
  atoms-form c Concept.Bot f e h ih = leaf-atoms c e
  atoms-form c (Concept.Atomic k) f e h ih = leaf-atoms c e
  atoms-form c (Concept.Nominal i) f e h ih = leaf-atoms c e
  atoms-form c (Concept.SelfRestriction r) f e h ih = leaf-atoms c e
  atoms-form c (Concept.Not b) f e h ih = leaf-atoms c e
  atoms-form c (Concept.Or l) f e h ih = leaf-atoms c e
  atoms-form c (Concept.Some r b) f e h ih = leaf-atoms c e
  atoms-form c (Concept.All r b) f e h ih = leaf-atoms c e
  atoms-form c (Concept.Min m r b) f e h ih = leaf-atoms c e
  atoms-form c (Concept.Max m r b) f e h ih = leaf-atoms c e

  pub atoms-leaves : (c : ℕ) → required_atoms D c ≡ flat_map (required_atoms D) (leaves D c)
  atoms-leaves = falling (λ c. required_atoms D c ≡ flat_map (required_atoms D) (leaves D c)) (λ c ih. atoms-form c (concept_at D c) (fits D W c) (leaves_at c) (atoms-at D W c) ih)

  not-any : {A : Type 0} (p : A → Bool) (l : List A) → not (any (map p l)) ≡ every (map (λ x. not (p x)) l)
  unfolding any every
  not-any p [] = refl
  not-any p (x ∷ xs) = go (p x) (not-any p xs)
    where
      go : (b : Bool) → not (any (map p xs)) ≡ every (map (λ x. not (p x)) xs) → not (b || any (map p xs)) ≡ (not b && every (map (λ x. not (p x)) xs))
      go true h = refl
      go false h = h

  none-form : (c : ℕ) (k : Concept) → required_atoms D c ≡ atoms_of k (required_atoms D) → ByForm Atomless (λ c. not (some_in (required_atoms D c))) c k
  unfolding atoms_of
  none-form c (Concept.And l) h = ap (λ (ks : List ℕ). not (some_in ks)) h ∙ ap not (some-flat (required_atoms D) l) ∙ not-any (λ o. some_in (required_atoms D o)) l
  none-form c Concept.Top h = ap (λ (ks : List ℕ). not (some_in ks)) h
  none-form c Concept.Bot h = ap (λ (ks : List ℕ). not (some_in ks)) h
  none-form c (Concept.Atomic k) h = ap (λ (ks : List ℕ). not (some_in ks)) h
  none-form c (Concept.Nominal i) h = ap (λ (ks : List ℕ). not (some_in ks)) h
  none-form c (Concept.SelfRestriction r) h = ap (λ (ks : List ℕ). not (some_in ks)) h
  none-form c (Concept.Not b) h = ap (λ (ks : List ℕ). not (some_in ks)) h
  none-form c (Concept.Or l) h = ap (λ (ks : List ℕ). not (some_in ks)) h
  none-form c (Concept.Some r b) h = ap (λ (ks : List ℕ). not (some_in ks)) h
  none-form c (Concept.All r b) h = ap (λ (ks : List ℕ). not (some_in ks)) h
  none-form c (Concept.Min m r b) h = ap (λ (ks : List ℕ). not (some_in ks)) h
  none-form c (Concept.Max m r b) h = ap (λ (ks : List ℕ). not (some_in ks)) h

  pub atom-leaves : (c : ℕ) → not (has_atom D c) ≡ every_leaf D Atomless c
  unfolding has_atom
  atom-leaves = by-leaves Atomless (λ c. not (some_in (required_atoms D c))) (λ c. none-form c (concept_at D c) (atoms-at D W c))

-- a concept that leads to itself only
pub every-leaf-one : (D : Deck) (q : Question) (c : ℕ) → leaves D c ≡ c ∷ [] → answer D q c ≡ every_leaf D q c
unfolding every_leaf every
every-leaf-one D q c e = rw e (both_true (answer D q c))
  where
    both_true : (b : Bool) → b ≡ (b && true)
    both_true true = refl
    both_true false = refl

-- ---- a concept that was read
module _ (s : List ℕ) where
  is_leaf : (c : ℕ) (f : ℕ → List ℕ) (v : ConceptExpr) → OneOf (0 ∷ 1 ∷ 2 ∷ 3 ∷ 4 ∷ 5 ∷ 7 ∷ 8 ∷ 9 ∷ 10 ∷ 11 ∷ []) (tag_of the_type v) → c ∷ [] ≡ leaves_of c (expr_of s v) f
  unfolding leaves_of
  is_leaf c f ConceptExpr.Top h = refl
  is_leaf c f ConceptExpr.Bot h = refl
  is_leaf c f (ConceptExpr.Atomic k) h = refl
  is_leaf c f (ConceptExpr.Nominal i) h = refl
  is_leaf c f (ConceptExpr.SelfRestriction r) h = refl
  is_leaf c f (ConceptExpr.Not b) h = refl
  is_leaf c f (ConceptExpr.And l) h = absurd (miss (0 ∷ 1 ∷ 2 ∷ 3 ∷ 4 ∷ 5 ∷ 7 ∷ 8 ∷ 9 ∷ 10 ∷ 11 ∷ []) 6 tt h)
  is_leaf c f (ConceptExpr.Or l) h = refl
  is_leaf c f (ConceptExpr.Some r b) h = refl
  is_leaf c f (ConceptExpr.All r b) h = refl
  is_leaf c f (ConceptExpr.Min m r b) h = refl
  is_leaf c f (ConceptExpr.Max m r b) h = refl

module _ (s : List ℕ) (A : IsAccepted s) (c : ℕ) {expr : ConceptExpr} (R : ConceptRead s c expr) where
  leaves-read : (v : ConceptExpr) → expr ≡ v → leaves_of c (expr_of s v) (leaves (deck_of s)) ≡ leaves (deck_of s) c
  leaves-read v p = ap (λ (k : Concept). leaves_of c k (leaves (deck_of s))) (read_is s A c R v p) ∙ sym (leaves_at (deck_of s) (sound s A) c)

  pub leaves-and : (l : Span) → expr ≡ ConceptExpr.And l → flat_map (leaves (deck_of s)) (list_of s l) ≡ leaves (deck_of s) c
  unfolding leaves_of
  leaves-and l p = leaves-read _ p

  pub leaves-other : OneOf (0 ∷ 1 ∷ 2 ∷ 3 ∷ 4 ∷ 5 ∷ 7 ∷ 8 ∷ 9 ∷ 10 ∷ 11 ∷ []) (tag_of the_type expr) → c ∷ [] ≡ leaves (deck_of s) c
  leaves-other h = is_leaf s c (leaves (deck_of s)) expr h ∙ leaves-read expr refl

  pub is-leaf-read : OneOf (0 ∷ 1 ∷ 2 ∷ 3 ∷ 4 ∷ 5 ∷ 7 ∷ 8 ∷ 9 ∷ 10 ∷ 11 ∷ []) (tag_of the_type expr) → IsLeaf (concept_at (deck_of s) c)
  is-leaf-read h = subst IsLeaf (read_is s A c R expr refl) (leaf expr h)
    where
      leaf : (v : ConceptExpr) → OneOf (0 ∷ 1 ∷ 2 ∷ 3 ∷ 4 ∷ 5 ∷ 7 ∷ 8 ∷ 9 ∷ 10 ∷ 11 ∷ []) (tag_of the_type v) → IsLeaf (expr_of s v)
      leaf ConceptExpr.Top h = tt
      leaf ConceptExpr.Bot h = tt
      leaf (ConceptExpr.Atomic k) h = tt
      leaf (ConceptExpr.Nominal i) h = tt
      leaf (ConceptExpr.SelfRestriction r) h = tt
      leaf (ConceptExpr.Not b) h = tt
      leaf (ConceptExpr.And l) h = absurd (miss (0 ∷ 1 ∷ 2 ∷ 3 ∷ 4 ∷ 5 ∷ 7 ∷ 8 ∷ 9 ∷ 10 ∷ 11 ∷ []) 6 tt h)
      leaf (ConceptExpr.Or l) h = tt
      leaf (ConceptExpr.Some r b) h = tt
      leaf (ConceptExpr.All r b) h = tt
      leaf (ConceptExpr.Min m r b) h = tt
      leaf (ConceptExpr.Max m r b) h = tt

  -- a leaf that is no atom requires none
  pub leaf-atomless : OneOf (0 ∷ 1 ∷ 3 ∷ 4 ∷ 5 ∷ 6 ∷ 7 ∷ 8 ∷ 9 ∷ 10 ∷ 11 ∷ []) (tag_of the_type expr) → IsLeaf (concept_at (deck_of s) c) → [] ≡ required_atoms (deck_of s) c
  unfolding atoms_of
  leaf-atomless h f = none expr h (subst IsLeaf (sym (read_is s A c R expr refl)) f) ∙ ap (λ (k : Concept). atoms_of k (required_atoms (deck_of s))) (read_is s A c R expr refl) ∙ sym (atoms-at (deck_of s) (sound s A) c)
    where
      none : (v : ConceptExpr) → OneOf (0 ∷ 1 ∷ 3 ∷ 4 ∷ 5 ∷ 6 ∷ 7 ∷ 8 ∷ 9 ∷ 10 ∷ 11 ∷ []) (tag_of the_type v) → IsLeaf (expr_of s v) → [] ≡ atoms_of (expr_of s v) (required_atoms (deck_of s))
      none ConceptExpr.Top h f = refl
      none ConceptExpr.Bot h f = refl
      none (ConceptExpr.Atomic k) h f = absurd (miss (0 ∷ 1 ∷ 3 ∷ 4 ∷ 5 ∷ 6 ∷ 7 ∷ 8 ∷ 9 ∷ 10 ∷ 11 ∷ []) 2 tt h)
      none (ConceptExpr.Nominal i) h f = refl
      none (ConceptExpr.SelfRestriction r) h f = refl
      none (ConceptExpr.Not b) h f = refl
      none (ConceptExpr.And l) h f = absurd f
      none (ConceptExpr.Or l) h f = refl
      none (ConceptExpr.Some r b) h f = refl
      none (ConceptExpr.All r b) h f = refl
      none (ConceptExpr.Min m r b) h f = refl
      none (ConceptExpr.Max m r b) h f = refl

  -- its answer, where it is no And
  answer-read : (q : Question) (v : ConceptExpr) → expr ≡ v → answer_of q (expr_of s v) ≡ answer (deck_of s) q c
  unfolding answer
  answer-read q v p = ap (answer_of q) (read_is s A c R v p)

  pub answer-top : (q : Question) → expr ≡ ConceptExpr.Top → true ≡ answer (deck_of s) q c
  answer-top q p = answer-read q _ p

  pub answer-atom : (q : Question) (k : ClassId) → expr ≡ ConceptExpr.Atomic k → holds_atom q k.0 ≡ answer (deck_of s) q c
  answer-atom q k p = answer-read q _ p

  pub answer-other : (q : Question) → OneOf (1 ∷ 3 ∷ 4 ∷ 5 ∷ 6 ∷ 7 ∷ 8 ∷ 9 ∷ 10 ∷ 11 ∷ []) (tag_of the_type expr) → allows q ≡ answer (deck_of s) q c
  answer-other q h = allowed expr h ∙ answer-read q expr refl
    where
      allowed : (v : ConceptExpr) → OneOf (1 ∷ 3 ∷ 4 ∷ 5 ∷ 6 ∷ 7 ∷ 8 ∷ 9 ∷ 10 ∷ 11 ∷ []) (tag_of the_type v) → allows q ≡ answer_of q (expr_of s v)
      allowed ConceptExpr.Top h = absurd (miss (1 ∷ 3 ∷ 4 ∷ 5 ∷ 6 ∷ 7 ∷ 8 ∷ 9 ∷ 10 ∷ 11 ∷ []) 0 tt h)
      allowed ConceptExpr.Bot h = refl
      allowed (ConceptExpr.Atomic k) h = absurd (miss (1 ∷ 3 ∷ 4 ∷ 5 ∷ 6 ∷ 7 ∷ 8 ∷ 9 ∷ 10 ∷ 11 ∷ []) 2 tt h)
      allowed (ConceptExpr.Nominal i) h = refl
      allowed (ConceptExpr.SelfRestriction r) h = refl
      allowed (ConceptExpr.Not b) h = refl
      allowed (ConceptExpr.And l) h = refl
      allowed (ConceptExpr.Or l) h = refl
      allowed (ConceptExpr.Some r b) h = refl
      allowed (ConceptExpr.All r b) h = refl
      allowed (ConceptExpr.Min m r b) h = refl
      allowed (ConceptExpr.Max m r b) h = refl

  -- the answers of all that it leads to
  pub every-leaf-and : (q : Question) (l : Span) → expr ≡ ConceptExpr.And l → every (map (every_leaf (deck_of s) q) (list_of s l)) ≡ every_leaf (deck_of s) q c
  unfolding every_leaf
  every-leaf-and q l p = sym (every-flat (answer (deck_of s) q) (leaves (deck_of s)) (list_of s l)) ∙ ap (λ (xs : List ℕ). every (map (answer (deck_of s) q) xs)) (leaves-and l p)

  pub every-leaf-other : (q : Question) → OneOf (0 ∷ 1 ∷ 2 ∷ 3 ∷ 4 ∷ 5 ∷ 7 ∷ 8 ∷ 9 ∷ 10 ∷ 11 ∷ []) (tag_of the_type expr) → answer (deck_of s) q c ≡ every_leaf (deck_of s) q c
  every-leaf-other q h = every-leaf-one (deck_of s) q c (sym (leaves-other h))

-- ---- lists with the same members
pub has-append : (xs ys : List ℕ) (x : ℕ) → has (xs ++ ys) x ≡ (has xs x || has ys x)
unfolding has
has-append [] ys x = refl
has-append (y ∷ xs) ys x = rw (has-append xs ys x) (sym (or_assoc (eqb y x) (has xs x) (has ys x)))

-- each member passes
every-has : (p : ℕ → Bool) (xs : List ℕ) → every (map p xs) ≡ true → (x : ℕ) → has xs x ≡ true → p x ≡ true
unfolding every has
every-has p [] h x q = clash (cc)
every-has p (y ∷ ys) h x q = go (eqb y x) refl q (every-has p ys (and_right (p y) (every (map p ys)) h) x)
  where
    go : (b : Bool) → eqb y x ≡ b → (b || has ys x) ≡ true → (has ys x ≡ true → p x ≡ true) → p x ≡ true
    go true e r ih = subst (λ (z : ℕ). p z ≡ true) (eqb-true y x e) (and_left (p y) (every (map p ys)) h)
    go false e r ih = ih r

all-every : (p : ℕ → Bool) (xs : List ℕ) → ((x : ℕ) → has xs x ≡ true → p x ≡ true) → every (map p xs) ≡ true
unfolding every has
all-every p [] h = refl
all-every p (y ∷ ys) h = rw (h y (rw (eq-eqb y y refl))) (all-every p ys (λ x q. h x (later (eqb y x) q)))
  where
    later : (b : Bool) {a : Bool} → a ≡ true → (b || a) ≡ true
    later true e = refl
    later false e = e

pub every-same : (p : ℕ → Bool) (xs ys : List ℕ) → Same xs ys → every (map p xs) ≡ every (map p ys)
every-same p xs ys S = same_truth (every (map p xs)) (every (map p ys)) (λ h. all-every p ys (λ x q. every-has p xs h x (S x ∙ q))) (λ h. all-every p xs (λ x q. every-has p ys h x (sym (S x) ∙ q)))

-- ---- the walk downward
pub mark-below : (marks : List ℕ) (i : ℕ) {k : ConceptId} → highest_mark marks i ≡ Some k → k.0 < i
unfolding highest_mark
mark-below marks zero e = clash (cc)
mark-below marks (suc i) {k} e = go (label_has marks i) e (λ f. mark-below marks i f)
  where
    go : (b : Bool) → cond b (Some (record { 0 = i })) (highest_mark marks i) ≡ Some k → (highest_mark marks i ≡ Some k → k.0 < i) → k.0 < suc i
    go true e ih =
        let q : record { 0 = i } ≡ k = cc in
        omega (arith, ap (λ (c : ConceptId). c.0) q)
    go false e ih = omega (arith, ih e)

pub mark-none : (marks : List ℕ) (k : ℕ) → k ≤ 0 → highest_mark marks k ≡ None
unfolding highest_mark
mark-none marks zero h = refl
mark-none marks (suc k) h = absurd (omega (arith, h))

pub mark-skip : (marks : List ℕ) (k : ℕ) → 0 < k → label_has marks (k - 1) ≡ false → highest_mark marks k ≡ highest_mark marks (k - 1)
unfolding highest_mark
mark-skip marks zero h e = absurd (omega (arith, h))
mark-skip marks (suc k) h e = let p : suc k - 1 ≡ k = omega arith in rw (p, rw p at e)

pub mark-here : (marks : List ℕ) (k : ℕ) → 0 < k → label_has marks (k - 1) ≡ true → highest_mark marks k ≡ Some (record { 0 = k - 1 })
unfolding highest_mark
mark-here marks zero h e = absurd (omega (arith, h))
mark-here marks (suc k) h e = let p : suc k - 1 ≡ k = omega arith in rw (p, rw p at e)

-- a mark more, in truth values
mix : (a lo m e qo qi : Bool) → (e ≡ true → qi ≡ qo) → ((a || (lo && qo)) || ((m || e) && qi)) ≡ ((a || (m && qi)) || ((lo || e) && qo))
mix true lo m e qo qi h = refl
mix false true true true true true h = refl
mix false true true true true false h = let z : false ≡ true = h refl in clash (cc)
mix false true true true false true h = let z : true ≡ false = h refl in clash (cc)
mix false true true true false false h = refl
mix false true true false true true h = refl
mix false true true false true false h = refl
mix false true true false false true h = refl
mix false true true false false false h = refl
mix false true false true true true h = refl
mix false true false true true false h = let z : false ≡ true = h refl in clash (cc)
mix false true false true false true h = let z : true ≡ false = h refl in clash (cc)
mix false true false true false false h = refl
mix false true false false true true h = refl
mix false true false false true false h = refl
mix false true false false false true h = refl
mix false true false false false false h = refl
mix false false true true true true h = refl
mix false false true true true false h = let z : false ≡ true = h refl in clash (cc)
mix false false true true false true h = let z : true ≡ false = h refl in clash (cc)
mix false false true true false false h = refl
mix false false true false true true h = refl
mix false false true false true false h = refl
mix false false true false false true h = refl
mix false false true false false false h = refl
mix false false false true true true h = refl
mix false false false true true false h = let z : false ≡ true = h refl in clash (cc)
mix false false false true false true h = let z : true ≡ false = h refl in clash (cc)
mix false false false true false false h = refl
mix false false false false true true h = refl
mix false false false false true false h = refl
mix false false false false false true h = refl
mix false false false false false false h = refl

lt-more : (o i : ℕ) → ltb o (suc i) ≡ (ltb o i || eqb o i)
lt-more o i =
    ⊎_elim (λ (h : o < i). rw (lt-ltb o i h, lt-ltb o (suc i) (omega (arith, h))))
    (λ (h : i ≤ o). by_cases o i (λ (e : o ≡ i). rw (lt-ltb o (suc i) (omega (arith, e)), le-ltb o i h, eq-eqb o i e)) (λ n. rw (le-ltb o (suc i) (omega (arith, h, n)), le-ltb o i h, ne_eqb o i n)))
    (lt-or-le o i)

or_swap : (a b : Bool) → (a || b) ≡ (b || a)
or_swap true true = refl
or_swap true false = refl
or_swap false true = refl
or_swap false false = refl

turn : (a b c : Bool) → ((a || b) || c) ≡ (b || (c || a))
turn true true c = refl
turn true false true = refl
turn true false false = refl
turn false true c = refl
turn false false true = refl
turn false false false = refl

-- an empty word
skip-word : (marks : List ℕ) (n w : ℕ) → n ≤ 64 → get_or marks w 0 ≡ 0 → highest_mark marks (w * 64 + n) ≡ highest_mark marks (w * 64)
skip-word marks zero w h z = rw (add-zero (w * 64))
skip-word marks (suc n) w h z =
    let d : (w * 64 + n) / 64 ≡ w = omega (arith, h) in
    let e : w * 64 + suc n - 1 ≡ w * 64 + n = omega arith in
    mark-skip marks (w * 64 + suc n) (omega arith) (rw e (no-class marks (w * 64 + n) (rw d z))) ∙ ap (highest_mark marks) e ∙ skip-word marks n w (omega (arith, h)) z

pub mark-skip-word : (marks : List ℕ) (k : ℕ) → 0 < k → k % 64 ≡ 0 → get_or marks (k / 64 - 1) 0 ≡ 0 → highest_mark marks k ≡ highest_mark marks (k - 64)
mark-skip-word marks k h r z =
    let a : k ≡ (k / 64 - 1) * 64 + 64 = omega (arith, h, r) in
    let b : (k / 64 - 1) * 64 ≡ k - 64 = omega (arith, h, r) in
    ap (highest_mark marks) a ∙ skip-word marks 64 (k / 64 - 1) (omega arith) z ∙ ap (highest_mark marks) b

module _ (D : Deck) where
  -- what a mark leads to, where there is one, and what those below it do
  abbrev from_mark : List ℕ → Option ConceptId → List ℕ
  from_mark marks None = []
  from_mark marks (Some k) = leaves D k.0 ++ pending D marks k.0

  pub pending_next : (marks : List ℕ) (i : ℕ) → pending D marks i ≡ from_mark marks (highest_mark marks i)
  unfolding pending highest_mark
  pending_next marks zero = refl
  pending_next marks (suc i) = go (label_has marks i) (pending_next marks i)
    where
      go : (b : Bool) → pending D marks i ≡ from_mark marks (highest_mark marks i) → cond b (leaves D i ++ pending D marks i) (pending D marks i) ≡ from_mark marks (cond b (Some (record { 0 = i })) (highest_mark marks i))
      go true ih = refl
      go false ih = ih

  -- what is pending, number by number
  has-pending : (marks : List ℕ) (i x : ℕ) → has (pending D marks i) x ≡ any_below (λ k. label_has marks k && has (leaves D k) x) i
  unfolding pending has any_below
  has-pending marks zero x = refl
  has-pending marks (suc i) x = go (label_has marks i) (has-pending marks i x)
    where
      go : (b : Bool) {r : Bool} → has (pending D marks i) x ≡ r → has (cond b (leaves D i ++ pending D marks i) (pending D marks i)) x ≡ (r || (b && has (leaves D i) x))
      go true {r} h = has-append (leaves D i) (pending D marks i) x ∙ rw h (or_swap (has (leaves D i) x) r)
      go false {r} h = h ∙ sym (or-false r)

  -- one more mark
  mark-more : (m q : ℕ → Bool) (o i : ℕ) → any_below (λ k. (m k || eqb o k) && q k) i ≡ (any_below (λ k. m k && q k) i || (ltb o i && q o))
  unfolding any_below
  mark-more m q o zero = rw (le-ltb o zero (omega arith))
  mark-more m q o (suc i) = rw (mark-more m q o i, lt-more o i) (mix (any_below (λ k. m k && q k) i) (ltb o i) (m i) (eqb o i) (q o) (q i) (λ e. ap q (sym (eqb-true o i e))))

  pending-mark : (marks : List ℕ) (o i : ℕ) → o / 64 < length marks → o < i → (x : ℕ) → has (pending D (insert_bit marks o) i) x ≡ (has (pending D marks i) x || has (leaves D o) x)
  pending-mark marks o i w l x =
      let q : ℕ → Bool = λ k. has (leaves D k) x in
      has-pending (insert_bit marks o) i x ∙ any_same (λ k. label_has (insert_bit marks o) k && q k) (λ k. (label_has marks k || eqb o k) && q k) i (λ k b. ap (λ (z : Bool). z && q k) (has-insert marks o k w))
      ∙ mark-more (label_has marks) q o i ∙ ap (λ (z : Bool). any_below (λ k. label_has marks k && q k) i || (z && q o)) (lt-ltb o i l) ∙ ap (λ (z : Bool). z || q o) (sym (has-pending marks i x))

  -- the operands of an And are marked in its place
  pub pending-marked : (marks : List ℕ) (ks : List ℕ) (i : ℕ) → i ≤ length marks * 64 → ((j : ℕ) → j < length ks → get_or ks j 0 < i) → Same (flat_map (leaves D) ks ++ pending D marks i) (pending D (insert_all marks ks) i)
  unfolding insert_all flat_map
  pending-marked marks [] i w b x = refl
  pending-marked marks (k ∷ ks) i w b x =
      let f : k < i = b zero (omega arith) in
      let rest = flat_map (leaves D) ks in
      has-append (leaves D k ++ rest) (pending D marks i) x ∙ ap (λ (z : Bool). z || has (pending D marks i) x) (has-append (leaves D k) rest x)
      ∙ turn (has (leaves D k) x) (has rest x) (has (pending D marks i) x) ∙ ap (λ (z : Bool). has rest x || z) (sym (pending-mark marks k i (omega (arith, f, w)) f x)) ∙ sym (has-append rest (pending D (insert_bit marks k) i) x)
      ∙ pending-marked (insert_bit marks k) ks i (rw (length-insert marks k) w) (λ j h. b (suc j) (omega (arith, h))) x

  -- without a mark nothing is
  pub pending-none : (w i : ℕ) → pending D (replicate w 0) i ≡ []
  unfolding pending
  pending-none w zero = refl
  pending-none w (suc i) = rw (none_has w i) (pending-none w i)

  -- marks only grow
  insert-all-grown : (marks : List ℕ) (ks : List ℕ) (i : ℕ) → i ≤ length marks * 64 → ((j : ℕ) → j < length ks → get_or ks j 0 < i) → Grown marks (insert_all marks ks)
  unfolding insert_all
  insert-all-grown marks [] i w b j h = h
  insert-all-grown marks (k ∷ ks) i w b j h =
      let f : k < i = b zero (omega arith) in
      let one : label_has (insert_bit marks k) j ≡ true = has-insert marks k j (omega (arith, f, w)) ∙ ap (λ (z : Bool). z || eqb k j) h in
      insert-all-grown (insert_bit marks k) ks i (rw (length-insert marks k) w) (λ j h. b (suc j) (omega (arith, h))) j one

  -- ---- from one leaf to the next: each And is read as its number is passed, never again, as the walk goes down; what is marked below a number is not looked at yet
  pub record Walking (was : List ℕ) (i : ℕ) (marks : List ℕ) (below : ℕ) : Type 0 where
    pub wide : length marks ≡ length was
    pub down : below ≤ i
    pub grown : Grown was marks
    pub same : Same (pending D was i) (pending D marks below)

  pub walking_start : (was : List ℕ) (i : ℕ) → Walking was i was i
  walking_start was i = record { wide = refl; down = omega arith; grown = λ j h. h; same = λ x. refl }

  module _ {was : List ℕ} {i : ℕ} {marks : List ℕ} {below : ℕ} (G : Walking was i marks below) where
    at-mark : {o : Option ConceptId} → o ≡ highest_mark marks below → Same (pending D was i) (from_mark marks o)
    at-mark e x = G.same x ∙ ap (λ (xs : List ℕ). has xs x) (pending_next marks below ∙ ap (from_mark marks) (sym e))

    module _ {k : ConceptId} (e : Some k ≡ highest_mark marks below) where
      pub walking-down : k.0 < below
      walking-down = mark-below marks below (sym e)

      -- at an And
      pub walking-next : (l : List ℕ) → flat_map (leaves D) l ≡ leaves D k.0 → ((j : ℕ) → j < length l → get_or l j 0 < k.0) → k.0 ≤ length marks * 64 → {marks' : List ℕ} → marks' ≡ insert_all marks l → Walking was i marks' k.0
      walking-next l q b w {marks'} m = record {
        wide = ap length m ∙ length-insert-all marks l ∙ G.wide;
        down = omega (arith, G.down, walking-down);
        grown = λ j h. ap (λ (ys : List ℕ). label_has ys j) m ∙ insert-all-grown marks l k.0 w b j (G.grown j h);
        same = λ x.
            at-mark e x ∙ ap (λ (xs : List ℕ). has (xs ++ pending D marks k.0) x) (sym q)
            ∙ pending-marked marks l k.0 w b x ∙ ap (λ (ys : List ℕ). has (pending D ys k.0) x) (sym m);
      }

      -- at a leaf
      pub walking-leaf : k.0 ∷ [] ≡ leaves D k.0 → IsLeaf (concept_at D k.0) → Next D was i marks (Some k)
      walking-leaf q f = record {
        same = λ x. at-mark e x ∙ ap (λ (xs : List ℕ). has (xs ++ pending D marks k.0) x) (sym q);
        down = omega (arith, G.down, walking-down);
        leaf = f;
        grown = G.grown;
        wide = G.wide;
      }

    -- at the end
    pub walking-end : None ≡ highest_mark marks below → Next D was i marks None
    walking-end e = record { same = at-mark e; down = tt; leaf = tt; grown = G.grown; wide = G.wide }

  -- a walk begins with all that the operands lead to
  pub begins : (w : ℕ) (l : List ℕ) (i : ℕ) → i ≤ w * 64 → ((j : ℕ) → j < length l → get_or l j 0 < i) → {was : List ℕ} → was ≡ insert_all (replicate w 0) l → Same (flat_map (leaves D) l) (pending D was i)
  unfolding has
  begins w l i h b {was} m x =
      sym (or-false (has (flat_map (leaves D) l) x)) ∙ ap (λ (xs : List ℕ). has (flat_map (leaves D) l) x || has xs x) (sym (pending-none w i)) ∙ sym (has-append (flat_map (leaves D) l) (pending D (replicate w 0) i) x)
      ∙ pending-marked (replicate w 0) l i (rw (length-replicate {A = ℕ} w 0) h) b x ∙ ap (λ (ys : List ℕ). has (pending D ys i) x) (sym m)

  -- ---- a question of all that a walk still has before it
  abbrev asks : (ℕ → Bool) → List ℕ → ℕ → Bool
  asks p marks i = every (map p (pending D marks i))

  module _ (p : ℕ → Bool) {was : List ℕ} {i : ℕ} {marks : List ℕ} where
    module _ {k : ConceptId} (N : Next D was i marks (Some k)) where
      pub asks-next : p k.0 ≡ true → asks p was i ≡ asks p marks k.0
      unfolding every
      asks-next e = every-same p (pending D was i) (k.0 ∷ pending D marks k.0) N.same ∙ rw e

      pub asks-stop : p k.0 ≡ false → asks p was i ≡ false
      unfolding every
      asks-stop e = every-same p (pending D was i) (k.0 ∷ pending D marks k.0) N.same ∙ rw e

    pub asks-end : Next D was i marks None → asks p was i ≡ true
    unfolding every
    asks-end N = every-same p (pending D was i) [] N.same

  -- what a walk begins with
  pub asks-start : (q : Question) (l was : List ℕ) (i : ℕ) → Same (flat_map (leaves D) l) (pending D was i) → every (map (every_leaf D q) l) ≡ asks (answer D q) was i
  unfolding every_leaf
  asks-start q l was i S = sym (every-flat (answer D q) (leaves D) l) ∙ every-same (answer D q) _ _ S

  -- the operands from one on
  pub dropped-below : (n first : ℕ) (l : List ℕ) → ((j : ℕ) → j < length l → get_or l j 0 < n) → (j : ℕ) → j < length (drop first l) → get_or (drop first l) j 0 < n
  dropped-below n first l b j h = rw (get_or-drop first l j 0) (b (first + j) (omega (arith, h, length-drop first l)))

-- marks for all concepts
pub marks-reach : (s : List ℕ) → IsAccepted s → {marks : List ℕ} → marks ≡ replicate 256 0 → {k : ℕ} → k < concept_count (deck_of s) → (k < 16384) × (k < length marks * 64)
marks-reach s A {marks} z {k} h =
    let n = (limited s A).concepts in
    let w = ap length z ∙ length-replicate {A = ℕ} 256 0 in (omega (arith, n, h), omega (arith, n, h, w))
