-- Universal concepts, required atoms and the top floor: the steps of their definitions in a sound deck.
-- Assumes nothing.
use Prim.Native.Nat.{ℕ, zero, suc, ◌+◌, ◌-◌, ◌*◌, ◌/◌, ◌%◌, ◌^◌, ◌<◌, ◌≤◌}
use mathlib.Core.Bool.{Bool, true, false, cond}
use mathlib.Core.Path.{◌≡◌, refl, sym, ap, ◌∙◌}
use mathlib.Core.List.{List, [], ◌∷◌, flat_map, append-nil}
use native.Mathlib.Nat.{add-zero, add-suc, zero-div, mod-eq_of_lt}
use native.Mathlib.Omega.{arith}
use borrow.Author.Tests.{ne_eqb}
use lib.ListN.{length, get_or}
use types.Run.{OneOf, miss}
use denote.Enum.Declared.{tag_of}
use Rattle.deck.specs.contracts.concepts.ConceptExpr.{the_type}
use Rattle.deck.specs.declared.concepts.ConceptExpr.{ConceptExpr}
use Rattle.deck.specs.declared.rows.Span.{Span}
use Rattle.deck.specs.declared.axioms.AxiomRecord.{AxiomRecord}
use Rattle.deck.specs.Records.{axiom_form}
use Rattle.deck.specs.Deck.{Deck, Concept, Axiom, concept_at, concept_count, axiom_at}
use Rattle.deck.specs.Sound.{Sound, ConceptFits, counts_in}
use Rattle.deck.specs.Content.{IsAccepted, deck_of, axiom_of, make_axiom}
use Rattle.deck.specs.Reads.{ConceptRead, expr_of, ExprFits, list_of, AxiomRead, FormFits}
use Rattle.deck.specs.Below.{any_below}
use Rattle.deck.proofs.BelowLaws.{any-nowhere}
use Rattle.deck.proofs.CaseLaws.{Cases, case_at}
use Rattle.deck.proofs.SoundLaws.{sound}
use Rattle.eval.specs.Lent.{bit}
use Rattle.eval.specs.Lists.{every}
use Rattle.eval.proofs.Falling.{numbered-at}
use Rattle.eval.proofs.ListLaws.{map_same}
use Rattle.eval.proofs.Steps.{fits, each_below}
use Rattle.atoms.specs.Label.{joined, label_has}
use Rattle.atoms.specs.Floor.{universal_of, universal, atoms_of, required_atoms, satisfiable_row, atom_rows, floor_of, has_real, floored}
use Rattle.atoms.proofs.BitLaws.{any-bits}
use Rattle.atoms.proofs.ListWalks.{flat-same, flat-flat, any-mono}
use Rattle.atoms.proofs.LabelLaws.{length-joined}

-- ---- universal concepts and required atoms
module _ (D : Deck) (W : Sound D) where
  universal-same : (c : ℕ) (k : Concept) → ConceptFits (counts_in D) c k → (f g : ℕ → Bool) → ((o : ℕ) → o < c → f o ≡ g o) → universal_of k f ≡ universal_of k g
  unfolding universal_of
  universal-same c Concept.Top h f g q = refl
  universal-same c Concept.Bot h f g q = refl
  universal-same c (Concept.Atomic k) h f g q = refl
  universal-same c (Concept.Nominal i) h f g q = refl
  universal-same c (Concept.SelfRestriction r) h f g q = refl
  universal-same c (Concept.Not b) h f g q = refl
  universal-same c (Concept.And l) h f g q = ap every (map_same f g l (λ o m. q o (each_below c l h o m)))
  universal-same c (Concept.Or l) h f g q = refl
  universal-same c (Concept.Some r b) h f g q = refl
  universal-same c (Concept.All r b) h f g q = refl
  universal-same c (Concept.Min m r b) h f g q = refl
  universal-same c (Concept.Max m r b) h f g q = refl

  pub universal-at : (c : ℕ) → universal D c ≡ universal_of (concept_at D c) (universal D)
  unfolding universal
  universal-at = numbered-at false (λ c f. universal_of (concept_at D c) f) (λ c f g q. universal-same c (concept_at D c) (fits D W c) f g q)

  atoms-same : (c : ℕ) (k : Concept) → ConceptFits (counts_in D) c k → (f g : ℕ → List ℕ) → ((o : ℕ) → o < c → f o ≡ g o) → atoms_of k f ≡ atoms_of k g
  unfolding atoms_of
  atoms-same c Concept.Top h f g q = refl
  atoms-same c Concept.Bot h f g q = refl
  atoms-same c (Concept.Atomic k) h f g q = refl
  atoms-same c (Concept.Nominal i) h f g q = refl
  atoms-same c (Concept.SelfRestriction r) h f g q = refl
  atoms-same c (Concept.Not b) h f g q = refl
  atoms-same c (Concept.And l) h f g q = flat-same f g l (λ o m. q o (each_below c l h o m))
  atoms-same c (Concept.Or l) h f g q = refl
  atoms-same c (Concept.Some r b) h f g q = refl
  atoms-same c (Concept.All r b) h f g q = refl
  atoms-same c (Concept.Min m r b) h f g q = refl
  atoms-same c (Concept.Max m r b) h f g q = refl

  pub atoms-at : (c : ℕ) → required_atoms D c ≡ atoms_of (concept_at D c) (required_atoms D)
  unfolding required_atoms
  atoms-at = numbered-at [] (λ c f. atoms_of (concept_at D c) f) (λ c f g q. atoms-same c (concept_at D c) (fits D W c) f g q)

-- ---- a concept that is neither of the forms that are looked into
module _ (s : List ℕ) where
  pub not-universal : (f : ℕ → Bool) (v : ConceptExpr) → OneOf (1 ∷ 2 ∷ 3 ∷ 4 ∷ 5 ∷ 7 ∷ 8 ∷ 9 ∷ 10 ∷ 11 ∷ []) (tag_of the_type v) → false ≡ universal_of (expr_of s v) f
  unfolding universal_of
  not-universal f ConceptExpr.Top h = absurd (miss (1 ∷ 2 ∷ 3 ∷ 4 ∷ 5 ∷ 7 ∷ 8 ∷ 9 ∷ 10 ∷ 11 ∷ []) 0 tt h)
  not-universal f ConceptExpr.Bot h = refl
  not-universal f (ConceptExpr.Atomic k) h = refl
  not-universal f (ConceptExpr.Nominal i) h = refl
  not-universal f (ConceptExpr.SelfRestriction r) h = refl
  not-universal f (ConceptExpr.Not b) h = refl
  not-universal f (ConceptExpr.And l) h = absurd (miss (1 ∷ 2 ∷ 3 ∷ 4 ∷ 5 ∷ 7 ∷ 8 ∷ 9 ∷ 10 ∷ 11 ∷ []) 6 tt h)
  not-universal f (ConceptExpr.Or l) h = refl
  not-universal f (ConceptExpr.Some r b) h = refl
  not-universal f (ConceptExpr.All r b) h = refl
  not-universal f (ConceptExpr.Min m r b) h = refl
  not-universal f (ConceptExpr.Max m r b) h = refl

  pub no-atoms : (f : ℕ → List ℕ) (v : ConceptExpr) → OneOf (0 ∷ 1 ∷ 3 ∷ 4 ∷ 5 ∷ 7 ∷ 8 ∷ 9 ∷ 10 ∷ 11 ∷ []) (tag_of the_type v) → [] ≡ atoms_of (expr_of s v) f
  unfolding atoms_of
  no-atoms f ConceptExpr.Top h = refl
  no-atoms f ConceptExpr.Bot h = refl
  no-atoms f (ConceptExpr.Atomic k) h = absurd (miss (0 ∷ 1 ∷ 3 ∷ 4 ∷ 5 ∷ 7 ∷ 8 ∷ 9 ∷ 10 ∷ 11 ∷ []) 2 tt h)
  no-atoms f (ConceptExpr.Nominal i) h = refl
  no-atoms f (ConceptExpr.SelfRestriction r) h = refl
  no-atoms f (ConceptExpr.Not b) h = refl
  no-atoms f (ConceptExpr.And l) h = absurd (miss (0 ∷ 1 ∷ 3 ∷ 4 ∷ 5 ∷ 7 ∷ 8 ∷ 9 ∷ 10 ∷ 11 ∷ []) 6 tt h)
  no-atoms f (ConceptExpr.Or l) h = refl
  no-atoms f (ConceptExpr.Some r b) h = refl
  no-atoms f (ConceptExpr.All r b) h = refl
  no-atoms f (ConceptExpr.Min m r b) h = refl
  no-atoms f (ConceptExpr.Max m r b) h = refl

-- ---- a concept that was read
module _ (s : List ℕ) (A : IsAccepted s) (c : ℕ) {expr : ConceptExpr} (R : ConceptRead s c expr) where
  abbrev D : Deck
  D = deck_of s

  pub read_is : (v : ConceptExpr) → expr ≡ v → expr_of s v ≡ concept_at D c
  read_is v p = sym (ap (expr_of s) p) ∙ R.is

  pub universal-read : (v : ConceptExpr) → expr ≡ v → universal_of (expr_of s v) (universal D) ≡ universal D c
  universal-read v p = ap (λ (k : Concept). universal_of k (universal D)) (read_is v p) ∙ sym (universal-at D (sound s A) c)

  pub universal-other : OneOf (1 ∷ 2 ∷ 3 ∷ 4 ∷ 5 ∷ 7 ∷ 8 ∷ 9 ∷ 10 ∷ 11 ∷ []) (tag_of the_type expr) → false ≡ universal D c
  universal-other h = not-universal s (universal D) expr h ∙ universal-read expr refl

  pub fits_read : (v : ConceptExpr) → expr ≡ v → ExprFits s c v
  fits_read v p = rw p at R.fits

  -- its required atoms, as a concept of the form v has them
  atoms-read : (v : ConceptExpr) → expr ≡ v → atoms_of (expr_of s v) (required_atoms D) ≡ required_atoms D c
  atoms-read v p = ap (λ (k : Concept). atoms_of k (required_atoms D)) (read_is v p) ∙ sym (atoms-at D (sound s A) c)

  pub atoms-atomic : (k : ℕ) → expr ≡ ConceptExpr.Atomic (record { 0 = k }) → k ∷ [] ≡ required_atoms D c
  unfolding atoms_of
  atoms-atomic k p = atoms-read _ p

  pub atoms-and : (l : Span) → expr ≡ ConceptExpr.And l → flat_map (required_atoms D) (list_of s l) ≡ required_atoms D c
  unfolding atoms_of
  atoms-and l p = atoms-read _ p

  pub atoms-other : OneOf (0 ∷ 1 ∷ 3 ∷ 4 ∷ 5 ∷ 7 ∷ 8 ∷ 9 ∷ 10 ∷ 11 ∷ []) (tag_of the_type expr) → [] ≡ required_atoms D c
  atoms-other h = no-atoms s (required_atoms D) expr h ∙ atoms-read expr refl

  -- and their rows
  pub rows-atomic : (k : ℕ) → expr ≡ ConceptExpr.Atomic (record { 0 = k }) → satisfiable_row D k ≡ atom_rows D c
  unfolding atom_rows flat_map
  rows-atomic k p = sym (append-nil (satisfiable_row D k)) ∙ ap (flat_map (satisfiable_row D)) (atoms-atomic k p)

  pub rows-and : (l : Span) → expr ≡ ConceptExpr.And l → flat_map (atom_rows D) (list_of s l) ≡ atom_rows D c
  unfolding atom_rows
  rows-and l p = sym (flat-flat (satisfiable_row D) (required_atoms D) (list_of s l)) ∙ ap (flat_map (satisfiable_row D)) (atoms-and l p)

  pub rows_other : OneOf (0 ∷ 1 ∷ 3 ∷ 4 ∷ 5 ∷ 7 ∷ 8 ∷ 9 ∷ 10 ∷ 11 ∷ []) (tag_of the_type expr) → [] ≡ atom_rows D c
  unfolding atom_rows flat_map
  rows_other h = ap (flat_map (satisfiable_row D)) (atoms-other h)

-- ---- what an axiom gives
module _ (D : Deck) (s : List ℕ) (x y z : ℕ) where
  Nothing : ℕ → Type 0
  Nothing k = [] ≡ floor_of D (axiom_of s (2 + k) x y z)

  all_nothing : Cases Nothing 24
  unfolding Nothing axiom_of make_axiom floor_of
  all_nothing = ((((((((((((((((((((((((tt, refl), refl), refl), refl), refl), refl), refl), refl), refl), refl), refl), refl), refl), refl), refl), refl), refl), refl), refl), refl), refl), refl), refl), refl)

  pub other-axiom : (tag : ℕ) → 2 ≤ tag → tag < 26 → [] ≡ floor_of D (axiom_of s tag x y z)
  unfolding Nothing
  other-axiom tag h k = let e : 2 + (tag - 2) ≡ tag = omega arith in rw e at (case_at Nothing 24 (tag - 2) all_nothing (omega arith))

-- ---- an axiom that was read
module _ (s : List ℕ) (a : ℕ) {r : AxiomRecord} (R : AxiomRead s a r) where
  pub axiom-fits : (k : ℕ) → r.tag ≡ k → FormFits s (concept_count (deck_of s)) (axiom_form k) r.first r.second r.third
  axiom-fits k e = rw e at R.fits

  axiom-read : (k : ℕ) → r.tag ≡ k → axiom_of s k r.first r.second r.third ≡ axiom_at (deck_of s) a
  axiom-read k e = rw e at R.is

  pub axiom-sub-class : r.tag ≡ 0 → Axiom.SubClassOf r.first r.second ≡ axiom_at (deck_of s) a
  unfolding axiom_of make_axiom
  axiom-sub-class e = axiom-read 0 e

  pub axiom-equivalent : r.tag ≡ 1 → Axiom.EquivalentClasses (list_of s (record { start = r.first; count = r.second })) ≡ axiom_at (deck_of s) a
  unfolding axiom_of make_axiom
  axiom-equivalent e = axiom-read 1 e

  pub floor-sub-class : r.tag ≡ 0 → floor_of (deck_of s) (Axiom.SubClassOf r.first r.second) ≡ floor_of (deck_of s) (axiom_at (deck_of s) a)
  floor-sub-class e = ap (floor_of (deck_of s)) (axiom-sub-class e)

  pub floor-equivalent : r.tag ≡ 1 → floor_of (deck_of s) (Axiom.EquivalentClasses (list_of s (record { start = r.first; count = r.second }))) ≡ floor_of (deck_of s) (axiom_at (deck_of s) a)
  floor-equivalent e = ap (floor_of (deck_of s)) (axiom-equivalent e)

  pub floor-other : 2 ≤ r.tag → [] ≡ floor_of (deck_of s) (axiom_at (deck_of s) a)
  floor-other h = other-axiom (deck_of s) s r.first r.second r.third r.tag h R.known ∙ ap (floor_of (deck_of s)) R.is

-- ---- a class below M, by words
module _ (l : List ℕ) where
  pub no-class : (k : ℕ) → get_or l (k / 64) 0 ≡ 0 → label_has l k ≡ false
  unfolding label_has
  no-class k z = rw (z, zero-div (2 ^ (k % 64)))

  pub at-word : (i b : ℕ) → b < 64 → label_has l (i * 64 + b) ≡ bit (get_or l i 0) b
  unfolding label_has
  at-word i b h =
      let d : (i * 64 + b) / 64 ≡ i = omega arith in
      let r : (i * 64 + b) % 64 ≡ b = omega arith in
      rw (d, r)

  -- below word i there is no class
  module _ (i : ℕ) (z : (k : ℕ) → k < i → get_or l k 0 ≡ 0) where
    pub real-end : (b : ℕ) → b ≤ 64 → any_below (label_has l) (i * 64 + b) ≡ any_below (bit (get_or l i 0)) b
    unfolding any_below
    real-end zero h = rw (add-zero (i * 64)) (any-nowhere (label_has l) (i * 64) (λ k b. no-class k (z (k / 64) (omega arith))))
    real-end (suc b) h = rw (add-suc (i * 64) b, real-end b (omega arith), at-word i b (omega arith))

    pub real-found : (m : ℕ) → i < m / 64 → get_or l i 0 < 18446744073709551616 → (get_or l i 0 ≡ 0 → ⊥) → any_below (label_has l) m ≡ true
    real-found m h w n =
        let e : get_or l i 0 % 18446744073709551616 ≡ get_or l i 0 = mod-eq_of_lt w in
        let a : any_below (bit (get_or l i 0)) 64 ≡ true = any-bits (get_or l i 0) 64 ∙ rw (e, ne_eqb (get_or l i 0) 0 n) in
        any-mono (label_has l) (i * 64 + 64) m (omega arith) (real-end 64 (omega arith) ∙ a)

-- ---- a label that takes the floor in
module _ (D : Deck) (floor l : List ℕ) where
  pub floor-off : has_real D l ≡ true → floored D floor l ≡ l
  unfolding floored
  floor-off h = rw h

  pub floor-on : has_real D l ≡ false → floored D floor l ≡ joined l floor
  unfolding floored
  floor-on h = rw h

  pub length-floored : length (floored D floor l) ≡ length l
  unfolding floored
  length-floored = go (has_real D l)
    where
      go : (b : Bool) → length (cond b l (joined l floor)) ≡ length l
      go true = refl
      go false = length-joined l floor
