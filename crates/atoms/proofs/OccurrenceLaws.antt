-- The occurrences of required atoms: tables over the concepts below, what noting a concept's RunDeltas does, and the first atom.
-- Assumes nothing.
use Prim.Native.Nat.{ℕ, ◌+◌, ◌/◌, ◌<◌, ◌≤◌}
use mathlib.Core.Bool.{Bool, true, false}
use mathlib.Core.Path.{◌≡◌, refl, sym, ap, subst, ◌∙◌}
use mathlib.Core.List.Memᴰ.{head as here}
use mathlib.Core.List.Memᴰ.{tail as there}
use mathlib.Core.List.{List, [], ◌∷◌, ◌++◌, flat_map, append-nil, Memᴰ as Member}
use native.Mathlib.Omega.{arith}
use borrow.Author.Count.{below_more}
use borrow.Author.Tests.{lt-ltb, ltb-true, ltb-false}
use lib.ListN.{length, get_or, set, drop, length-append, drop_of_length-le}
use lib.Seq.{get_or-set_same, get_or-set_other}
use lib.Dec.{ltb}
use types.Run.{OneOf}
use denote.Enum.Declared.{tag_of}
use Rattle.deck.specs.contracts.concepts.ConceptExpr.{the_type}
use Rattle.deck.specs.declared.concepts.ConceptExpr.{ConceptExpr}
use Rattle.deck.specs.declared.numbers.ClassId.{ClassId}
use Rattle.deck.specs.declared.rows.Span.{Span}
use Rattle.deck.specs.Deck.{Deck}
use Rattle.deck.specs.Content.{IsAccepted, deck_of}
use Rattle.deck.specs.Reads.{ConceptRead, ListFits, list_of}
use Rattle.deck.specs.Sound.{EachBelow}
use Rattle.eval.proofs.Clash.{clash, both_true}
use Rattle.eval.proofs.Steps.{each_below}
use Rattle.eval.proofs.Walks.{list-step}
use Rattle.atoms.specs.declared.reasons.Reason.{Reason}
use Rattle.atoms.specs.declared.target_label.Target.{Target}
use Rattle.atoms.specs.declared.target_label.Target.TheVariants.{Row, Delta, NotClosed}
use Rattle.atoms.specs.Walk.{walk}
use Rattle.atoms.specs.Floor.{required_atoms}
use Rattle.atoms.specs.Reasons.{noted, counted, Log, note, run_delta, has_room}
use Rattle.atoms.specs.Target.{target_of}
use Rattle.atoms.specs.Body.{delta_by, atom_delta}
use Rattle.atoms.specs.Occurrences.{capped, sum_of, entry_at, logs, deltas_of, delta_count, noted_deltas, DeltasTo, IsFirst, FirstsTo}
use Rattle.atoms.proofs.LabelLaws.{not_so}
use Rattle.atoms.proofs.ListWalks.{flat-flat}
use Rattle.atoms.proofs.WalkLaws.{walk-flat}
use Rattle.atoms.proofs.FloorLaws.{atoms-atomic, atoms-and, atoms-other}

-- ---- a table filled from the front: one word more
pub table_more : (P : ℕ → ℕ → Type 0) (t : List ℕ) (i x : ℕ) → i < length t → ((k : ℕ) → k < i → P k (get_or t k 0)) → P i x → (k : ℕ) → k < i + 1 → P k (get_or (set t i x) k 0)
table_more P t i x h all new =
    below_more (λ (k : ℕ). P k (get_or (set t i x) k 0)) i
    (λ (k : ℕ) (b : k < i). subst (P k) (sym (get_or-set_other t i k x 0 (λ e. omega (arith, b, e)))) (all k b))
    (subst (P i) (sym (get_or-set_same t i x 0 h)) new)

-- ---- sums over a list that stop
pub sum_same : {A : Type 0} (f : ℕ → ℕ) (g : ℕ → List A) (l : List ℕ) → ((o : ℕ) → Member o l → f o ≡ capped (length (g o))) → capped (sum_of f l) ≡ capped (length (flat_map g l))
unfolding sum_of flat_map
sum_same f g [] h = refl
sum_same f g (x ∷ xs) h =
    let p = h x (here refl) in
    let q = sum_same f g xs (λ y m. h y (there m)) in
    rw (length-append (g x) (flat_map g xs)) (omega (arith, p, q))

module _ (f : ℕ → ℕ) (l : List ℕ) (i a : ℕ) where
  pub sum-end : length l ≤ i → a ≤ 4294967295 → a ≡ capped (a + sum_of f (drop i l))
  unfolding sum_of
  sum-end h m = rw (drop_of_length-le l h) (omega arith)

  pub sum_step : i < length l → {next : ℕ} → next ≡ capped (a + f (get_or l i 0)) → capped (a + sum_of f (drop i l)) ≡ capped (next + sum_of f (drop (i + 1) l))
  unfolding sum_of
  sum_step h q = rw (list-step 0 l i h) (omega (arith, q))

-- ---- a log that is full
pub counted_is : (t : ℕ) → t ≤ 4294967295 → counted t ≡ capped (t + 1)
unfolding counted
counted_is t m = go (ltb t 4294967295) refl
  where
    go : (b : Bool) → ltb t 4294967295 ≡ b → counted t ≡ capped (t + 1)
    go true e = rw e (omega (arith, ltb-true t 4294967295 e))
    go false e = rw e (omega (arith, ltb-false t 4294967295 e))

-- how the total grows, full or not
pub walk-total : (xs : List Reason) (g : Log) → g.total ≤ 4294967295 → (walk note xs g).total ≡ capped (g.total + length xs)
unfolding walk
walk-total [] g m = omega (arith, m)
walk-total (x ∷ xs) g m =
    let e : counted g.total ≡ capped (g.total + 1) = counted_is g.total m in
    walk-total xs (note x g) (omega (arith, e)) ∙ omega (arith, e)

module _ (words : List ℕ) where
  still_full : (t u : ℕ) → t ≤ u → has_room words t ≡ false → has_room words u ≡ false
  still_full t u l h = not_so (has_room words u) (λ (e : has_room words u ≡ true).
      let b = both_true (ltb u 4294967295) (ltb u (length words / 3)) e in
      let p : ltb t 4294967295 ≡ true = lt-ltb t 4294967295 (omega (arith, l, ltb-true u 4294967295 b.0)) in
      let q : ltb t (length words / 3) ≡ true = lt-ltb t (length words / 3) (omega (arith, l, ltb-true u (length words / 3) b.1)) in
      clash (cc))

  full-note : (t : ℕ) (x : Reason) → t ≤ 4294967295 → has_room words t ≡ false → note x (logs words t) ≡ logs words (capped (t + 1))
  unfolding noted
  full-note t x m h = rw h (ap (logs words) (counted_is t m))

  -- its words stay, its total grows by the count
  pub full-walk : (xs : List Reason) (t : ℕ) → t ≤ 4294967295 → has_room words t ≡ false → walk note xs (logs words t) ≡ logs words (capped (t + length xs))
  unfolding walk
  full-walk [] t m h = ap (logs words) (omega arith)
  full-walk (x ∷ xs) t m h =
      ap (walk note xs) (full-note t x m h) ∙ full-walk xs (capped (t + 1)) (omega arith) (still_full t (capped (t + 1)) (omega arith) h)
      ∙ ap (logs words) (omega arith)

-- ---- the RunDeltas of a concept that was read
-- by the label t of an atom's target: at most one
module _ (D : Deck) (r a : ℕ) {t : Target} (p : t ≡ target_of D a r) where
  pub count-row : (k : ClassId) → t ≡ Row k → 0 ≡ length (atom_delta D r a)
  count-row k q = ap (λ (v : Target). length (delta_by a v)) (sym q ∙ p)

  pub count-delta : (k : ClassId) → t ≡ Delta k → 1 ≡ length (atom_delta D r a)
  count-delta k q = ap (λ (v : Target). length (delta_by a v)) (sym q ∙ p)

  pub count-open : t ≡ NotClosed → 0 ≡ length (atom_delta D r a)
  count-open q = ap (λ (v : Target). length (delta_by a v)) (sym q ∙ p)

only-delta : (a : ℕ) (t : Target) → (length (delta_by a t) ≡ 0 → ⊥) → delta_by a t ≡ run_delta a ∷ []
only-delta a (Row k) h = absurd (h refl)
only-delta a (Delta k) h = refl
only-delta a NotClosed h = absurd (h refl)

module _ (s : List ℕ) (A : IsAccepted s) (c : ℕ) {expr : ConceptExpr} (R : ConceptRead s c expr) (r : ℕ) where
  abbrev D : Deck
  D = deck_of s

  deltas-atomic : (k : ClassId) → expr ≡ ConceptExpr.Atomic k → atom_delta D r k.0 ≡ deltas_of D r c
  unfolding flat_map
  deltas-atomic k p = sym (append-nil (atom_delta D r k.0)) ∙ ap (flat_map (atom_delta D r)) (atoms-atomic s A c R k.0 p)

  deltas-and : (l : Span) → expr ≡ ConceptExpr.And l → flat_map (deltas_of D r) (list_of s l) ≡ deltas_of D r c
  deltas-and l p = sym (flat-flat (atom_delta D r) (required_atoms D) (list_of s l)) ∙ ap (flat_map (atom_delta D r)) (atoms-and s A c R l p)

  deltas-other : OneOf (0 ∷ 1 ∷ 3 ∷ 4 ∷ 5 ∷ 7 ∷ 8 ∷ 9 ∷ 10 ∷ 11 ∷ []) (tag_of the_type expr) → [] ≡ deltas_of D r c
  unfolding flat_map
  deltas-other h = ap (flat_map (atom_delta D r)) (atoms-other s A c R h)

  -- how many
  small-delta : (a : ℕ) (t : Target) → length (delta_by a t) ≡ capped (length (delta_by a t))
  small-delta a (Row k) = refl
  small-delta a (Delta k) = refl
  small-delta a NotClosed = refl

  pub count-atomic : (k : ClassId) → expr ≡ ConceptExpr.Atomic k → length (atom_delta D r k.0) ≡ delta_count D r c
  count-atomic k p = small-delta k.0 (target_of D k.0 r) ∙ ap (λ (l : List Reason). capped (length l)) (deltas-atomic k p)

  pub count-and : (l : Span) → expr ≡ ConceptExpr.And l → ListFits s c l → (t : List ℕ) → DeltasTo D r t c → capped (sum_of (entry_at t) (list_of s l)) ≡ delta_count D r c
  count-and l p f t T =
      sum_same (entry_at t) (deltas_of D r) (list_of s l) (λ o m. T o (each_below c (list_of s l) f.below o m))
      ∙ ap (λ (l : List Reason). capped (length l)) (deltas-and l p)

  pub count-other : OneOf (0 ∷ 1 ∷ 3 ∷ 4 ∷ 5 ∷ 7 ∷ 8 ∷ 9 ∷ 10 ∷ 11 ∷ []) (tag_of the_type expr) → 0 ≡ delta_count D r c
  count-other h = ap (λ (l : List Reason). capped (length l)) (deltas-other h)

  -- the log after them
  module _ (g : List ℕ) (t : ℕ) where
    pub noted-atomic : (k : ClassId) → expr ≡ ConceptExpr.Atomic k → (delta_count D r c ≡ 0 → ⊥) → {g' : List ℕ} {t' : ℕ} → g' ≡ noted g t (run_delta k.0) → t' ≡ counted t → logs g' t' ≡ noted_deltas D r c (logs g t)
    unfolding noted_deltas walk
    noted-atomic k p n e u =
        let q = only-delta k.0 (target_of D k.0 r) (λ z. n (sym (count-atomic k p) ∙ z)) in
        let one : walk note (run_delta k.0 ∷ []) (logs g t) ≡ walk note (deltas_of D r c) (logs g t) = ap (λ (l : List Reason). walk note l (logs g t)) (sym q ∙ deltas-atomic k p) in
        rw (e, u) one

    pub noted-and : (l : Span) → expr ≡ ConceptExpr.And l → walk (noted_deltas D r) (list_of s l) (logs g t) ≡ noted_deltas D r c (logs g t)
    unfolding noted_deltas
    noted-and l p = sym (walk-flat note (deltas_of D r) (list_of s l) (logs g t)) ∙ ap (λ (l : List Reason). walk note l (logs g t)) (deltas-and l p)

    pub noted_other : OneOf (0 ∷ 1 ∷ 3 ∷ 4 ∷ 5 ∷ 7 ∷ 8 ∷ 9 ∷ 10 ∷ 11 ∷ []) (tag_of the_type expr) → logs g t ≡ noted_deltas D r c (logs g t)
    unfolding noted_deltas walk
    noted_other h = ap (λ (l : List Reason). walk note l (logs g t)) (deltas-other h)

-- ---- without reading: no RunDelta, or no room
none_of : {A : Type 0} (l : List A) → length l ≡ 0 → l ≡ []
none_of [] h = refl
none_of (x ∷ xs) h = absurd (omega (arith, h))

module _ (D : Deck) (r c : ℕ) (g : List ℕ) (t : ℕ) {x : ℕ} (E : x ≡ delta_count D r c) where
  pub noted-none : x ≡ 0 → logs g t ≡ noted_deltas D r c (logs g t)
  unfolding noted_deltas walk
  noted-none z = ap (λ (l : List Reason). walk note l (logs g t)) (sym (none_of (deltas_of D r c) (omega (arith, E, z))))

  pub noted-full : t ≤ 4294967295 → has_room g t ≡ false → {n : ℕ} → n ≡ capped (t + x) → logs g n ≡ noted_deltas D r c (logs g t)
  unfolding noted_deltas
  noted-full m h q = sym (full-walk g (deltas_of D r c) t m h ∙ ap (logs g) (omega (arith, E, q)))

-- ---- the first required atom
pub first-none : (ks : List ℕ) (x : ℕ) → IsFirst ks x → x ≡ 4294967295 → ks ≡ []
first-none [] x f e = refl
first-none (a ∷ ks) x f e = absurd (omega (arith, f.0, f.1, e))

first-append : (ks ms : List ℕ) (x : ℕ) → IsFirst ks x → (x ≡ 4294967295 → ⊥) → IsFirst (ks ++ ms) x
first-append [] ms x f n = absurd (n f)
first-append (a ∷ ks) ms x f n = f

-- what the table has for the operand o that a loop reads at i
pub first-at : (D : Deck) (t : List ℕ) (n : ℕ) → FirstsTo D t n → (l : List ℕ) → EachBelow n l → (i : ℕ) → i < length l → (o : ℕ) → o ≡ get_or l i 0 → IsFirst (required_atoms D (get_or l i 0)) (get_or t o 0)
first-at D t n T l B i h o q = rw q (T (get_or l i 0) (B i h))

module _ (f : ℕ → List ℕ) (l : List ℕ) (i : ℕ) where
  pub first-end : length l ≤ i → IsFirst (flat_map f (drop i l)) 4294967295
  unfolding flat_map
  first-end h = rw (drop_of_length-le l h) refl

  module _ (h : i < length l) {x : ℕ} (F : IsFirst (f (get_or l i 0)) x) where
    pub first_step : x ≡ 4294967295 → flat_map f (drop i l) ≡ flat_map f (drop (i + 1) l)
    unfolding flat_map
    first_step e = rw (list-step 0 l i h, first-none (f (get_or l i 0)) x F e)

    pub first-stop : (x ≡ 4294967295 → ⊥) → IsFirst (flat_map f (drop i l)) x
    unfolding flat_map
    first-stop n = rw (list-step 0 l i h) (first-append (f (get_or l i 0)) (flat_map f (drop (i + 1) l)) x F n)

module _ (s : List ℕ) (A : IsAccepted s) (c : ℕ) {expr : ConceptExpr} (R : ConceptRead s c expr) where
  pub first-atomic : (k : ClassId) → expr ≡ ConceptExpr.Atomic k → k.0 < 4294967295 → IsFirst (required_atoms (deck_of s) c) k.0
  first-atomic k p b = subst (λ (l : List ℕ). IsFirst l k.0) (atoms-atomic s A c R k.0 p) (refl, b)

  pub first-and : (l : Span) → expr ≡ ConceptExpr.And l → (x : ℕ) → IsFirst (flat_map (required_atoms (deck_of s)) (list_of s l)) x → IsFirst (required_atoms (deck_of s) c) x
  first-and l p x f = subst (λ (l : List ℕ). IsFirst l x) (atoms-and s A c R l p) f

  pub first-other : OneOf (0 ∷ 1 ∷ 3 ∷ 4 ∷ 5 ∷ 7 ∷ 8 ∷ 9 ∷ 10 ∷ 11 ∷ []) (tag_of the_type expr) → IsFirst (required_atoms (deck_of s) c) 4294967295
  first-other h = subst (λ (l : List ℕ). IsFirst l 4294967295) (atoms-other s A c R h) refl
