-- A body with many required atoms: what they give a label does not mind order and repeats, a walk that takes each concept once, and the reasons.
-- Assumes nothing.
use Prim.Native.Nat.{ℕ}
use mathlib.Core.Bool.{Bool, true, false, cond, not, ◌||◌, ◌&&◌, or-true, or-false}
use mathlib.Core.Path.{◌≡◌, refl, sym, ap, ◌∙◌}
use mathlib.Core.List.{List, [], ◌∷◌, ◌++◌, map, flat_map, append-nil}
use lib.ListN.{length, get_or, replicate}
use types.Run.{OneOf}
use denote.Enum.Declared.{tag_of}
use Rattle.deck.specs.contracts.concepts.ConceptExpr.{the_type}
use Rattle.deck.specs.declared.concepts.ConceptExpr.{ConceptExpr}
use Rattle.deck.specs.declared.numbers.ClassId.{ClassId}
use Rattle.std.specs.Prelude.{Some, None}
use Rattle.deck.specs.declared.numbers.ConceptId.{ConceptId}
use Rattle.deck.specs.Deck.{Deck, concept_at, role_at}
use Rattle.deck.specs.Sound.{Sound}
use Rattle.deck.specs.Content.{IsAccepted, deck_of}
use Rattle.deck.specs.Reads.{ConceptRead}
use Rattle.eval.specs.Lent.{label_width}
use Rattle.eval.specs.Lists.{every, any}
use Rattle.eval.proofs.Clash.{clash}
use Rattle.atoms.specs.declared.large.Seen.{Seen}
use Rattle.atoms.specs.declared.reasons.Reason.{Reason}
use Rattle.atoms.specs.declared.target_label.Target.{Target}
use Rattle.atoms.specs.declared.target_label.Target.TheVariants.{Row, Delta, NotClosed}
use Rattle.atoms.specs.Walk.{walk}
use Rattle.atoms.specs.Label.{insert_all, label_of}
use Rattle.atoms.specs.Floor.{required_atoms}
use Rattle.atoms.specs.Leaves.{leaves, IsLeaf, pending, Same, Next}
use Rattle.atoms.specs.Reasons.{noted, counted, Log, note, label_not_closed}
use Rattle.atoms.specs.Target.{target_of}
use Rattle.atoms.specs.Body.{Joined, row_of_class, body_of, delta_by, atom_row, atom_delta, atom_open, classes_of, reasons_of}
use Rattle.atoms.specs.Occurrences.{logs, deltas_of, noted_deltas, IsFirst}
use Rattle.atoms.specs.Large.{delta_from, Gathered, seen_as, gathered, is_any, atom_gives, took, SeenOf, noted_all}
use Rattle.atoms.proofs.LabelLaws.{insert-all-append}
use Rattle.atoms.proofs.ListWalks.{flat_append}
use Rattle.atoms.proofs.WalkLaws.{walk-append}
use Rattle.atoms.proofs.MemberLaws.{or_assoc}
use Rattle.atoms.proofs.FloorLaws.{atoms-atomic}
use Rattle.atoms.proofs.BodyLaws.{body-label, body-reasons}
use Rattle.atoms.proofs.LeafLaws.{atoms-leaves, leaf-atomless, every-same}
use Rattle.atoms.proofs.JoinLaws.{insert-same, flat-members}

-- ---- is one of a list so
any_append : {A : Type 0} (p : A → Bool) (xs ys : List A) → any (map p (xs ++ ys)) ≡ (any (map p xs) || any (map p ys))
unfolding any
any_append p [] ys = refl
any_append p (x ∷ xs) ys = rw (any_append p xs ys) (sym (or_assoc (p x) (any (map p xs)) (any (map p ys))))

any-not : (p : ℕ → Bool) (l : List ℕ) → any (map p l) ≡ not (every (map (λ x. not (p x)) l))
unfolding any every
any-not p [] = refl
any-not p (x ∷ xs) = go (p x) (any-not p xs)
  where
    go : (b : Bool) → any (map p xs) ≡ not (every (map (λ x. not (p x)) xs)) → (b || any (map p xs)) ≡ not (not b && every (map (λ x. not (p x)) xs))
    go true h = refl
    go false h = h

any_same : (p : ℕ → Bool) (xs ys : List ℕ) → Same xs ys → any (map p xs) ≡ any (map p ys)
any_same p xs ys S = any-not p xs ∙ ap not (every-same (λ x. not (p x)) xs ys S) ∙ sym (any-not p ys)

-- ---- what atoms give
same_parts : {l l' : List ℕ} {f f' u u' d d' : Bool} → l ≡ l' → f ≡ f' → u ≡ u' → d ≡ d' → gathered l (seen_as f u d) ≡ gathered l' (seen_as f' u' d')
same_parts p q v w = rw (p, q, v, w)

module _ (D : Deck) (r : ℕ) where
  took-none : (s : Gathered) → s ≡ took D r [] s
  unfolding took flat_map any insert_all
  took-none s = same_parts refl (sym (or-false s.seen.found)) (sym (or-false s.seen.unclosed)) (sym (or-false s.seen.delta))

  more : (p : ℕ → Bool) (b : Bool) (xs ys : List ℕ) → (b || any (map p (xs ++ ys))) ≡ ((b || any (map p xs)) || any (map p ys))
  more p b xs ys = ap (λ (c : Bool). b || c) (any_append p xs ys) ∙ sym (or_assoc b (any (map p xs)) (any (map p ys)))

  took-append : (xs ys : List ℕ) (s : Gathered) → took D r (xs ++ ys) s ≡ took D r ys (took D r xs s)
  unfolding took
  took-append xs ys s =
      same_parts (ap (insert_all s.label) (flat_append (atom_row D r) xs ys) ∙ insert-all-append s.label (flat_map (atom_row D r) xs) (flat_map (atom_row D r) ys))
      (more is_any s.seen.found xs ys) (more (atom_open D r) s.seen.unclosed xs ys) (more (atom_gives D r) s.seen.delta xs ys)

  took-same : (xs ys : List ℕ) → Same xs ys → (s : Gathered) → took D r xs s ≡ took D r ys s
  unfolding took
  took-same xs ys S s =
      same_parts (insert-same s.label (flat_map (atom_row D r) xs) (flat_map (atom_row D r) ys) (flat-members (atom_row D r) xs ys S)) (ap (λ (b : Bool). s.seen.found || b) (any_same is_any xs ys S))
      (ap (λ (b : Bool). s.seen.unclosed || b) (any_same (atom_open D r) xs ys S)) (ap (λ (b : Bool). s.seen.delta || b) (any_same (atom_gives D r) xs ys S))

  -- one atom
  pub took-one : (a : ℕ) (l : List ℕ) (z : Seen) {l' : List ℕ} {u d : Bool} → l' ≡ insert_all l (atom_row D r a) → u ≡ (z.unclosed || atom_open D r a) → d ≡ (z.delta || atom_gives D r a) → gathered l' (seen_as true u d) ≡ took D r (a ∷ []) (gathered l z)
  unfolding took flat_map any
  took-one a l z e p q =
      same_parts (e ∙ ap (insert_all l) (sym (append-nil (atom_row D r a)))) (sym (or-true z.found)) (p ∙ ap (λ (b : Bool). z.unclosed || b) (sym (or-false (atom_open D r a))))
      (q ∙ ap (λ (b : Bool). z.delta || b) (sym (or-false (atom_gives D r a))))

-- ---- a concept that is no And
module _ (s : List ℕ) (A : IsAccepted s) (c : ℕ) {expr : ConceptExpr} (R : ConceptRead s c expr) (r : ℕ) (g : Gathered) where
  pub leaf-atom : (k : ClassId) → expr ≡ ConceptExpr.Atomic k → took (deck_of s) r (k.0 ∷ []) g ≡ took (deck_of s) r (required_atoms (deck_of s) c) g
  leaf-atom k p = ap (λ (ks : List ℕ). took (deck_of s) r ks g) (atoms-atomic s A c R k.0 p)

  pub leaf-other : OneOf (0 ∷ 1 ∷ 3 ∷ 4 ∷ 5 ∷ 6 ∷ 7 ∷ 8 ∷ 9 ∷ 10 ∷ 11 ∷ []) (tag_of the_type expr) → IsLeaf (concept_at (deck_of s) c) → g ≡ took (deck_of s) r (required_atoms (deck_of s) c) g
  leaf-other h f = took-none (deck_of s) r g ∙ ap (λ (ks : List ℕ). took (deck_of s) r ks g) (leaf-atomless s A c R h f)

-- ---- the walk downward: what is still to come
module _ (D : Deck) (r : ℕ) where
  abbrev pub coming : List ℕ → ℕ → Gathered → Gathered
  coming marks i s = took D r (flat_map (required_atoms D) (pending D marks i)) s

  coming_same : (xs ys : List ℕ) → Same xs ys → (s : Gathered) → took D r (flat_map (required_atoms D) xs) s ≡ took D r (flat_map (required_atoms D) ys) s
  coming_same xs ys S = took-same D r (flat_map (required_atoms D) xs) (flat_map (required_atoms D) ys) (flat-members (required_atoms D) xs ys S)

  pub coming-start : Sound D → (c : ℕ) (was : List ℕ) (i : ℕ) → Same (flat_map (leaves D) (c ∷ [])) (pending D was i) → (s : Gathered) → took D r (required_atoms D c) s ≡ coming was i s
  unfolding flat_map
  coming-start W c was i S s =
      ap (λ (ks : List ℕ). took D r ks s) (atoms-leaves D W c ∙ ap (flat_map (required_atoms D)) (sym (append-nil (leaves D c))))
      ∙ coming_same (leaves D c ++ []) (pending D was i) S s

  module _ {was : List ℕ} {i : ℕ} {marks : List ℕ} (s : Gathered) where
    pub coming-next : {k : ConceptId} → Next D was i marks (Some k) → {s' : Gathered} → s' ≡ took D r (required_atoms D k.0) s → coming was i s ≡ coming marks k.0 s'
    unfolding flat_map
    coming-next {k} N {s'} e =
        coming_same (pending D was i) (k.0 ∷ pending D marks k.0) N.same s
        ∙ took-append D r (required_atoms D k.0) (flat_map (required_atoms D) (pending D marks k.0)) s ∙ ap (took D r (flat_map (required_atoms D) (pending D marks k.0))) (sym e)

    pub coming-end : Next D was i marks None → s ≡ coming was i s
    unfolding flat_map
    coming-end N = took-none D r s ∙ sym (coming_same (pending D was i) [] N.same s)

-- ---- the reasons
module _ (D : Deck) (r c : ℕ) where
  abbrev atoms : List ℕ
  atoms = required_atoms D c

  -- no RunDelta
  none-by : (a : ℕ) (t : Target) → delta_from t ≡ false → delta_by a t ≡ []
  none-by a (Row k) h = refl
  none-by a (Delta k) h = clash (cc)
  none-by a NotClosed h = refl

  no-deltas : (ks : List ℕ) → any (map (atom_gives D r) ks) ≡ false → flat_map (atom_delta D r) ks ≡ []
  unfolding any flat_map
  no-deltas [] h = refl
  no-deltas (a ∷ ks) h = go (atom_gives D r a) refl h (no-deltas ks)
    where
      go : (b : Bool) → atom_gives D r a ≡ b → (b || any (map (atom_gives D r) ks)) ≡ false → (any (map (atom_gives D r) ks) ≡ false → flat_map (atom_delta D r) ks ≡ []) → atom_delta D r a ++ flat_map (atom_delta D r) ks ≡ []
      go true e h ih = clash (cc)
      go false e h ih = rw (none-by a (target_of D a r) e) (ih h)

  pub quiet-deltas : {d : Bool} → d ≡ any (map (atom_gives D r) atoms) → d ≡ false → (g : Log) → g ≡ noted_deltas D r c g
  unfolding noted_deltas walk
  quiet-deltas p q g = ap (λ (l : List Reason). walk note l g) (sym (no-deltas atoms (sym p ∙ q)))

  -- the first of some
  first_of : (ks : List ℕ) (x : ℕ) → IsFirst ks x → any (map is_any ks) ≡ true → x ≡ get_or ks 0 0
  unfolding any
  first_of [] x f h = clash (cc)
  first_of (a ∷ ks) x f h = f.0

  pub first-noted : {x : ℕ} → IsFirst atoms x → any (map is_any atoms) ≡ true → label_not_closed x r ≡ label_not_closed (get_or atoms 0 0) r
  first-noted {x} f h = ap (λ (k : ℕ). label_not_closed k r) (first_of atoms x f h)

  -- after the RunDeltas, with or without LabelNotClosed
  module _ (g : Log) {w : List ℕ} {n : ℕ} (E : logs w n ≡ noted_deltas D r c g) where
    all_noted : (b : Bool) → any (map (atom_open D r) atoms) ≡ b → walk note (cond b (label_not_closed (get_or atoms 0 0) r ∷ []) []) (logs w n) ≡ noted_all D r c g
    unfolding noted_all noted_deltas
    all_noted b e = ap (walk note (cond b (label_not_closed (get_or atoms 0 0) r ∷ []) [])) E ∙ sym (walk-append note (deltas_of D r c) (cond b (label_not_closed (get_or atoms 0 0) r ∷ []) []) g) ∙ rw e

    pub all_closed : {u : Bool} → u ≡ any (map (atom_open D r) atoms) → u ≡ false → logs w n ≡ noted_all D r c g
    unfolding walk
    all_closed p q = all_noted false (sym p ∙ q)

    pub all-open : {u : Bool} → u ≡ any (map (atom_open D r) atoms) → u ≡ true → {w' : List ℕ} {n' : ℕ} → w' ≡ noted w n (label_not_closed (get_or atoms 0 0) r) → n' ≡ counted n → logs w' n' ≡ noted_all D r c g
    unfolding walk
    all-open p q e f = rw (e, f) (all_noted true (sym p ∙ q))

-- ---- the body: the label l₁ was cleared to l₀
module _ (D : Deck) (r c : ℕ) (l₁ l₀ : List ℕ) (Z : l₀ ≡ replicate (length l₁) 0) (W : length l₁ ≡ label_width D) {l : List ℕ} {z : Seen} (E : gathered l z ≡ took D r (required_atoms D c) (gathered l₀ (seen_as false false false))) where
  abbrev needed : List ℕ
  needed = required_atoms D c

  pub seen_of : SeenOf D r c z
  unfolding took
  seen_of = record { found = ap (λ (s : Gathered). s.seen.found) E; unclosed = ap (λ (s : Gathered). s.seen.unclosed) E; delta = ap (λ (s : Gathered). s.seen.delta) E }

  label_is : l ≡ label_of (label_width D) (flat_map (atom_row D r) needed)
  unfolding took label_of
  label_is = ap (λ (s : Gathered). s.label) E ∙ ap (λ (x : List ℕ). insert_all x (flat_map (atom_row D r) needed)) (Z ∙ ap (λ (w : ℕ). replicate w 0) W)

  none_needed : (ks : List ℕ) → any (map is_any ks) ≡ false → ks ≡ []
  unfolding any
  none_needed [] h = refl
  none_needed (a ∷ ks) h = clash (cc)

  some-needed : (ks : List ℕ) → any (map is_any ks) ≡ true → flat_map (atom_row D r) ks ≡ classes_of D r ks
  unfolding any
  some-needed [] h = clash (cc)
  some-needed (a ∷ ks) h = refl

  pub large-none : z.found ≡ false → {l' : List ℕ} → l' ≡ insert_all l (flat_map (row_of_class D) (role_at D r).range) → (g : List ℕ) (n : ℕ) → Joined l' g n (body_of D r c g n)
  unfolding label_of flat_map insert_all walk any
  large-none f {l'} q g n =
      let e : needed ≡ [] = none_needed needed (sym seen_of.found ∙ f) in
      let clear : l ≡ replicate (label_width D) 0 = label_is ∙ ap (λ (ks : List ℕ). label_of (label_width D) (flat_map (atom_row D r) ks)) e in
      let reasons = sym (body-reasons D r g n c ∙ ap (λ (ks : List ℕ). walk note (reasons_of D r ks) (logs g n)) e) in
      record {
        label = q ∙ ap (λ (x : List ℕ). insert_all x (flat_map (row_of_class D) (role_at D r).range)) clear ∙ sym (body-label D r g n c ∙ ap (λ (ks : List ℕ). label_of (label_width D) (classes_of D r ks)) e);
        log = ap (λ (x : Log). x.words) reasons;
        reasons = ap (λ (x : Log). x.total) reasons;
      }

  pub large-some : z.found ≡ true → (g : List ℕ) (n : ℕ) {g' : List ℕ} {n' : ℕ} → logs g' n' ≡ noted_all D r c (logs g n) → Joined l g' n' (body_of D r c g n)
  unfolding noted_all
  large-some f g n {g'} {n'} q =
      let reasons = q ∙ sym (body-reasons D r g n c) in
      record {
        label = label_is ∙ ap (label_of (label_width D)) (some-needed needed (sym seen_of.found ∙ f)) ∙ sym (body-label D r g n c);
        log = ap (λ (x : Log). x.words) reasons;
        reasons = ap (λ (x : Log). x.total) reasons;
      }
