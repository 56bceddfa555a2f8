-- The label of a body's target: one atom, a concept by its form, and what closes it.
-- Assumes nothing.
use Prim.Native.Nat.{ℕ}
use mathlib.Core.Bool.{Bool, true, false, cond, ◌||◌, or-true, or-false}
use mathlib.Core.Path.{◌≡◌, refl, sym, ap, subst, ◌∙◌}
use mathlib.Core.List.{List, [], ◌∷◌, map, flat_map}
use lib.ListN.{length, replicate, length-replicate}
use types.Run.{OneOf}
use denote.Enum.Declared.{tag_of}
use Rattle.std.specs.Prelude.{Option, Some, None}
use Rattle.std.specs.Option.{option_or}
use Rattle.deck.specs.contracts.concepts.ConceptExpr.{the_type}
use Rattle.deck.specs.declared.concepts.ConceptExpr.{ConceptExpr}
use Rattle.deck.specs.declared.numbers.ClassId.{ClassId}
use Rattle.deck.specs.declared.rows.Span.{Span}
use Rattle.deck.specs.Deck.{Deck, role_at}
use Rattle.deck.specs.Content.{IsAccepted, deck_of}
use Rattle.deck.specs.Reads.{ConceptRead, list_of}
use Rattle.eval.specs.Lent.{label_width}
use Rattle.eval.specs.Lists.{any}
use Rattle.atoms.specs.declared.body.Atoms.{Atoms}
use Rattle.atoms.specs.declared.target_label.Target.{Target}
use Rattle.atoms.specs.declared.target_label.Target.TheVariants.{Row, Delta, NotClosed}
use Rattle.atoms.specs.Walk.{walk}
use Rattle.atoms.specs.Label.{insert_all, label_of}
use Rattle.atoms.specs.Floor.{required_atoms}
use Rattle.atoms.specs.Reasons.{noted, counted, Log, note, run_delta, label_not_closed}
use Rattle.atoms.specs.Target.{target_of}
use Rattle.atoms.specs.Body.{Body, body, Joined, met, row_of_class, join_by, join_atom, join_atoms, no_atoms, noted_in, close_by, close_body, body_of, row_by, delta_by, open_by, atom_row, atom_delta, atom_open, classes_of, reasons_of}
use Rattle.atoms.proofs.FloorLaws.{atoms-atomic, atoms-and, atoms-other}
use Rattle.atoms.proofs.WalkLaws.{walk-append, walk-flat, walk-keeps}
use Rattle.atoms.proofs.MemberLaws.{or_assoc}
use Rattle.atoms.proofs.LabelLaws.{length-insert-all, insert-all-append}

-- ---- one more atom
-- by its target t; j becomes z
module _ (D : Deck) (r a : ℕ) {t : Target} (p : t ≡ target_of D a r) (l g : List ℕ) (j : Atoms) {z : Atoms} (f : z ≡ met a j) {l' : List ℕ} (e : l' ≡ insert_all l (atom_row D r a)) where
  joined_by : (v : Target) → t ≡ v → join_by D a v (body l g j) ≡ join_atom D r a (body l g j)
  unfolding join_atom
  joined_by v q = ap (λ (t : Target). join_by D a t (body l g j)) (sym q ∙ p)

  label-by-row : (v : Target) → t ≡ v → l' ≡ insert_all l (row_by D a v)
  label-by-row v q = e ∙ ap (λ (t : Target). insert_all l (row_by D a t)) (sym p ∙ q)

  pub joined-row : (k : ClassId) → t ≡ Row k → body l' g z ≡ join_atom D r a (body l g j)
  joined-row k q = rw (label-by-row (Row k) q, f) (joined_by (Row k) q)

  pub joined-delta : (k : ClassId) → t ≡ Delta k → {g' : List ℕ} {n : ℕ} → g' ≡ noted g z.reasons (run_delta a) → n ≡ counted z.reasons → body l' g' (record { first = z.first; unclosed = z.unclosed; reasons = n }) ≡ join_atom D r a (body l g j)
  joined-delta k q u v = rw (label-by-row (Delta k) q, u, v, f) (joined_by (Delta k) q)

  pub joined-open : t ≡ NotClosed → body l' g (record { first = z.first; unclosed = true; reasons = z.reasons }) ≡ join_atom D r a (body l g j)
  joined-open q = rw (label-by-row NotClosed q, f) (joined_by NotClosed q)

-- ---- the atoms of a concept that was read
module _ (s : List ℕ) (A : IsAccepted s) (c : ℕ) {expr : ConceptExpr} (R : ConceptRead s c expr) (r : ℕ) (b : Body) where
  abbrev D : Deck
  D = deck_of s

  joined-read : (v : List ℕ) → v ≡ required_atoms D c → walk (join_atom D r) v b ≡ join_atoms D r c b
  unfolding join_atoms
  joined-read v p = ap (λ (l : List ℕ). walk (join_atom D r) l b) p

  pub joined-atomic : (k : ClassId) → expr ≡ ConceptExpr.Atomic k → join_atom D r k.0 b ≡ join_atoms D r c b
  unfolding walk
  joined-atomic k p = joined-read (k.0 ∷ []) (atoms-atomic s A c R k.0 p)

  pub joined-and : (l : Span) → expr ≡ ConceptExpr.And l → walk (join_atoms D r) (list_of s l) b ≡ join_atoms D r c b
  unfolding join_atoms
  joined-and l p = sym (walk-flat (join_atom D r) (required_atoms D) (list_of s l) b) ∙ joined-read (flat_map (required_atoms D) (list_of s l)) (atoms-and s A c R l p)

  pub joined-other : OneOf (0 ∷ 1 ∷ 3 ∷ 4 ∷ 5 ∷ 7 ∷ 8 ∷ 9 ∷ 10 ∷ 11 ∷ []) (tag_of the_type expr) → b ≡ join_atoms D r c b
  unfolding walk
  joined-other h = joined-read [] (atoms-other s A c R h)

-- ---- what closes a body whose atoms are joined: the label l₁ was cleared to l₀
module _ (D : Deck) (r b : ℕ) (log : List ℕ) (n : ℕ) (l₁ l₀ : List ℕ) (Z : l₀ ≡ replicate (length l₁) 0) (W : length l₁ ≡ label_width D) {l g : List ℕ} {j : Atoms} (E : body l g j ≡ join_atoms D r b (body l₀ log (no_atoms n))) where
  close-is : close_body D r (body l g j) ≡ body_of D r b log n
  unfolding body_of
  close-is = ap (close_body D r) (E ∙ ap (λ (x : List ℕ). join_atoms D r b (body x log (no_atoms n))) (Z ∙ ap (λ (w : ℕ). replicate w 0) W))

  pub close-none : j.first ≡ None → {l' : List ℕ} → l' ≡ insert_all l (flat_map (row_of_class D) (role_at D r).range) → Joined l' g j.reasons (body_of D r b log n)
  close-none e {l'} q = subst (Joined l' g j.reasons) close-is (rw e (record { label = q; log = refl; reasons = refl }))

  pub close-all : {a : ClassId} → j.first ≡ Some a → j.unclosed ≡ false → Joined l g j.reasons (body_of D r b log n)
  close-all e u = subst (Joined l g j.reasons) close-is (rw (e, u) (record { label = refl; log = refl; reasons = refl }))

  pub close_open : {a : ClassId} → j.first ≡ Some a → j.unclosed ≡ true → {g' : List ℕ} {n' : ℕ} → g' ≡ noted g j.reasons (label_not_closed a.0 r) → n' ≡ counted j.reasons → Joined l g' n' (body_of D r b log n)
  close_open e u {g'} {n'} p q = subst (Joined l g' n') close-is (rw (e, u) (record { label = refl; log = p; reasons = q }))

-- ---- what a label keeps that takes rows of classes in, the label of a body's target has
module _ (D : Deck) (P : List ℕ → Type 0) (K : (k : ℕ) (l : List ℕ) → P l → P (insert_all l (row_of_class D k))) where
  by-keeps : (a : ℕ) (t : Target) (s : Body) → P s.label → P (join_by D a t s).label
  by-keeps a (Row k) s p = K k.0 s.label p
  by-keeps a (Delta k) s p = K k.0 s.label p
  by-keeps a NotClosed s p = K a s.label p

  rows-keep : (ks l : List ℕ) → P l → P (insert_all l (flat_map (row_of_class D) ks))
  unfolding flat_map insert_all
  rows-keep [] l p = p
  rows-keep (k ∷ ks) l p = rw (insert-all-append l (row_of_class D k) (flat_map (row_of_class D) ks)) (rows-keep ks (insert_all l (row_of_class D k)) (K k l p))

  close-keeps : (r : ℕ) (s : Body) → P s.label → P (close_body D r s).label
  close-keeps r s p = by s.atoms.first s.atoms.unclosed
    where
      one : (a : ClassId) (u : Bool) → P (cond u (noted_in (label_not_closed a.0 r) s) s).label
      one a true = p
      one a false = p

      by : (f : Option ClassId) (u : Bool) → P (close_by D r f s).label
      by None u = rows-keep (role_at D r).range s.label p
      by (Some a) u = one a s.atoms.unclosed

  pub body-keeps : P (replicate (label_width D) 0) → (r b : ℕ) (log : List ℕ) (n : ℕ) → P (body_of D r b log n).label
  unfolding body_of join_atoms join_atom
  body-keeps z r b log n =
      let s = body (replicate (label_width D) 0) log (no_atoms n) in
      close-keeps r (join_atoms D r b s) (walk-keeps (λ (x : Body). P x.label) (join_atom D r) (required_atoms D b) (λ a i x q. by-keeps a (target_of D a r) x q) s z)

-- its width
pub body-wide : (D : Deck) (r b : ℕ) (log : List ℕ) (n : ℕ) → length (body_of D r b log n).label ≡ label_width D
body-wide D = body-keeps D (λ l. length l ≡ label_width D) (λ k l e. length-insert-all l (row_of_class D k) ∙ e) (length-replicate {A = ℕ} (label_width D) 0)

-- ---- a body in the paper's words
module _ (D : Deck) (r : ℕ) where
  abbrev log_in : Body → Log
  log_in s = record { words = s.log; total = s.atoms.reasons }

  by-label : (a : ℕ) (t : Target) (s : Body) → (join_by D a t s).label ≡ insert_all s.label (row_by D a t)
  by-label a (Row k) s = refl
  by-label a (Delta k) s = refl
  by-label a NotClosed s = refl

  by-log : (a : ℕ) (t : Target) (s : Body) → log_in (join_by D a t s) ≡ walk note (delta_by a t) (log_in s)
  unfolding walk
  by-log a (Row k) s = refl
  by-log a (Delta k) s = refl
  by-log a NotClosed s = refl

  by-open : (a : ℕ) (t : Target) (s : Body) → (join_by D a t s).atoms.unclosed ≡ (s.atoms.unclosed || open_by t)
  by-open a (Row k) s = sym (or-false s.atoms.unclosed)
  by-open a (Delta k) s = sym (or-false s.atoms.unclosed)
  by-open a NotClosed s = sym (or-true s.atoms.unclosed)

  by_first : (a : ℕ) (t : Target) (s : Body) → (join_by D a t s).atoms.first ≡ option_or s.atoms.first (Some (record { 0 = a }))
  by_first a (Row k) s = refl
  by_first a (Delta k) s = refl
  by_first a NotClosed s = refl

  -- the same of several atoms
  atoms-label : (ks : List ℕ) (s : Body) → (walk (join_atom D r) ks s).label ≡ insert_all s.label (flat_map (atom_row D r) ks)
  unfolding walk join_atom flat_map insert_all
  atoms-label [] s = refl
  atoms-label (a ∷ ks) s =
      atoms-label ks (join_atom D r a s) ∙ ap (λ (l : List ℕ). insert_all l (flat_map (atom_row D r) ks)) (by-label a (target_of D a r) s)
      ∙ sym (insert-all-append s.label (atom_row D r a) (flat_map (atom_row D r) ks))

  atoms-log : (ks : List ℕ) (s : Body) → log_in (walk (join_atom D r) ks s) ≡ walk note (flat_map (atom_delta D r) ks) (log_in s)
  unfolding walk join_atom flat_map
  atoms-log [] s = refl
  atoms-log (a ∷ ks) s =
      atoms-log ks (join_atom D r a s) ∙ ap (walk note (flat_map (atom_delta D r) ks)) (by-log a (target_of D a r) s)
      ∙ sym (walk-append note (atom_delta D r a) (flat_map (atom_delta D r) ks) (log_in s))

  atoms-open : (ks : List ℕ) (s : Body) → (walk (join_atom D r) ks s).atoms.unclosed ≡ (s.atoms.unclosed || any (map (atom_open D r) ks))
  unfolding walk join_atom any
  atoms-open [] s = sym (or-false s.atoms.unclosed)
  atoms-open (a ∷ ks) s =
      atoms-open ks (join_atom D r a s) ∙ ap (λ (u : Bool). u || any (map (atom_open D r) ks)) (by-open a (target_of D a r) s)
      ∙ or_assoc s.atoms.unclosed (atom_open D r a) (any (map (atom_open D r) ks))

  atoms-first : (ks : List ℕ) (s : Body) {x : ClassId} → s.atoms.first ≡ Some x → (walk (join_atom D r) ks s).atoms.first ≡ Some x
  unfolding walk join_atom
  atoms-first [] s f = f
  atoms-first (a ∷ ks) s f = atoms-first ks (join_atom D r a s) (by_first a (target_of D a r) s ∙ rw f)

  -- what closes them
  module _ (s : Body) {a : ClassId} (f : s.atoms.first ≡ Some a) where
    close-label : (close_body D r s).label ≡ s.label
    close-label = ap (λ (o : Option ClassId). (close_by D r o s).label) f ∙ by s.atoms.unclosed
      where
        by : (u : Bool) → (cond u (noted_in (label_not_closed a.0 r) s) s).label ≡ s.label
        by true = refl
        by false = refl

    close-log : (v : Bool) → s.atoms.unclosed ≡ v → log_in (close_body D r s) ≡ walk note (cond v (label_not_closed a.0 r ∷ []) []) (log_in s)
    unfolding walk
    close-log true w = rw (f, w)
    close-log false w = rw (f, w)

  module _ (log : List ℕ) (n : ℕ) where
    abbrev none : Body
    none = body (replicate (label_width D) 0) log (no_atoms n)

    -- a first atom and others, closed
    module _ (a : ℕ) (ks : List ℕ) where
      abbrev met_all : Body
      met_all = walk (join_atom D r) (a ∷ ks) none

      first-of-all : met_all.atoms.first ≡ Some (record { 0 = a })
      unfolding walk join_atom
      first-of-all = atoms-first ks (join_atom D r a none) (by_first a (target_of D a r) none)

      closed-label : (close_body D r met_all).label ≡ label_of (label_width D) (classes_of D r (a ∷ ks))
      unfolding label_of
      closed-label = close-label met_all first-of-all ∙ atoms-label (a ∷ ks) none

      closed-log : log_in (close_body D r met_all) ≡ walk note (reasons_of D r (a ∷ ks)) (log_in none)
      closed-log =
          let deltas = flat_map (atom_delta D r) (a ∷ ks) in
          let last = cond (any (map (atom_open D r) (a ∷ ks))) (label_not_closed a r ∷ []) [] in
          close-log met_all first-of-all (any (map (atom_open D r) (a ∷ ks))) (atoms-open (a ∷ ks) none) ∙ ap (walk note last) (atoms-log (a ∷ ks) none)
          ∙ sym (walk-append note deltas last (log_in none))

    label-by : (ks : List ℕ) → (close_body D r (walk (join_atom D r) ks none)).label ≡ label_of (label_width D) (classes_of D r ks)
    unfolding walk label_of
    label-by [] = refl
    label-by (a ∷ ks) = closed-label a ks

    reasons-by : (ks : List ℕ) → log_in (close_body D r (walk (join_atom D r) ks none)) ≡ walk note (reasons_of D r ks) (log_in none)
    unfolding walk flat_map any
    reasons-by [] = refl
    reasons-by (a ∷ ks) = closed-log a ks

    -- the label of a body's target has exactly the classes of its atoms' rows, or of r's range without atoms
    pub body-label : (b : ℕ) → (body_of D r b log n).label ≡ label_of (label_width D) (classes_of D r (required_atoms D b))
    unfolding body_of join_atoms
    body-label b = label-by (required_atoms D b)

    -- and its reasons are the RunDeltas in order, then one LabelNotClosed
    pub body-reasons : (b : ℕ) → log_in (body_of D r b log n) ≡ walk note (reasons_of D r (required_atoms D b)) (record { words = log; total = n })
    unfolding body_of join_atoms
    body-reasons b = reasons-by (required_atoms D b)
