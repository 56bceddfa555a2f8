-- The labels of a run are tidy and apart: each has a label's width, words of 64 bits and no class at or past N, and no two are equal.
--     tidy-rows, tidy-floored, tidy-row-label     what a sound deck's rows and the floor make
--     labels-interned, seeds-labels               interning keeps labels tidy and apart
--     same-classes                                tidy labels with the same classes are equal
use Prim.Native.Nat.{ℕ, zero, suc, ◌+◌, ◌*◌, ◌/◌, ◌%◌, ◌^◌, ◌≤◌, ◌<◌}
use mathlib.Core.Bool.{Bool, true, false, cond}
use mathlib.Core.Path.{◌≡◌, refl, sym, ap, ◌∙◌}
use mathlib.Core.List.{List, [], ◌∷◌, ◌++◌, map, flat_map}
use mathlib.Core.Logic.{⊎_elim, ◌⊎◌, inl, inr}
use native.Mathlib.Nat.{mod-eq_of_lt}
use native.Mathlib.Omega.{arith}
use lib.ListN.{length, get_or, replicate, length-replicate, get_or-eq_default}
use lib.Seq.{ext_get_or, get_or-set_same, get_or-set_other}
use lib.Bits.{bit_or, or_lt}
use borrow.Author.Tests.{ne_eqb}
use Rattle.deck.specs.Deck.{Deck, Axiom, class_at, class_count}
use Rattle.deck.specs.Sound.{Sound, EachBelow}
use Rattle.deck.proofs.CaseLaws.{lt-or-le}
use Rattle.eval.specs.Lent.{label_width}
use Rattle.eval.specs.Lists.{any}
use Rattle.eval.proofs.Clash.{clash}
use Rattle.atoms.specs.Label.{label_has, insert_bit, insert_all, label_of, joined, same_label}
use Rattle.atoms.specs.Rows.{Wide, none}
use Rattle.build.specs.Intern.{index_of, interned}
use Rattle.atoms.specs.Floor.{universal, required_atoms, satisfiable_row, atom_rows, member_rows, floor_of, floor_label, has_real, floored}
use Rattle.build.specs.Seed.{is_seeded, row_label, seeds}
use Rattle.atoms.proofs.BitLaws.{pow_below, same_low}
use Rattle.atoms.proofs.LabelLaws.{length-insert, length-joined, insert-all-append, same_refl}
use Rattle.atoms.proofs.MemberLaws.{by_cases, has-insert, none_has, zero_word, join-word, has-joined}
use Rattle.build.proofs.InternLaws.{by_cond, interned-known, interned-new, interned-wide}
use Rattle.atoms.proofs.FloorLaws.{no-class, at-word}

-- a label's width, words of 64 bits, no class at or past N
pub record Tidy (D : Deck) (l : List ℕ) : Type 0 where
  pub wide : length l ≡ label_width D
  pub words : (i : ℕ) → get_or l i 0 < 2 ^ 64
  pub clean : (k : ℕ) → class_count D ≤ k → label_has l k ≡ false

-- ---- how a tidy label is made
module _ (D : Deck) where
  pub tidy-zeros : Tidy D (replicate (label_width D) 0)
  tidy-zeros = record {
    wide = length-replicate {A = ℕ} (label_width D) 0;
    words = λ i. rw (zero_word (label_width D) i) (omega arith);
    clean = λ k h. none_has (label_width D) k;
  }

  tidy-insert : (l : List ℕ) (k : ℕ) → k < class_count D → Tidy D l → Tidy D (insert_bit l k)
  unfolding insert_bit
  tidy-insert l k h T =
      let w : k / 64 < length l = omega (arith, T.wide) in
      record {
        wide = length-insert l k ∙ T.wide;
        words = word w;
        clean = λ j b. has-insert l k j w ∙ rw (T.clean j b, ne_eqb k j (λ e. omega (arith, e, b)));
      }
    where
      word : k / 64 < length l → (i : ℕ) → get_or (insert_bit l k) i 0 < 2 ^ 64
      word w i =
          let v = bit_or (get_or l (k / 64) 0) (2 ^ (k % 64)) in
          by_cases i (k / 64)
          (λ (e : i ≡ k / 64). rw (e, get_or-set_same l (k / 64) v 0 w) (or_lt 64 (get_or l (k / 64) 0) (2 ^ (k % 64)) (T.words (k / 64)) (pow_below (k % 64) 64 (omega arith))))
          (λ d. rw (get_or-set_other l (k / 64) i v 0 d) (T.words i))

  -- a list of classes that a tidy label may take in
  abbrev pub Takes : List ℕ → Type 0
  Takes ks = (l : List ℕ) → Tidy D l → Tidy D (insert_all l ks)

  takes_none : Takes []
  unfolding insert_all
  takes_none l T = T

  takes-below : (ks : List ℕ) → EachBelow (class_count D) ks → Takes ks
  unfolding insert_all
  takes-below [] h l T = T
  takes-below (k ∷ ks) h l T = takes-below ks (λ i b. h (suc i) (omega (arith, b))) (insert_bit l k) (tidy-insert l k (h zero (omega arith)) T)

  pub takes-flat : {A : Type 0} (f : A → List ℕ) → ((x : A) → Takes (f x)) → (xs : List A) → Takes (flat_map f xs)
  unfolding flat_map insert_all
  takes-flat f h [] l T = T
  takes-flat f h (x ∷ xs) l T = rw (insert-all-append l (f x) (flat_map f xs)) (takes-flat f h xs (insert_all l (f x)) (h x l T))

  pub tidy-joined : (l f : List ℕ) → Tidy D l → Tidy D f → Tidy D (joined l f)
  unfolding joined
  tidy-joined l f T F = record { wide = length-joined l f ∙ T.wide; words = word; clean = none-past }
    where
      past : (i : ℕ) → length l ≤ i → get_or (joined l f) i 0 ≡ 0
      past i h = get_or-eq_default (joined l f) 0 (omega (arith, h, length-joined l f))

      word : (i : ℕ) → get_or (joined l f) i 0 < 2 ^ 64
      word i =
          ⊎_elim (λ (h : i < length l). rw (join-word l f (length l) i h (omega arith)) (or_lt 64 (get_or l i 0) (get_or f i 0) (T.words i) (F.words i)))
          (λ (h : length l ≤ i). rw (past i h) (omega arith)) (lt-or-le i (length l))

      none-past : (k : ℕ) → class_count D ≤ k → label_has (joined l f) k ≡ false
      none-past k h =
          ⊎_elim (λ (b : k / 64 < length l). has-joined l f k b ∙ rw (T.clean k h, F.clean k h)) (λ (b : length l ≤ k / 64). no-class (joined l f) k (past (k / 64) b)) (lt-or-le (k / 64) (length l))

  pub tidy-floored : (floor l : List ℕ) → Tidy D floor → Tidy D l → Tidy D (floored D floor l)
  unfolding floored
  tidy-floored floor l F T = by_cond (Tidy D) (has_real D l) l (joined l floor) T (tidy-joined l floor T F)

-- ---- a sound deck's rows and floor
module _ (D : Deck) (W : Sound D) where
  -- the row of any class; past the last class it is empty
  pub takes-row : (k : ℕ) → Takes D (class_at D k).row
  takes-row k =
      ⊎_elim (λ (h : k < class_count D). takes-below D (class_at D k).row (W.classes k h).below)
      (λ (h : class_count D ≤ k). rw (get_or-eq_default D.classes (record { unsatisfiable = true; row = [] }) h) (takes_none D)) (lt-or-le k (class_count D))

  takes-atoms : (c : ℕ) → Takes D (atom_rows D c)
  unfolding atom_rows satisfiable_row
  takes-atoms c = takes-flat D (satisfiable_row D) (λ k. by_cond (Takes D) (class_at D k).unsatisfiable [] (class_at D k).row (takes_none D) (takes-row k)) (required_atoms D c)

  takes-member : (c : ℕ) → Takes D (member_rows D c)
  unfolding member_rows
  takes-member c = by_cond (Takes D) (universal D c) [] (atom_rows D c) (takes_none D) (takes-atoms c)

  takes-floor : (x : Axiom) → Takes D (floor_of D x)
  unfolding floor_of
  takes-floor (Axiom.SubClassOf sub sup) = by_cond (Takes D) (universal D sub) (atom_rows D sup) [] (takes-atoms sup) (takes_none D)
  takes-floor (Axiom.EquivalentClasses l) = by_cond (Takes D) (any (map (universal D) l)) (flat_map (member_rows D) l) [] (takes-flat D (member_rows D) takes-member l) (takes_none D)
  takes-floor (Axiom.DisjointClasses l) = takes_none D
  takes-floor (Axiom.DisjointUnion k l) = takes_none D
  takes-floor (Axiom.SubObjectPropertyOf p q) = takes_none D
  takes-floor (Axiom.SubObjectPropertyChain l q) = takes_none D
  takes-floor (Axiom.EquivalentObjectProperties l) = takes_none D
  takes-floor (Axiom.DisjointObjectProperties l) = takes_none D
  takes-floor (Axiom.InverseObjectProperties p q) = takes_none D
  takes-floor (Axiom.ObjectPropertyDomain r c) = takes_none D
  takes-floor (Axiom.ObjectPropertyRange r c) = takes_none D
  takes-floor (Axiom.TransitiveRole r) = takes_none D
  takes-floor (Axiom.SymmetricRole r) = takes_none D
  takes-floor (Axiom.AsymmetricRole r) = takes_none D
  takes-floor (Axiom.ReflexiveRole r) = takes_none D
  takes-floor (Axiom.IrreflexiveRole r) = takes_none D
  takes-floor (Axiom.FunctionalRole r) = takes_none D
  takes-floor (Axiom.InverseFunctionalRole r) = takes_none D
  takes-floor (Axiom.ClassAssertion c i) = takes_none D
  takes-floor (Axiom.ObjectPropertyAssertion r i j) = takes_none D
  takes-floor (Axiom.NegativeObjectPropertyAssertion r i j) = takes_none D
  takes-floor (Axiom.SameIndividual l) = takes_none D
  takes-floor (Axiom.DifferentIndividuals l) = takes_none D
  takes-floor (Axiom.DeclareClass k) = takes_none D
  takes-floor (Axiom.DeclareObjectProperty r) = takes_none D
  takes-floor (Axiom.DeclareNamedIndividual i) = takes_none D

  pub tidy-floor : Tidy D (floor_label D)
  unfolding floor_label label_of
  tidy-floor = takes-flat D (floor_of D) takes-floor D.axioms (replicate (label_width D) 0) (tidy-zeros D)

  pub tidy-row-label : (floor : List ℕ) → Tidy D floor → (k : ℕ) → Tidy D (row_label D floor k)
  unfolding row_label label_of
  tidy-row-label floor F k = tidy-floored D floor (label_of (label_width D) (class_at D k).row) F (takes-row k (replicate (label_width D) 0) (tidy-zeros D))

-- ---- labels one after the other: tidy, and apart
pub record Labels (D : Deck) (ls : List (List ℕ)) : Type 0 where
  pub wide : Wide (label_width D) ls
  pub tidy : (e : ℕ) → e < length ls → Tidy D (get_or ls e [])
  pub apart : (e f : ℕ) → e < length ls → f < length ls → get_or ls e [] ≡ get_or ls f [] → e ≡ f

-- an element of ls with l appended: an old one, or l
abbrev Old : List (List ℕ) → List ℕ → ℕ → Type 0
Old ls l e = (e < length ls) × (get_or (ls ++ (l ∷ [])) e [] ≡ get_or ls e [])

abbrev Last : List (List ℕ) → List ℕ → ℕ → Type 0
Last ls l e = (e ≡ length ls) × (get_or (ls ++ (l ∷ [])) e [] ≡ l)

snoc-at : (ls : List (List ℕ)) (l : List ℕ) (e : ℕ) → e < length (ls ++ (l ∷ [])) → Old ls l e ⊎ Last ls l e
snoc-at [] l zero h = inr (refl, refl)
snoc-at [] l (suc e) h = absurd (omega (arith, h))
snoc-at (x ∷ xs) l zero h = inl (omega arith, refl)
snoc-at (x ∷ xs) l (suc e) h =
    ⊎_elim (λ (r : Old xs l e). inl (omega (arith, r.0), r.1)) (λ (r : Last xs l e). inr (ap suc r.0, r.1)) (snoc-at xs l e (omega (arith, h)))

-- a label that is not found equals none of them
index-differs : (ls : List (List ℕ)) (l : List ℕ) → length ls ≤ index_of ls l → (e : ℕ) → e < length ls → get_or ls e [] ≡ l → ⊥
unfolding index_of
index-differs [] l h e b q = omega (arith, b)
index-differs (x ∷ xs) l h e b q = by-test (same_label x l) refl h e b q (index-differs xs l)
  where
    by-test : (c : Bool) → same_label x l ≡ c → suc (length xs) ≤ cond c zero (suc (index_of xs l)) → (e : ℕ) → e < suc (length xs) → get_or (x ∷ xs) e [] ≡ l
        → (length xs ≤ index_of xs l → (e : ℕ) → e < length xs → get_or xs e [] ≡ l → ⊥) → ⊥
    by-test true w h e b q ih = omega (arith, h)
    by-test false w h zero b q ih = clash (cc (same_refl l))
    by-test false w h (suc e) b q ih = ih (omega (arith, h)) e (omega (arith, b)) q

module _ (D : Deck) where
  labels-none : Labels D []
  labels-none = record { wide = none; tidy = λ e h. absurd (omega (arith, h)); apart = λ e f h. absurd (omega (arith, h)) }

  pub labels-interned : {ls : List (List ℕ)} (l : List ℕ) → Labels D ls → Tidy D l → Labels D (interned ls l)
  labels-interned {ls} l L T = ⊎_elim (λ (h : index_of ls l < length ls). rw (interned-known ls l h) L) new (lt-or-le (index_of ls l) (length ls))
    where
      new : length ls ≤ index_of ls l → Labels D (interned ls l)
      new h = record {
        wide = interned-wide l L.wide T.wide;
        tidy = rw (interned-new ls l h) (λ e b. ⊎_elim (λ (o : Old ls l e). rw o.1 (L.tidy e o.0)) (λ (n : Last ls l e). rw n.1 T) (snoc-at ls l e b));
        apart = rw (interned-new ls l h) (λ e f b c q.
            ⊎_elim
            (λ (o : Old ls l e). ⊎_elim (λ (p : Old ls l f). L.apart e f o.0 p.0 (sym o.1 ∙ q ∙ p.1)) (λ (n : Last ls l f). absurd (index-differs ls l h e o.0 (sym o.1 ∙ q ∙ n.1))) (snoc-at ls l f c))
            (λ (n : Last ls l e). ⊎_elim (λ (p : Old ls l f). absurd (index-differs ls l h f p.0 (sym p.1 ∙ sym q ∙ n.1))) (λ (k : Last ls l f). n.0 ∙ sym k.0) (snoc-at ls l f c))
            (snoc-at ls l e b));
      }

  pub seeds-labels : Sound D → (floor : List ℕ) → Tidy D floor → (k : ℕ) → Labels D (seeds D floor k)
  unfolding seeds
  seeds-labels W floor F zero = labels-none
  seeds-labels W floor F (suc k) =
      let s = seeds D floor k in
      by_cond (Labels D) (is_seeded D k) (interned s (row_label D floor k)) s
      (labels-interned (row_label D floor k) (seeds-labels W floor F k) (tidy-row-label D W floor F k)) (seeds-labels W floor F k)

-- ---- equal class sets are equal words
module _ (D : Deck) {a b : List ℕ} (A : Tidy D a) (B : Tidy D b) (h : (k : ℕ) → k < class_count D → label_has a k ≡ label_has b k) where
  same_class : (k : ℕ) → label_has a k ≡ label_has b k
  same_class k = ⊎_elim (λ (l : k < class_count D). h k l) (λ (l : class_count D ≤ k). A.clean k l ∙ sym (B.clean k l)) (lt-or-le k (class_count D))

  same_word : (i : ℕ) → get_or a i 0 ≡ get_or b i 0
  same_word i =
      let low : get_or a i 0 % 2 ^ 64 ≡ get_or b i 0 % 2 ^ 64 = same_low (get_or a i 0) (get_or b i 0) 64 (λ j l. sym (at-word a i j l) ∙ same_class (i * 64 + j) ∙ at-word b i j l) in
      sym (mod-eq_of_lt (A.words i)) ∙ low ∙ mod-eq_of_lt (B.words i)

  pub same-classes : a ≡ b
  same-classes = ext_get_or 0 a b (A.wide ∙ sym B.wide) (λ i l. same_word i)
