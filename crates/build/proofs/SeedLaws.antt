-- Seeding: what the loop keeps, which labels there are, and the element of a satisfiable real class.
-- Assumes nothing.
use mathlib.Core.Path.{◌≡◌, refl, sym, ap, ◌∙◌}
use mathlib.Core.Bool.{Bool, true, false, ◌||◌}
use mathlib.Core.List.{List, [], ◌∷◌, map, flat_map, Memᴰ as Member}
use mathlib.Core.Logic.{⊎_elim}
use Prim.Native.Nat.{ℕ, zero, suc, ◌+◌, ◌*◌, ◌≤◌, ◌<◌}
use native.Mathlib.Nat.{mul-le-mul_right, eq-or-lt_of_le, le_of_suc-le-suc}
use native.Mathlib.Numerals.{add-one}
use native.Mathlib.Omega.{arith}
use lib.ListN.{length, get_or}
use lib.Dec.{eqb}
use borrow.Author.Tests.{lt-ltb, le-ltb}
use Rattle.deck.specs.Deck.{Deck, Fact, class_at, class_count, has}
use Rattle.deck.specs.Sound.{Sound}
use Rattle.deck.proofs.BelowLaws.{any-stops}
use Rattle.eval.specs.Lists.{any}
use Rattle.eval.specs.Lent.{label_width, member_in}
use Rattle.eval.proofs.ListLaws.{position}
use Rattle.atoms.specs.Label.{label_has, insert_bit, insert_all, label_of}
use Rattle.atoms.specs.Rows.{put, flat, rows_of, Wide, none}
use Rattle.build.specs.Intern.{interned, Placed, Held}
use Rattle.atoms.specs.Floor.{has_real}
use Rattle.build.specs.Prints.{Chained}
use Rattle.build.specs.Seed.{names, ends_of, Named, is_seeded, row_label, seeds, last_label, HasRow}
use Rattle.atoms.proofs.LabelLaws.{length-label-of}
use Rattle.atoms.proofs.MemberLaws.{has-label}
use Rattle.atoms.proofs.FloorLaws.{floor-off, length-floored}
use Rattle.build.proofs.InternLaws.{by_cond, Extends, extends-length, extends-at, member-label, interned-wide, interned-grows, held_none, held-length, held-intern, held_rows, interned-keeps, interned-has}

-- ---- which classes
or-both : (a b c : Bool) → (a || (b || c)) ≡ ((a || b) || c)
or-both true b c = refl
or-both false b c = refl

-- stands for a fact past the count
abbrev pub no_fact : Fact
no_fact = record { from = 0; role = 0; to = 0 }

-- the classes of the facts as one list
has-ends : (k : ℕ) (fs : List Fact) → has (flat_map ends_of fs) k ≡ any (map (names k) fs)
unfolding has any names ends_of flat_map
has-ends k [] = refl
has-ends k (f ∷ fs) = rw (has-ends k fs) (or-both (eqb f.from k) (eqb f.to k) (any (map (names k) fs)))

pub two_ends : (words : List ℕ) (f : Fact) → insert_all words (ends_of f) ≡ insert_bit (insert_bit words f.from) f.to
unfolding insert_all ends_of
two_ends words f = refl

ends-below : (n : ℕ) (fs : List Fact) → ((k : ℕ) → k < length fs → ((get_or fs k no_fact).from < n) × ((get_or fs k no_fact).to < n))
    → (i : ℕ) → i < length (flat_map ends_of fs) → get_or (flat_map ends_of fs) i 0 < n
unfolding ends_of flat_map
ends-below n [] h i b = absurd (omega (arith, b))
ends-below n (f ∷ fs) h zero b = (h 0 (omega arith)).0
ends-below n (f ∷ fs) h (suc zero) b = (h 0 (omega arith)).1
ends-below n (f ∷ fs) h (suc (suc i)) b = ends-below n fs (λ (k : ℕ) (u : k < length fs). h (suc k) (omega (arith, u))) i (omega (arith, b))

pub named-facts : (D : Deck) → Sound D → class_count D ≤ 4096 → Named D (label_of 64 (flat_map ends_of D.facts))
named-facts D W m k r b =
    has-label 64 (flat_map ends_of D.facts) k
    (λ (i : ℕ) (u : i < length (flat_map ends_of D.facts)).
    omega (arith, m, ends-below (class_count D) D.facts (λ (j : ℕ) (t : j < length D.facts). ((W.facts j t).from, (W.facts j t).to)) i u))
    ∙ has-ends k D.facts

-- no class but real ones
pub named_none : (D : Deck) (words : List ℕ) → class_count D ≤ D.real → Named D words
named_none D words h k r b = absurd (omega (arith, h, r, b))

module _ (D : Deck) (k : ℕ) where
  pub seeded-unsatisfiable : (class_at D k).unsatisfiable ≡ true → false ≡ is_seeded D k
  unfolding is_seeded
  seeded-unsatisfiable h = rw h

  pub seeded-real : (class_at D k).unsatisfiable ≡ false → k < D.real → true ≡ is_seeded D k
  unfolding is_seeded
  seeded-real h l = rw (h, lt-ltb k D.real l)

  pub seeded-fact : (class_at D k).unsatisfiable ≡ false → D.real ≤ k → any (map (names k) D.facts) ≡ is_seeded D k
  unfolding is_seeded
  seeded-fact h l = rw (h, le-ltb k D.real l)

-- ---- the label of a class
pub length-row-label : (D : Deck) (floor : List ℕ) (k : ℕ) → length (row_label D floor k) ≡ label_width D
unfolding row_label
length-row-label D floor k = length-floored D floor (label_of (label_width D) (class_at D k).row) ∙ length-label-of (label_width D) (class_at D k).row

-- ---- the loop
module _ (D : Deck) (floor : List ℕ) where
  seeds-take : (k : ℕ) → is_seeded D k ≡ true → seeds D floor (k + 1) ≡ interned (seeds D floor k) (row_label D floor k)
  unfolding seeds
  seeds-take k h = rw (add-one, h)

  seeds-skip : (k : ℕ) → is_seeded D k ≡ false → seeds D floor (k + 1) ≡ seeds D floor k
  unfolding seeds
  seeds-skip k h = rw (add-one, h)

  pub seeds-wide : (k : ℕ) → Wide (label_width D) (seeds D floor k)
  unfolding seeds
  seeds-wide zero = none
  seeds-wide (suc k) =
      let s = seeds D floor k in
      by_cond (Wide (label_width D)) (is_seeded D k) (interned s (row_label D floor k)) s
      (interned-wide (row_label D floor k) (seeds-wide k) (length-row-label D floor k)) (seeds-wide k)

  -- at most one element a class
  pub seeds-few : (k : ℕ) → length (seeds D floor k) ≤ k
  unfolding seeds
  seeds-few zero = omega arith
  seeds-few (suc k) =
      let s = seeds D floor k in
      let l = row_label D floor k in
      by_cond (λ (r : List (List ℕ)). length r ≤ suc k) (is_seeded D k) (interned s l) s
      (omega (arith, seeds-few k, (interned-grows s l).1)) (omega (arith, seeds-few k))

  module _ (l : List ℕ) where
    pub last_none : l ≡ last_label D floor l 0
    unfolding last_label
    last_none = refl

    pub last-take : (k : ℕ) → is_seeded D k ≡ true → row_label D floor k ≡ last_label D floor l (k + 1)
    unfolding last_label
    last-take k h = rw (add-one, h)

    pub last-skip : (k : ℕ) → is_seeded D k ≡ false → last_label D floor l k ≡ last_label D floor l (k + 1)
    unfolding last_label
    last-skip k h = rw (add-one, h)

  module _ (buf : List ℕ) where
    pub seed-start : Held (label_width D) buf buf 0 (seeds D floor 0)
    unfolding seeds
    seed-start = held_none (label_width D) buf

    pub seed-more : (b exit : List ℕ) (n e m k : ℕ) → Held (label_width D) buf b n (seeds D floor k) → is_seeded D k ≡ true
        → Placed b exit (rows_of (label_width D) n b) (row_label D floor k) e m → Held (label_width D) buf exit m (seeds D floor (k + 1))
    seed-more b exit n e m k h s p = rw (seeds-take k s) (held-intern h _ exit e m (length-row-label D floor k) p)

    pub seed-skip : (b : List ℕ) (n k : ℕ) → Held (label_width D) buf b n (seeds D floor k) → is_seeded D k ≡ false → Held (label_width D) buf b n (seeds D floor (k + 1))
    seed-skip b n k h s = rw (seeds-skip k s) h

    pub held-few : (b : List ℕ) (n k : ℕ) → Held (label_width D) buf b n (seeds D floor k) → n ≤ k
    held-few b n k h = omega (arith, h.count, seeds-few k)

    -- the buffer keeps its length
    pub held-size : (b : List ℕ) (n k : ℕ) → Held (label_width D) buf b n (seeds D floor k) → k ≤ class_count D → (class_count D + 1) * label_width D ≤ length buf → length b ≡ length buf
    held-size b n k h l r = held-length h (omega (arith, r, mul-le-mul_right {m = n} {n = class_count D + 1} (label_width D) (omega (arith, held-few b n k h))))

  -- the table of the loop
  module _ (buf b heads links : List ℕ) (n k : ℕ) (h : Held (label_width D) buf b n (seeds D floor k)) where
    pub table-rows : Chained (seeds D floor k) heads links → Chained (rows_of (label_width D) n b) heads links
    table-rows c = rw (held_rows h) c

    pub table_more : is_seeded D k ≡ true → Chained (interned (rows_of (label_width D) n b) (row_label D floor k)) heads links → Chained (seeds D floor (k + 1)) heads links
    table_more s c = rw (seeds-take k s) (rw (held_rows h) at c)

  pub table-skip : (heads links : List ℕ) (k : ℕ) → is_seeded D k ≡ false → Chained (seeds D floor k) heads links → Chained (seeds D floor (k + 1)) heads links
  table-skip heads links k s c = rw (seeds-skip k s) c

  pub table-start : (heads links : List ℕ) → Chained [] heads links → Chained (seeds D floor 0) heads links
  unfolding seeds
  table-start heads links c = c

  -- ---- every seeded class has its label among the seeds
  pub all-seeded : (n k : ℕ) → k < n → is_seeded D k ≡ true → Member (row_label D floor k) (seeds D floor n)
  unfolding seeds
  all-seeded zero k h s = absurd (omega (arith, h))
  all-seeded (suc n) k h s =
      ⊎_elim (λ (e : k ≡ n). rw (rw e at s, e) (interned-has (seeds D floor n) (row_label D floor n)))
      (λ (b : k < n).
      by_cond (Member (row_label D floor k)) (is_seeded D n) (interned (seeds D floor n) (row_label D floor n)) (seeds D floor n)
      (interned-keeps (seeds D floor n) _ _ (all-seeded n k b s)) (all-seeded n k b s))
      (eq-or-lt_of_le (le_of_suc-le-suc h))

  -- ---- a satisfiable real class is in its own row and below M: its label takes no floor
  module _ (W : Sound D) (c : ℕ) (r : c < D.real) (s : (class_at D c).unsatisfiable ≡ false) where
    in_row : (d : ℕ) → label_has (label_of (label_width D) (class_at D c).row) d ≡ has (class_at D c).row d
    in_row d =
        let n : c < class_count D = omega (arith, W.real) in
        has-label (label_width D) (class_at D c).row d (λ (i : ℕ) (b : i < length (class_at D c).row). omega (arith, (W.classes c n).below i b))

    real-label : row_label D floor c ≡ label_of (label_width D) (class_at D c).row
    unfolding row_label has_real
    real-label =
        let n : c < class_count D = omega (arith, W.real) in
        floor-off D floor (label_of (label_width D) (class_at D c).row) (any-stops _ c D.real r (in_row c ∙ (W.classes c n).own s))

    pub real-seed : HasRow D (seeds D floor (class_count D)) c
    real-seed =
        let n : c < class_count D = omega (arith, W.real) in
        let p = position [] (row_label D floor c) (seeds D floor (class_count D)) (all-seeded (class_count D) c n (sym (seeded-real D c s r))) in
        record { element = p.0; below = p.1; exact = λ d. ap (λ (l : List ℕ). label_has l d) (p.2 ∙ real-label) ∙ in_row d }

-- what was interned or appended later keeps it
pub row_kept : (D : Deck) {ls ms : List (List ℕ)} {c : ℕ} → Extends ls ms → HasRow D ls c → HasRow D ms c
row_kept D x h =
    record { element = h.element; below = omega (arith, h.below, extends-length x); exact = λ d. ap (λ (l : List ℕ). label_has l d) (extends-at x h.element h.below) ∙ h.exact d }

-- in the structure that the buffer holds
pub row-member : (D : Deck) {ls : List (List ℕ)} {c : ℕ} → Wide (label_width D) ls → (h : HasRow D ls c) → (buf : List ℕ) (d : ℕ) → d < class_count D
    → member_in (put buf (flat ls)) (label_width D) h.element d ≡ has (class_at D c).row d
row-member D w h buf d b = member-label w buf h.element d h.below (omega arith) ∙ h.exact d
