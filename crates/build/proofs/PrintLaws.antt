-- Labels found by fingerprint: the walk along a chain, and an element that is put at its head. Assumes nothing.
use mathlib.Core.Path.{◌≡◌, refl, sym, ap, ◌∙◌, subst}
use mathlib.Core.Bool.{Bool, true, false}
use mathlib.Core.List.{List, [], ◌∷◌, ◌++◌}
use mathlib.Core.Logic.{◌⊎◌, inl, inr, ⊎_elim}
use Prim.Native.Nat.{ℕ, ◌+◌, ◌*◌, ◌-◌, ◌≤◌, ◌<◌}
use native.Mathlib.Nat.{eq-or-lt_of_le}
use native.Mathlib.Numerals.{add-one}
use native.Mathlib.Omega.{arith}
use lib.ListN.{length, get_or, set, take, drop, length-set, replicate, length-append, get_or-replicate, length-replicate, get_or-append}
use lib.Seq.{get_or-set_same, get_or-set_other, get_or-append_seam}
use lib.Dec.{eqb}
use borrow.Author.Tests.{eq-eqb, ne_eqb, eqb-true}
use Rattle.deck.proofs.CaseLaws.{lt-or-le}
use Rattle.eval.proofs.Clash.{both_ways}
use Rattle.atoms.specs.Label.{same_label}
use Rattle.atoms.specs.Rows.{row_at, rows_of}
use Rattle.std.specs.Prelude.{Option, None, Some, IfSome}
use Rattle.deck.specs.declared.numbers.Element.{Element}
use Rattle.build.specs.Intern.{index_of, interned, Found}
use Rattle.build.specs.Prints.{mixed, print_to, slot_of, Last, Chained}
use Rattle.atoms.proofs.LabelLaws.{not_so, same-eq}
use Rattle.atoms.proofs.RowLaws.{length-rows, rows_at, rows_more}
use Rattle.build.proofs.InternLaws.{index-found, index-none, interned-known, interned-new, or_all, found-of}

-- ---- the fingerprint, word by word
module _ (l : List ℕ) where
  pub print-none : 0 ≡ print_to l 0
  unfolding print_to
  print-none = refl

  pub print-skip : (n : ℕ) → get_or l n 0 ≡ 0 → print_to l (n + 1) ≡ print_to l n
  unfolding print_to
  print-skip n e = rw (add-one, eq-eqb _ _ e)

  pub print-mix : (n : ℕ) → (get_or l n 0 ≡ 0 → ⊥) → print_to l (n + 1) ≡ mixed (print_to l n) n (get_or l n 0)
  unfolding print_to
  print-mix n e = rw (add-one, ne_eqb _ _ e)

-- ---- the walk along a chain: of the labels from p on, found is the first that is l, or their number
pub record Sought (size : ℕ) (ls : List (List ℕ)) (l : List ℕ) (p found : ℕ) : Type 0 where
  pub low : p ≤ length ls
  pub same : (e : ℕ) → e + 1 ≡ p → slot_of size (get_or ls e []) ≡ slot_of size l
  pub most : found ≤ length ls
  pub nay : (e : ℕ) → p ≤ e → e < found → same_label (get_or ls e []) l ≡ false
  pub here : found < length ls → same_label (get_or ls found []) l ≡ true

-- a label in another slot is another one
other-slot : (size : ℕ) (x l : List ℕ) → (slot_of size x ≡ slot_of size l → ⊥) → same_label x l ≡ false
other-slot size x l n = not_so (same_label x l) (λ (e : same_label x l ≡ true). n (ap (slot_of size) (same-eq x l e)))

module _ {ls : List (List ℕ)} {heads links : List ℕ} (c : Chained ls heads links) (l : List ℕ) where
  pub sought-start : (h n : ℕ) → h ≡ slot_of (length heads) l → h < length heads → n ≡ length ls → Sought (length heads) ls l (get_or heads h 0) n
  sought-start h n e b q =
      let z = c.head h b in
      record {
        low = z.low;
        same = λ (k : ℕ) (t : k + 1 ≡ get_or heads h 0). z.same k t ∙ e;
        most = omega (arith, q);
        nay = λ (k : ℕ) (t : get_or heads h 0 ≤ k) (u : k < n). other-slot (length heads) (get_or ls k []) l (λ s. z.none k t (omega (arith, u, q)) (s ∙ sym e));
        here = λ (t : n < length ls). absurd (omega (arith, t, q));
      }

  module _ (p found e : ℕ) (s : Sought (length heads) ls l p found) (at : e + 1 ≡ p) where
    pub sought-below : e < length ls
    sought-below = omega (arith, s.low, at)

    pub sought-fall : get_or links e 0 < p
    sought-fall = omega (arith, (c.link e sought-below).low, at)

    before : (k : ℕ) → get_or links e 0 ≤ k → k < e → same_label (get_or ls k []) l ≡ false
    before k t u = other-slot (length heads) (get_or ls k []) l (λ q. (c.link e sought-below).none k t u (q ∙ sym (s.same e at)))

    pub sought-here : same_label (get_or ls e []) l ≡ true → Sought (length heads) ls l (get_or links e 0) e
    sought-here y =
        let z = c.link e sought-below in
        record {
          low = omega (arith, z.low, sought-below);
          same = λ (k : ℕ) (t : k + 1 ≡ get_or links e 0). z.same k t ∙ s.same e at;
          most = omega (arith, sought-below);
          nay = before;
          here = λ _. y;
        }

    pub sought-on : same_label (get_or ls e []) l ≡ false → Sought (length heads) ls l (get_or links e 0) found
    sought-on y =
        let z = c.link e sought-below in
        record {
          low = omega (arith, z.low, sought-below);
          same = λ (k : ℕ) (t : k + 1 ≡ get_or links e 0). z.same k t ∙ s.same e at;
          most = s.most;
          nay = λ (k : ℕ) (t : get_or links e 0 ≤ k) (u : k < found).
              ⊎_elim (λ (b : k < e). before k t b)
              (λ (b : e ≤ k).
              ⊎_elim (λ (q : e ≡ k). subst (λ (m : ℕ). same_label (get_or ls m []) l ≡ false) q y) (λ (q : e < k). s.nay k (omega (arith, q, at)) u) (eq-or-lt_of_le b))
              (lt-or-le k e);
          here = s.here;
        }

-- the same of the rows of a buffer
module _ (w n : ℕ) (buf l : List ℕ) where
  pub sought-row : (size p found e : ℕ) → Sought size (rows_of w n buf) l p found → e + 1 ≡ p → e < n
  sought-row size p found e s at = omega (arith, s.low, at, length-rows w n buf)

  module _ (heads links : List ℕ) (c : Chained (rows_of w n buf) heads links) (p found e : ℕ) (s : Sought (length heads) (rows_of w n buf) l p found) (at : e + 1 ≡ p) where
    pub sought-here-row : same_label (row_at w buf (e * w)) l ≡ true → Sought (length heads) (rows_of w n buf) l (get_or links e 0) e
    sought-here-row y = sought-here c l p found e s at (rw (rows_at w n buf e (sought-row (length heads) p found e s at)) y)

    pub sought-on-row : same_label (row_at w buf (e * w)) l ≡ false → Sought (length heads) (rows_of w n buf) l (get_or links e 0) found
    sought-on-row y = sought-on c l p found e s at (rw (rows_at w n buf e (sought-row (length heads) p found e s at)) y)

pub sought-done : (size : ℕ) (ls : List (List ℕ)) (l : List ℕ) (found : ℕ) → Sought size ls l 0 found → found ≡ index_of ls l
sought-done size ls l found s =
    ⊎_elim
    (λ (b : found < length ls). sym (index-found ls l found b (λ (k : ℕ) (u : k < found). s.nay k (omega arith) u) (s.here b)))
    (λ (b : length ls ≤ found).
    let e : found ≡ length ls = omega (arith, b, s.most) in
    e ∙ sym (index-none ls l (λ (k : ℕ) (u : k < length ls). s.nay k (omega arith) (omega (arith, u, b)))))
    (lt-or-le found (length ls))

-- ---- the same of what the walk has found so far
pub record Seeking (size : ℕ) (ls : List (List ℕ)) (l : List ℕ) (p : ℕ) (r : Option Element) : Type 0 where
  pub sought : Sought size ls l p (or_all (length ls) r)
  pub below : IfSome r (λ e. e.0 < length ls)

pub seeking-done : {size : ℕ} {ls : List (List ℕ)} {l : List ℕ} {r : Option Element} → Seeking size ls l 0 r → Found ls l r
seeking-done {size} {ls} {l} {r} S = found-of ls l r (sought-done size ls l (or_all (length ls) r) S.sought) S.below

module _ (w n : ℕ) (buf l heads links : List ℕ) (c : Chained (rows_of w n buf) heads links) where
  pub seeking-start : (h : ℕ) → (h ≡ slot_of (length heads) l) × (h < length heads) → Seeking (length heads) (rows_of w n buf) l (get_or heads h 0) None
  seeking-start h s = record { sought = sought-start c l h _ s.0 s.1 refl; below = tt }

  module _ (p : ℕ) (r : Option Element) (S : Seeking (length heads) (rows_of w n buf) l p r) (e : ℕ) (at : e + 1 ≡ p) where
    pub seeking-row : e < n
    seeking-row = sought-row w n buf l (length heads) p _ e S.sought at

    pub seeking-here : same_label (row_at w buf (e * w)) l ≡ true → Seeking (length heads) (rows_of w n buf) l (get_or links e 0) (Some (record { 0 = e }))
    seeking-here y = record { sought = sought-here-row w n buf l heads links c p _ e S.sought at y; below = omega (arith, seeking-row, length-rows w n buf) }

    pub seeking-on : same_label (row_at w buf (e * w)) l ≡ false → Seeking (length heads) (rows_of w n buf) l (get_or links e 0) r
    seeking-on y = record { sought = sought-on-row w n buf l heads links c p _ e S.sought at y; below = S.below }

    pub seeking-fall : get_or links e 0 < p
    seeking-fall = sought-fall c l p _ e S.sought at

-- ---- the table
chained-none : (heads links : List ℕ) → 0 < length heads → ((h : ℕ) → h < length heads → get_or heads h 0 ≡ 0) → Chained [] heads links
chained-none heads links some z =
    record {
      some = some;
      head = λ (h : ℕ) (b : h < length heads).
          record {
            low = omega (arith, z h b);
            none = λ (e : ℕ) (t : get_or heads h 0 ≤ e) (u : e < 0) _. omega (arith, u);
            same = λ (e : ℕ) (t : e + 1 ≡ get_or heads h 0). absurd (omega (arith, t, z h b));
          };
      link = λ (e : ℕ) (b : e < 0). absurd (omega (arith, b));
    }

pub chained-zeros : (n : ℕ) (links : List ℕ) → 0 < n → Chained [] (replicate n 0) links
chained-zeros n links b =
    let e : length {A = ℕ} (replicate n 0) ≡ n = length-replicate n 0 in
    chained-none (replicate n 0) links (omega (arith, b, e)) (λ (h : ℕ) (u : h < length {A = ℕ} (replicate n 0)). get_or-replicate n h 0 0 (omega (arith, u, e)))

-- one more label, l, becomes the first of its chain
module _ (size : ℕ) (ls : List (List ℕ)) (l : List ℕ) where
  old : (e : ℕ) → e < length ls → slot_of size (get_or (ls ++ (l ∷ [])) e []) ≡ slot_of size (get_or ls e [])
  old e b = ap (slot_of size) (get_or-append ls (l ∷ []) [] e b)

  new : slot_of size (get_or (ls ++ (l ∷ [])) (length ls) []) ≡ slot_of size l
  new = ap (slot_of size) (get_or-append_seam ls l [] [])

  last-kept : (h n q : ℕ) → n ≤ length ls → Last size ls h n q → Last size (ls ++ (l ∷ [])) h n q
  last-kept h n q b z =
      record {
        low = z.low;
        none = λ (e : ℕ) (t : q ≤ e) (u : e < n) s. z.none e t u (sym (old e (omega (arith, u, b))) ∙ s);
        same = λ (e : ℕ) (t : e + 1 ≡ q). old e (omega (arith, t, z.low, b)) ∙ z.same e t;
      }

  last-other : (h q : ℕ) → (slot_of size l ≡ h → ⊥) → Last size ls h (length ls) q → Last size (ls ++ (l ∷ [])) h (length ls + 1) q
  last-other h q n z =
      record {
        low = omega (arith, z.low);
        none = λ (e : ℕ) (t : q ≤ e) (u : e < length ls + 1) s.
            ⊎_elim (λ (b : e < length ls). z.none e t b (sym (old e b) ∙ s))
            (λ (b : length ls ≤ e).
            let q' : length ls ≡ e = omega (arith, b, u) in
            n (sym new ∙ subst (λ (m : ℕ). slot_of size (get_or (ls ++ (l ∷ [])) m []) ≡ h) (sym q') s))
            (lt-or-le e (length ls));
        same = λ (e : ℕ) (t : e + 1 ≡ q). old e (omega (arith, t, z.low)) ∙ z.same e t;
      }

  last-new : Last size (ls ++ (l ∷ [])) (slot_of size l) (length ls + 1) (length ls + 1)
  last-new =
      record {
        low = omega arith;
        none = λ (e : ℕ) (t : length ls + 1 ≤ e) (u : e < length ls + 1) s. omega (arith, t, u);
        same = λ (e : ℕ) (t : e + 1 ≡ length ls + 1).
            let q : length ls ≡ e = omega (arith, t) in
            subst (λ (m : ℕ). slot_of size (get_or (ls ++ (l ∷ [])) m []) ≡ slot_of size l) q new;
      }

same_or_not : (x y : ℕ) → (x ≡ y) ⊎ (x ≡ y → ⊥)
same_or_not x y = by_eqb (eqb x y) refl where
  by_eqb : (b : Bool) → eqb x y ≡ b → (x ≡ y) ⊎ (x ≡ y → ⊥)
  by_eqb true q = inl (eqb-true x y q)
  by_eqb false q = inr (λ (t : x ≡ y). both_ways (eq-eqb x y t) q)

chained-of : {ls : List (List ℕ)} {heads links : List ℕ} (size n : ℕ) → size ≡ length heads → n ≡ length ls → 0 < size → ((h : ℕ) → h < size → Last size ls h n (get_or heads h 0))
    → ((e : ℕ) → e < n → Last size ls (slot_of size (get_or ls e [])) e (get_or links e 0)) → Chained ls heads links
chained-of {ls} {heads} {links} size n e m some head link =
    record {
      some = omega (arith, some, e);
      head = λ (h : ℕ) (b : h < length heads).
          subst (λ (k : ℕ). Last (length heads) ls h k (get_or heads h 0)) m (subst (λ (s : ℕ). Last s ls h n (get_or heads h 0)) e (head h (omega (arith, b, e))));
      link = λ (k : ℕ) (b : k < length ls). subst (λ (s : ℕ). Last s ls (slot_of s (get_or ls k [])) k (get_or links k 0)) e (link k (omega (arith, b, m)));
    }

module _ {ls : List (List ℕ)} {heads links : List ℕ} (c : Chained ls heads links) (l : List ℕ) where
  pub chained_more : (h : ℕ) → h ≡ slot_of (length heads) l → h < length heads → length ls < length links
      → Chained (ls ++ (l ∷ [])) (set heads h (length ls + 1)) (set links (length ls) (get_or heads h 0))
  chained_more h e b room =
      let size = length heads in
      chained-of size (length ls + 1) (sym (length-set heads h (length ls + 1))) (sym (length-append ls (l ∷ []))) c.some
      (λ (k : ℕ) (u : k < size).
      ⊎_elim
      (λ (q : h ≡ k).
      subst (λ (m : ℕ). Last size (ls ++ (l ∷ [])) m (length ls + 1) (get_or (set heads h (length ls + 1)) m 0)) q
      (rw (get_or-set_same heads h (length ls + 1) 0 b) (subst (λ (m : ℕ). Last size (ls ++ (l ∷ [])) m (length ls + 1) (length ls + 1)) (sym e) (last-new size ls l))))
      (λ (n : h ≡ k → ⊥).
      rw (get_or-set_other heads h k (length ls + 1) 0 (λ (t : k ≡ h). n (sym t))) (last-other size ls l k (get_or heads k 0) (λ s. n (e ∙ s)) (c.head k u)))
      (same_or_not h k))
      (λ (k : ℕ) (u : k < length ls + 1).
      ⊎_elim
      (λ (q : k < length ls).
      rw (get_or-set_other links (length ls) k (get_or heads h 0) 0 (λ s. omega (arith, s, q)), old size ls l k q)
      (last-kept size ls l (slot_of size (get_or ls k [])) k (get_or links k 0) (omega (arith, q)) (c.link k q)))
      (λ (q : length ls ≤ k).
      let t : length ls ≡ k = omega (arith, q, u) in
      subst (λ (m : ℕ). Last size (ls ++ (l ∷ [])) (slot_of size (get_or (ls ++ (l ∷ [])) m [])) m (get_or (set links (length ls) (get_or heads h 0)) m 0)) t
      (rw (get_or-set_same links (length ls) (get_or heads h 0) 0 room, new size ls l, ← e) (last-kept size ls l h (length ls) (get_or heads h 0) (omega arith) (c.head h b))))
      (lt-or-le k (length ls)))

-- the same of the rows of a buffer: the next one becomes the first of its chain
pub chained-row : (w n : ℕ) (buf heads links : List ℕ) → Chained (rows_of w n buf) heads links → (at : ℕ) → at ≡ n * w → (h : ℕ) → (h ≡ slot_of (length heads) (take (at + w - at) (drop at buf))) × (h < length heads) → n < length links
    → {heads' links' : List ℕ} → heads' ≡ set heads h (n + 1) → links' ≡ set links n (get_or heads h 0) → Chained (rows_of w (n + 1) buf) heads' links'
chained-row w n buf heads links c at e h s room p q =
    let m : at + w - at ≡ w = omega arith in
    let r = chained_more c (row_at w buf (n * w)) h (rw (m, e) at s.0) s.1 (omega (arith, room, length-rows w n buf)) in
    rw (rows_more w n buf, p, q) (rw (length-rows w n buf) at r)

-- ---- interning with the table
module _ (w n : ℕ) (buf l heads links : List ℕ) (c : Chained (rows_of w n buf) heads links) (e : ℕ) (at-e : e ≡ index_of (rows_of w n buf) l) where
  pub chained-known : e < n → Chained (interned (rows_of w n buf) l) heads links
  chained-known h = rw (interned-known (rows_of w n buf) l (omega (arith, at-e, h, length-rows w n buf))) c

  pub chained-new : n ≤ e → (h : ℕ) → (h ≡ slot_of (length heads) l) × (h < length heads) → n < length links → (heads' links' : List ℕ) → heads' ≡ set heads h (n + 1) → links' ≡ set links n (get_or heads h 0)
      → Chained (interned (rows_of w n buf) l) heads' links'
  chained-new b h s room heads' links' p q =
      let r = chained_more c l h s.0 s.1 (omega (arith, room, length-rows w n buf)) in
      rw (interned-new (rows_of w n buf) l (omega (arith, at-e, b, length-rows w n buf)), p, q) (rw (length-rows w n buf) at r)

pub chained-wide : (w n : ℕ) (buf l m heads links : List ℕ) → m ≡ l → length m ≡ w → Chained (interned (rows_of (length m) n buf) m) heads links → Chained (interned (rows_of w n buf) l) heads links
chained-wide w n buf l m heads links q y h =
    subst (λ (x : List ℕ). Chained (interned (rows_of w n buf) x) heads links) q (subst (λ (v : ℕ). Chained (interned (rows_of v n buf) m) heads links) y h)
