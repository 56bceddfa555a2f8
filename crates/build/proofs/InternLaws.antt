-- Laws of interning. Assumes nothing.
use mathlib.Core.Path.{◌≡◌, refl, sym, ap, ◌∙◌, subst}
use mathlib.Core.Bool.{Bool, true, false, cond}
use mathlib.Core.List.Memᴰ
use mathlib.Core.List.{List, [], ◌∷◌, ◌++◌, append_assoc, append-nil, Memᴰ}
use mathlib.Core.Logic.{◌⊎◌, inl, inr}
use Rattle.deck.proofs.CaseLaws.{lt-or-le}
use Rattle.std.specs.Prelude.{Decides}
use Rattle.std.specs.Prelude.{Option, None, Some, IfSome}
use Rattle.deck.specs.declared.numbers.Element.{Element}
use Rattle.eval.proofs.Clash.{both_ways}
use Rattle.atoms.proofs.LabelLaws.{same-eq, same_refl, not_so, row_word}
use Prim.Native.Nat.{ℕ, zero, suc, ◌+◌, ◌*◌, ◌/◌, ◌%◌, ◌≤◌, ◌<◌}
use native.Mathlib.Omega.{arith}
use lib.ListN.{length, get_or, length-append, get_or-append}
use lib.Seq.{paste}
use native.Mathlib.Nat.{mul-le-mul_right}
use lib.Dec.{ltb}
use borrow.Author.Tests.{lt-ltb, le-ltb}
use Rattle.eval.specs.Lent.{bit, member_in}
use Rattle.atoms.specs.Label.{same_label, label_has}
use Rattle.atoms.specs.Rows.{put, flat, row_at, rows_of, Wide, none}
use Rattle.build.specs.Intern.{index_of, interned, Found, Placed, Held}
use Rattle.atoms.proofs.RowLaws.{wide-append, length-rows, rows_at, rows-wide, flat_rows, length-flat, put_self, put-put, put-nil, length-put, rows-put, appended}

-- the first row that is the label
pub index-found : (ls : List (List ℕ)) (l : List ℕ) (e : ℕ) → e < length ls → ((k : ℕ) → k < e → same_label (get_or ls k []) l ≡ false) → same_label (get_or ls e []) l ≡ true → index_of ls l ≡ e
unfolding index_of
index-found [] l e h nay here = absurd (omega (arith, h))
index-found (x ∷ xs) l zero h nay here = rw here
index-found (x ∷ xs) l (suc e) h nay here =
    rw (nay zero (omega arith)) (ap suc (index-found xs l e (omega (arith, h)) (λ (k : ℕ) (b : k < e). nay (suc k) (omega (arith, b))) here))

pub index-none : (ls : List (List ℕ)) (l : List ℕ) → ((k : ℕ) → k < length ls → same_label (get_or ls k []) l ≡ false) → index_of ls l ≡ length ls
unfolding index_of
index-none [] l nay = refl
index-none (x ∷ xs) l nay =
    rw (nay zero (omega arith)) (ap suc (index-none xs l (λ (k : ℕ) (b : k < length xs). nay (suc k) (omega (arith, b)))))

-- the same of the rows of a buffer
module _ (w n : ℕ) (buf l : List ℕ) where
  pub row-found : (e : ℕ) → e < n → ((k : ℕ) → k < e → same_label (row_at w buf (k * w)) l ≡ false) → same_label (row_at w buf (e * w)) l ≡ true → index_of (rows_of w n buf) l ≡ e
  row-found e h nay here =
      index-found (rows_of w n buf) l e (omega (arith, length-rows w n buf))
      (λ (k : ℕ) (b : k < e). rw (rows_at w n buf k (omega (arith, b))) (nay k b))
      (rw (rows_at w n buf e h) here)

  pub row-none : ((k : ℕ) → k < n → same_label (row_at w buf (k * w)) l ≡ false) → index_of (rows_of w n buf) l ≡ n
  row-none nay =
      index-none (rows_of w n buf) l (λ (k : ℕ) (b : k < length (rows_of w n buf)). let b' : k < n = omega (arith, b, length-rows w n buf) in rw (rows_at w n buf k b') (nay k b'))
      ∙ length-rows w n buf

-- ---- a search among the labels
-- `==` on two slices says the same
pub same-by : {b : Bool} {x l : List ℕ} → Decides b (x ≡ l) → b ≡ same_label x l
same-by {b = true} {x} {l} d = rw (d.0 refl) (sym (same_refl l))
same-by {b = false} {x} {l} d = sym (not_so (same_label x l) (λ e. both_ways (d.1 (same-eq x l e)) refl))

-- the element, or the number of labels
abbrev pub or_all : ℕ → Option Element → ℕ
or_all n None = n
or_all n (Some e) = e.0

pub found-of : (ls : List (List ℕ)) (l : List ℕ) (r : Option Element) → or_all (length ls) r ≡ index_of ls l → IfSome r (λ e. e.0 < length ls) → Found ls l r
found-of ls l None e b = record { some = tt; none = sym e }
found-of ls l (Some x) e b = record { some = (e, b); none = tt }

pub found-some : {ls : List (List ℕ)} {l : List ℕ} {r : Option Element} → Found ls l r → {e : Element} → r ≡ Some e → (e.0 ≡ index_of ls l) × (e.0 < length ls)
found-some F q = (rw q at F).some

pub found-none : {ls : List (List ℕ)} {l : List ℕ} {r : Option Element} → Found ls l r → r ≡ None → index_of ls l ≡ length ls
found-none F q = (rw q at F).none

module _ (w n : ℕ) (buf l : List ℕ) where
  pub found-row : (e : ℕ) → e < n → ((k : ℕ) → k < e → same_label (row_at w buf (k * w)) l ≡ false) → same_label (row_at w buf (e * w)) l ≡ true → Found (rows_of w n buf) l (Some (record { 0 = e }))
  found-row e h nay here = record { some = (sym (row-found w n buf l e h nay here), omega (arith, h, length-rows w n buf)); none = tt }

  pub found-no-row : ((k : ℕ) → k < n → same_label (row_at w buf (k * w)) l ≡ false) → Found (rows_of w n buf) l None
  found-no-row nay = record { some = tt; none = row-none w n buf l nay ∙ sym (length-rows w n buf) }

pub interned-known : (ls : List (List ℕ)) (l : List ℕ) → index_of ls l < length ls → interned ls l ≡ ls
unfolding interned
interned-known ls l h = rw (lt-ltb _ _ h)

pub interned-new : (ls : List (List ℕ)) (l : List ℕ) → length ls ≤ index_of ls l → interned ls l ≡ ls ++ (l ∷ [])
unfolding interned
interned-new ls l h = rw (le-ltb _ _ h)

-- what holds of both holds of either
pub by_cond : {A : Type 0} (P : A → Type 0) (b : Bool) (x y : A) → P x → P y → P (cond b x y)
by_cond P true x y p q = p
by_cond P false x y p q = q

-- the same, where either is shown under its test
pub by-case : {A : Type 0} (P : A → Type 0) (b : Bool) (x y : A) → (b ≡ true → P x) → (b ≡ false → P y) → P (cond b x y)
by-case P true x y p q = p refl
by-case P false x y p q = q refl

pub interned-wide : {w : ℕ} {ls : List (List ℕ)} (l : List ℕ) → Wide w ls → length l ≡ w → Wide w (interned ls l)
unfolding interned
interned-wide {w} {ls} l h e = by_cond (Wide w) (ltb (index_of ls l) (length ls)) ls (ls ++ (l ∷ [])) h (wide-append l h e)

pub interned-grows : (ls : List (List ℕ)) (l : List ℕ) → (length ls ≤ length (interned ls l)) × (length (interned ls l) ≤ length ls + 1)
unfolding interned
interned-grows ls l =
    by_cond (λ (r : List (List ℕ)). (length ls ≤ length r) × (length r ≤ length ls + 1)) (ltb (index_of ls l) (length ls)) ls (ls ++ (l ∷ [])) (omega arith, omega arith)
    (omega (arith, length-append ls (l ∷ [])), omega (arith, length-append ls (l ∷ [])))

pub index-le : (ls : List (List ℕ)) (l : List ℕ) → index_of ls l ≤ length ls
unfolding index_of
index-le [] l = omega arith
index-le (x ∷ xs) l = by_cond (λ (r : ℕ). r ≤ suc (length xs)) (same_label x l) zero (suc (index_of xs l)) (omega arith) (omega (arith, index-le xs l))

-- the two ends of interning in a buffer
module _ (w n : ℕ) (buf l : List ℕ) (fits : n * w ≤ length buf) (e : ℕ) (at-e : e ≡ index_of (rows_of w n buf) l) where
  pub placed-known : e < n → Placed buf buf (rows_of w n buf) l e n
  placed-known h =
      let k : interned (rows_of w n buf) l ≡ rows_of w n buf = interned-known (rows_of w n buf) l (omega (arith, at-e, length-rows w n buf)) in
      record { buffer = rw (k, flat_rows w n buf fits) (sym (put_self buf (n * w) fits)); place = at-e; count = rw k (sym (length-rows w n buf)) }

  pub placed-new : n ≤ e → length l ≡ w → n * w + w ≤ length buf → (exit : List ℕ) (at : ℕ) → at ≡ n * w → exit ≡ paste buf at l (length l) → Placed buf exit (rows_of w n buf) l n (n + 1)
  placed-new h wl room exit at ea ex =
      let k : interned (rows_of w n buf) l ≡ rows_of w n buf ++ (l ∷ []) = interned-new (rows_of w n buf) l (omega (arith, at-e, length-rows w n buf)) in
      record {
        buffer = ex ∙ rw (ea, k) (appended w n buf l room wl);
        place = omega (arith, at-e, index-le (rows_of w n buf) l, length-rows w n buf);
        count = rw k (omega (arith, length-append (rows_of w n buf) (l ∷ []), length-rows w n buf));
      }

-- at the start of a phase
pub held_start : (w n : ℕ) (buf : List ℕ) → n * w ≤ length buf → Held w buf buf n (rows_of w n buf)
held_start w n buf h =
    record { is = rw (flat_rows w n buf h) (sym (put_self buf (n * w) h)); count = sym (length-rows w n buf); wide = rows-wide w n buf h }

pub held_none : (w : ℕ) (buf : List ℕ) → Held w buf buf 0 []
unfolding flat
held_none w buf = record { is = sym (put-nil buf); count = refl; wide = none }

pub held_rows : {w : ℕ} {buf₀ buf : List ℕ} {n : ℕ} {ls : List (List ℕ)} → Held w buf₀ buf n ls → rows_of w n buf ≡ ls
held_rows {w} {buf₀} {buf} {n} {ls} h = ap (λ (b : List ℕ). rows_of w n b) h.is ∙ ap (λ (m : ℕ). rows_of w m (put buf₀ (flat ls))) h.count ∙ rows-put h.wide buf₀

pub held-length : {w : ℕ} {buf₀ buf : List ℕ} {n : ℕ} {ls : List (List ℕ)} → Held w buf₀ buf n ls → n * w ≤ length buf₀ → length buf ≡ length buf₀
held-length {w} {buf₀} {buf} {n} {ls} h r =
    ap length h.is ∙ length-put buf₀ (flat ls) (rw (length-flat h.wide, ← h.count) r)

-- a later state over an earlier one
pub held_on : {w : ℕ} {buf₀ buf : List ℕ} {n : ℕ} {ls : List (List ℕ)} → Held w buf₀ buf n ls → (exit : List ℕ) (m : ℕ) (ms : List (List ℕ)) → Held w buf exit m ms → length ls ≤ length ms → Held w buf₀ exit m ms
held_on {w} {buf₀} {buf} {n} {ls} h exit m ms g le =
    let s : length (flat ls) ≤ length (flat ms) = omega (arith, length-flat h.wide, length-flat g.wide, mul-le-mul_right w le) in
    record { is = g.is ∙ ap (λ (b : List ℕ). put b (flat ms)) h.is ∙ put-put buf₀ (flat ls) (flat ms) s; count = g.count; wide = g.wide }

pub held-intern : {w : ℕ} {buf₀ buf : List ℕ} {n : ℕ} {ls : List (List ℕ)} → Held w buf₀ buf n ls → (l exit : List ℕ) (e m : ℕ) → length l ≡ w → Placed buf exit (rows_of w n buf) l e m → Held w buf₀ exit m (interned ls l)
held-intern {w} {buf₀} {buf} {n} {ls} h l exit e m wl p =
    let q : rows_of w n buf ≡ ls = held_rows h in
    held_on h exit m (interned ls l)
    (record { is = rw q at p.buffer; count = rw q at p.count; wide = interned-wide l h.wide wl })
    (interned-grows ls l).0

-- membership
pub interned-keeps : (ls : List (List ℕ)) (l x : List ℕ) → Memᴰ x ls → Memᴰ x (interned ls l)
unfolding interned
interned-keeps ls l x m = by_cond (Memᴰ x) (ltb (index_of ls l) (length ls)) ls (ls ++ (l ∷ [])) m (Memᴰ.append_left (l ∷ []) m)

index-mem : (ls : List (List ℕ)) (l : List ℕ) → index_of ls l < length ls → Memᴰ l ls
unfolding index_of
index-mem [] l h = absurd (omega (arith, h))
index-mem (x ∷ xs) l h = by-test (same_label x l) refl (λ b. index-mem xs l b) h where
  by-test : (b : Bool) → same_label x l ≡ b → (index_of xs l < length xs → Memᴰ l xs) → cond b zero (suc (index_of xs l)) < suc (length xs) → Memᴰ l (x ∷ xs)
  by-test true e f h' = Memᴰ.head (sym (same-eq x l e))
  by-test false e f h' = Memᴰ.tail (f (omega (arith, h')))

pub interned-has : (ls : List (List ℕ)) (l : List ℕ) → Memᴰ l (interned ls l)
interned-has ls l = by_order (lt-or-le (index_of ls l) (length ls)) where
  by_order : (index_of ls l < length ls) ⊎ (length ls ≤ index_of ls l) → Memᴰ l (interned ls l)
  by_order (inr h) = rw (interned-new ls l h) (Memᴰ.append_right ls (Memᴰ.head refl))
  by_order (inl h) = rw (interned-known ls l h) (index-mem ls l h)

-- ---- labels only grow by an append
pub record Extends (ls ms : List (List ℕ)) : Type 0 where
  pub more : List (List ℕ)
  pub is : ms ≡ ls ++ more

pub extends-same : (ls : List (List ℕ)) → Extends ls ls
extends-same ls = record { more = []; is = sym (append-nil ls) }

pub extends-trans : {ls ms ns : List (List ℕ)} → Extends ls ms → Extends ms ns → Extends ls ns
extends-trans {ls} a b = record { more = a.more ++ b.more; is = b.is ∙ ap (λ (r : List (List ℕ)). r ++ b.more) a.is ∙ append_assoc ls a.more b.more }

pub extends-interned : (ls : List (List ℕ)) (l : List ℕ) → Extends ls (interned ls l)
unfolding interned
extends-interned ls l = by_cond (Extends ls) (ltb (index_of ls l) (length ls)) ls (ls ++ (l ∷ [])) (extends-same ls) (record { more = l ∷ []; is = refl })

pub extends-length : {ls ms : List (List ℕ)} → Extends ls ms → length ls ≤ length ms
extends-length {ls} {ms} h = omega (arith, ap length h.is, length-append ls h.more)

-- an element keeps its label
pub extends-at : {ls ms : List (List ℕ)} → Extends ls ms → (e : ℕ) → e < length ls → get_or ms e [] ≡ get_or ls e []
extends-at {ls} {ms} h e b = ap (λ (r : List (List ℕ)). get_or r e []) h.is ∙ get_or-append ls h.more [] e b

-- a label's class, read off the buffer that holds the labels
pub member-label : {w : ℕ} {ls : List (List ℕ)} → Wide w ls → (buf : List ℕ) (e k : ℕ) → e < length ls → k / 64 < w → member_in (put buf (flat ls)) w e k ≡ label_has (get_or ls e []) k
unfolding member_in label_has
member-label {w} {ls} h buf e k b l =
    let r : get_or ls e [] ≡ row_at w (put buf (flat ls)) (e * w) = ap (λ (x : List (List ℕ)). get_or x e []) (sym (rows-put h buf)) ∙ rows_at w (length ls) (put buf (flat ls)) e b in
    ap (λ (x : ℕ). bit x (k % 64)) (sym (row_word w (put buf (flat ls)) (e * w) (k / 64) l) ∙ ap (λ (x : List ℕ). get_or x (k / 64) 0) (sym r))

-- placed as it stands, where its width is known by another name
pub placed-wide : (w n : ℕ) (entry exit l m : List ℕ) (e r : ℕ) → m ≡ l → length m ≡ w → Placed entry exit (rows_of (length m) n entry) m e r → Placed entry exit (rows_of w n entry) l e r
placed-wide w n entry exit l m e r q y h =
    subst (λ (x : List ℕ). Placed entry exit (rows_of w n entry) x e r) q (subst (λ (v : ℕ). Placed entry exit (rows_of v n entry) m e r) y h)
