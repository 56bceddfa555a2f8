-- Laws of `put`, `flat` and `rows_of`: a buffer and the list that it holds. Assumes nothing.
--     put-put        a longer list covers a shorter one
--     rows-put       the rows that were put are the rows that are read
--     rows_more      the rows with the one after them
--     appended       a row stored past the last one
use mathlib.Core.Path.{◌≡◌, refl, sym, ap, ◌∙◌, subst}
use mathlib.Core.List.{List, [], ◌∷◌, ◌++◌, append_assoc, append-nil}
use Prim.Native.Nat.{ℕ, zero, suc, ◌+◌, ◌*◌, ◌-◌, ◌≤◌, ◌<◌}
use native.Mathlib.Nat.{suc-mul, zero-mul, mul-le-mul_right}
use native.Mathlib.Numerals.{add-one}
use native.Mathlib.Omega.{arith}
use lib.ListN.{length, take, drop, get_or, length-append, length-drop, take-append-drop}
use lib.Seq.{paste, take-append_seam, drop-append-add, drop-drop, length-take-le, take_at, drop_at, take-add, take-length}
use Rattle.atoms.specs.Rows.{put, flat, row_at, rows_of, Wide, none, more}

module _ {A : Type 0} where
  pub put-take : (buf xs : List A) → take (length xs) (put buf xs) ≡ xs
  unfolding put
  put-take buf xs = take-append_seam xs (drop (length xs) buf)

  drop_past : (xs buf : List A) (n : ℕ) → length xs ≤ n → drop n (xs ++ drop (length xs) buf) ≡ drop n buf
  drop_past xs buf n h =
      let e : length xs + (n - length xs) ≡ n = omega arith in
      subst (λ (m : ℕ). drop m (xs ++ drop (length xs) buf) ≡ drop m buf) e (drop-append-add xs (drop (length xs) buf) (n - length xs) ∙ drop-drop (n - length xs) (length xs) buf)

  pub put-put : (buf xs ys : List A) → length xs ≤ length ys → put (put buf xs) ys ≡ put buf ys
  unfolding put
  put-put buf xs ys h = ap (λ (r : List A). ys ++ r) (drop_past xs buf (length ys) h)

  pub length-put : (buf xs : List A) → length xs ≤ length buf → length (put buf xs) ≡ length buf
  unfolding put
  length-put buf xs h = simp (length-append, length-drop) (omega arith)

  pub put-nil : (buf : List A) → put buf [] ≡ buf
  unfolding put
  put-nil buf = refl

  pub put_self : (buf : List A) (n : ℕ) → n ≤ length buf → put buf (take n buf) ≡ buf
  unfolding put
  put_self buf n h = rw (length-take-le n buf h) (take-append-drop n buf)

pub wide-append : {w : ℕ} {ls : List (List ℕ)} (l : List ℕ) → Wide w ls → length l ≡ w → Wide w (ls ++ (l ∷ []))
wide-append l none e = more e none
wide-append l (more e' h) e = more e' (wide-append l h e)

pub length-flat : {w : ℕ} {ls : List (List ℕ)} → Wide w ls → length (flat ls) ≡ length ls * w
unfolding flat
length-flat {w} none = sym (zero-mul w)
length-flat {w} (more {l} {ls} e h) = length-append l (flat ls) ∙ omega (arith, e, length-flat h, suc-mul (length ls) w)

pub flat_append : (xs ys : List (List ℕ)) → flat (xs ++ ys) ≡ flat xs ++ flat ys
unfolding flat
flat_append [] ys = refl
flat_append (x ∷ xs) ys = rw (flat_append xs ys) (sym (append_assoc x (flat xs) (flat ys)))

pub rows-flat : {w : ℕ} {ls : List (List ℕ)} → Wide w ls → (rest : List ℕ) → rows_of w (length ls) (flat ls ++ rest) ≡ ls
unfolding flat rows_of
rows-flat none rest = refl
rows-flat {w} (more {l} {ls} e h) rest =
    rw (append_assoc l (flat ls) rest, take_at l (flat ls ++ rest) w e, drop_at l (flat ls ++ rest) w e, rows-flat h rest)

pub rows-put : {w : ℕ} {ls : List (List ℕ)} → Wide w ls → (buf : List ℕ) → rows_of w (length ls) (put buf (flat ls)) ≡ ls
unfolding put
rows-put {w} {ls} h buf = rows-flat h (drop (length (flat ls)) buf)

pub length-rows : (w n : ℕ) (buf : List ℕ) → length (rows_of w n buf) ≡ n
unfolding rows_of
length-rows w zero buf = refl
length-rows w (suc n) buf = ap suc (length-rows w n (drop w buf))

pub rows-wide : (w n : ℕ) (buf : List ℕ) → n * w ≤ length buf → Wide w (rows_of w n buf)
unfolding rows_of
rows-wide w zero buf h = none
rows-wide w (suc n) buf h =
    more (length-take-le w buf (omega (arith, suc-mul n w))) (rows-wide w n (drop w buf) (omega (arith, suc-mul n w, length-drop w buf)))

pub flat_rows : (w n : ℕ) (buf : List ℕ) → n * w ≤ length buf → flat (rows_of w n buf) ≡ take (n * w) buf
unfolding rows_of flat
flat_rows w zero buf h = rw (zero-mul w)
flat_rows w (suc n) buf h =
    let e : w + n * w ≡ suc n * w = omega (arith, suc-mul n w) in
    rw (flat_rows w n (drop w buf) (omega (arith, suc-mul n w, length-drop w buf)), ← e) (sym (take-add w (n * w) buf))

pub rows_at : (w n : ℕ) (buf : List ℕ) (e : ℕ) → e < n → get_or (rows_of w n buf) e [] ≡ row_at w buf (e * w)
unfolding rows_of
rows_at w zero buf e h = absurd (omega (arith, h))
rows_at w (suc n) buf zero h = rw (zero-mul w)
rows_at w (suc n) buf (suc e) h =
    let q : w + e * w ≡ suc e * w = omega (arith, suc-mul e w) in
    rows_at w n (drop w buf) e (omega (arith, h)) ∙ ap (λ (r : List ℕ). take w r) (drop-drop (e * w) w buf ∙ ap (λ (m : ℕ). drop m buf) q)

-- the rows with the one after them
rows-suc : (w n : ℕ) (buf : List ℕ) → rows_of w (suc n) buf ≡ rows_of w n buf ++ (row_at w buf (n * w) ∷ [])
unfolding rows_of
rows-suc w zero buf = rw (zero-mul w)
rows-suc w (suc n) buf =
    let q : w + n * w ≡ suc n * w = omega (arith, suc-mul n w) in
    let r : row_at w (drop w buf) (n * w) ≡ row_at w buf (suc n * w) = ap (λ (l : List ℕ). take w l) (drop-drop (n * w) w buf ∙ ap (λ (m : ℕ). drop m buf) q) in
    ap (λ (ls : List (List ℕ)). take w buf ∷ ls) (rows-suc w n (drop w buf) ∙ ap (λ (l : List ℕ). rows_of w n (drop w buf) ++ (l ∷ [])) r)

pub rows_more : (w n : ℕ) (buf : List ℕ) → rows_of w (n + 1) buf ≡ rows_of w n buf ++ (row_at w buf (n * w) ∷ [])
rows_more w n buf = rw (add-one n) (rows-suc w n buf)

-- a row stored past the last one
pub appended : (w n : ℕ) (buf l : List ℕ) → n * w + w ≤ length buf → length l ≡ w → paste buf (n * w) l (length l) ≡ put buf (flat (rows_of w n buf ++ (l ∷ [])))
unfolding put flat
appended w n buf l h e =
    let x : flat (rows_of w n buf ++ (l ∷ [])) ≡ take (n * w) buf ++ l = flat_append (rows_of w n buf) (l ∷ []) ∙ rw (flat_rows w n buf (omega arith), append-nil l) in
    let k : length (take (n * w) buf ++ l) ≡ n * w + length l = length-append (take (n * w) buf) l ∙ rw (length-take-le (n * w) buf (omega arith)) in
    rw (x, k, take-length l)

pub room : (n w r : ℕ) → (n + 1) * w ≤ r → n * w + w ≤ r
room n w r h = omega (arith, suc-mul n w, rw (add-one n) at h)

pub room-below : (e n w r : ℕ) → e ≤ n → (n + 1) * w ≤ r → (e + 1) * w ≤ r
room-below e n w r h k = omega (arith, mul-le-mul_right {m = e + 1} {n = n + 1} w (omega arith))
