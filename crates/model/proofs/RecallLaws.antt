-- The elements of rows that are remembered: labels are only appended, so each stays where it is.
--     recalled-reach, recalled-row      a row interned, a row found
--     recall-link                       the edge to a remembered element
use lib.ListN.{drop, length-drop}
use lib.Seq.{length-take-le}
use native.Mathlib.Nat.{suc-mul, mul-le-mul_right}
use Prim.Native.Nat.{◌*◌}
use Rattle.build.specs.Prints.{Chained, slot_of}
use Rattle.build.proofs.PrintLaws.{chained_more}
use Rattle.atoms.proofs.RowLaws.{rows_at, rows_more}
use Rattle.atoms.specs.Rows.{row_at}
use Rattle.build.specs.declared.building.Build.{Build}
use Rattle.build.specs.Building.{Ready, Holds, Pushed, deck_in, state_of, model_of}
use Rattle.build.specs.Model.{linked}
use Rattle.build.proofs.BuildLaws.{reach-linked}
use Rattle.model.specs.Recall.{Recalls}
use Prim.Native.Nat.{ℕ, zero, suc, ◌+◌, ◌-◌, ◌<◌, ◌≤◌}
use mathlib.Core.Path.{◌≡◌, refl, sym, ap, ◌∙◌, subst}
use mathlib.Core.Bool.{Bool, true, false, cond}
use mathlib.Core.List.{List, [], ◌∷◌, ◌++◌}
use mathlib.Core.Logic.{⊎_elim}
use native.Mathlib.Omega.{arith}
use lib.ListN.{length, get_or, set, length-set, length-append}
use lib.Seq.{get_or-set_same, get_or-set_other}
use Rattle.deck.specs.Deck.{Deck, class_count, class_at}
use Rattle.deck.specs.Content.{deck_of}
use Rattle.deck.proofs.CaseLaws.{lt-or-le}
use Rattle.eval.specs.Lent.{label_width}
use Rattle.build.specs.declared.bounds.Bounds.{Bounds}
use Rattle.build.specs.declared.tally.Tally.{Tally}
use Rattle.build.specs.Push.{Step}
use Rattle.atoms.specs.Label.{same_label, label_of}
use Rattle.atoms.specs.Rows.{rows_of}
use Rattle.build.specs.Intern.{index_of, interned}
use Rattle.atoms.specs.Floor.{floored}
use Rattle.build.specs.Seed.{row_label}
use Rattle.build.specs.Push.{edge}
use Rattle.build.specs.Model.{Model, Buffers, begun, Prepared, Built, reach}
use Rattle.model.specs.FactIndex.{Recalled}
use Rattle.atoms.proofs.LabelLaws.{same_refl}
use Rattle.atoms.proofs.MemberLaws.{by_cases}
use Rattle.atoms.proofs.RowLaws.{length-rows}
use Rattle.build.proofs.InternLaws.{interned-known, interned-new, index-le, placed-known, held_rows}
use Rattle.build.proofs.SeedLaws.{length-row-label}
use Rattle.build.proofs.BuildLaws.{all_fit}

-- ---- places of labels
index-append : (ls more : List (List ℕ)) (l : List ℕ) → index_of ls l < length ls → index_of (ls ++ more) l ≡ index_of ls l
unfolding index_of
index-append [] more l h = absurd (omega (arith, h))
index-append (x ∷ xs) more l h = by (same_label x l) (index-append xs more l) h
  where
    by : (b : Bool) → (index_of xs l < length xs → index_of (xs ++ more) l ≡ index_of xs l) → cond b zero (suc (index_of xs l)) < suc (length xs) → cond b zero (suc (index_of (xs ++ more) l)) ≡ cond b zero (suc (index_of xs l))
    by true f h' = refl
    by false f h' = ap suc (f (omega (arith, h')))

index-new : (ls : List (List ℕ)) (l : List ℕ) → length ls ≤ index_of ls l → index_of (ls ++ (l ∷ [])) l ≡ index_of ls l
unfolding index_of
index-new [] l h = rw (same_refl l)
index-new (x ∷ xs) l h = by (same_label x l) (index-new xs l) h
  where
    by : (b : Bool) → (length xs ≤ index_of xs l → index_of (xs ++ (l ∷ [])) l ≡ index_of xs l) → suc (length xs) ≤ cond b zero (suc (index_of xs l)) → cond b zero (suc (index_of (xs ++ (l ∷ [])) l)) ≡ cond b zero (suc (index_of xs l))
    by true f h' = refl
    by false f h' = ap suc (f (omega (arith, h')))

-- a label that has a place keeps it where another is interned
index_kept : (ls : List (List ℕ)) (l x : List ℕ) → index_of ls l < length ls → index_of (interned ls x) l ≡ index_of ls l
index_kept ls l x h =
    ⊎_elim (λ (g : index_of ls x < length ls). ap (λ (m : List (List ℕ)). index_of m l) (interned-known ls x g))
    (λ (g : length ls ≤ index_of ls x). ap (λ (m : List (List ℕ)). index_of m l) (interned-new ls x g) ∙ index-append ls (x ∷ []) l h)
    (lt-or-le (index_of ls x) (length ls))

-- and where it is interned itself it stands there
index-own : (ls : List (List ℕ)) (l : List ℕ) → (index_of (interned ls l) l ≡ index_of ls l) × (index_of ls l < length (interned ls l))
index-own ls l =
    ⊎_elim (λ (g : index_of ls l < length ls). rw (interned-known ls l g) (refl, g))
    (λ (g : length ls ≤ index_of ls l). rw (interned-new ls l g) (index-new ls l g, omega (arith, index-le ls l, length-append ls (l ∷ []))))
    (lt-or-le (index_of ls l) (length ls))

interned-more : (ls : List (List ℕ)) (l : List ℕ) → length ls ≤ length (interned ls l)
interned-more ls l =
    ⊎_elim (λ (g : index_of ls l < length ls). rw (interned-known ls l g) (omega arith)) (λ (g : length ls ≤ index_of ls l). rw (interned-new ls l g) (omega (arith, length-append ls (l ∷ []))))
    (lt-or-le (index_of ls l) (length ls))

-- ---- what is remembered
pub recalled-reach : {D : Deck} {floor : List ℕ} {ls : List (List ℕ)} {known : List ℕ} → Recalled D floor ls known → (k el : ℕ) → k < class_count D → el ≡ index_of ls (row_label D floor k)
    → {ms : List (List ℕ)} → ms ≡ interned ls (row_label D floor k) → {next : List ℕ} → next ≡ set known k (el + 1) → Recalled D floor ms next
recalled-reach {D} {floor} {ls} {known} R k el h p {ms} q {next} e = rw (q, e) (record { wide = omega (arith, R.wide, length-set known k (el + 1)); place = place; below = below })
  where
    own : get_or (set known k (el + 1)) k 0 ≡ el + 1
    own = get_or-set_same known k (el + 1) 0 (omega (arith, h, R.wide))

    place : (j : ℕ) → (get_or (set known k (el + 1)) j 0 ≡ 0 → ⊥) → index_of (interned ls (row_label D floor k)) (row_label D floor j) ≡ get_or (set known k (el + 1)) j 0 - 1
    place j z =
        by_cases k j
        (λ (s : k ≡ j).
        subst (λ (i : ℕ). index_of (interned ls (row_label D floor k)) (row_label D floor i) ≡ get_or (set known k (el + 1)) i 0 - 1) s
        ((index-own ls (row_label D floor k)).0 ∙ sym p ∙ (let y : el ≡ el + 1 - 1 = omega arith in y) ∙ ap (λ (n : ℕ). n - 1) (sym own)))
        (λ (n : k ≡ j → ⊥).
        let o : get_or (set known k (el + 1)) j 0 ≡ get_or known j 0 = get_or-set_other known k j (el + 1) 0 (λ s. n (sym s)) in
        let z' : get_or known j 0 ≡ 0 → ⊥ = λ y. z (o ∙ y) in
        index_kept ls (row_label D floor j) (row_label D floor k) (omega (arith, R.place j z', R.below j z')) ∙ R.place j z' ∙ ap (λ (n : ℕ). n - 1) (sym o))

    below : (j : ℕ) → (get_or (set known k (el + 1)) j 0 ≡ 0 → ⊥) → get_or (set known k (el + 1)) j 0 - 1 < length (interned ls (row_label D floor k))
    below j z =
        by_cases k j (λ (s : k ≡ j). subst (λ (i : ℕ). get_or (set known k (el + 1)) i 0 - 1 < length (interned ls (row_label D floor k))) s (omega (arith, own, p, (index-own ls (row_label D floor k)).1)))
        (λ (n : k ≡ j → ⊥).
        let o : get_or (set known k (el + 1)) j 0 ≡ get_or known j 0 = get_or-set_other known k j (el + 1) 0 (λ s. n (sym s)) in
        omega (arith, o, R.below j (λ y. z (o ∙ y)), interned-more ls (row_label D floor k)))

-- a row that is among the labels
recalled-found : {D : Deck} {floor : List ℕ} {ls : List (List ℕ)} {known : List ℕ} → Recalled D floor ls known → (k el : ℕ) → k < class_count D → el ≡ index_of ls (row_label D floor k)
    → el < length ls → {next : List ℕ} → next ≡ set known k (el + 1) → Recalled D floor ls next
recalled-found {D} {floor} {ls} R k el h p b e = recalled-reach R k el h p (sym (interned-known ls (row_label D floor k) (omega (arith, p, b)))) e

-- the same, by a label that was loaded and took the floor in
pub recalled-row : {D : Deck} {floor : List ℕ} {ls : List (List ℕ)} {known : List ℕ} → Recalled D floor ls known → (k el : ℕ) (loaded label : List ℕ) → k < class_count D
    → loaded ≡ label_of (label_width D) (class_at D k).row → label ≡ floored D floor loaded → (el ≡ index_of ls label) × (el < length ls)
    → {next : List ℕ} → next ≡ set known k (el + 1) → Recalled D floor ls next
unfolding row_label
recalled-row {D} {floor} {ls} R k el loaded label h q p at e = recalled-found R k el h (at.0 ∙ ap (index_of ls) (p ∙ ap (floored D floor) q)) at.1 e

-- the labels that a step leaves
built-rows : {D : Deck} {B : Bounds} {b : Buffers} {t : Tally} {b' : Buffers} {l : List ℕ} {r : Step} {m : Model} → Built D B b t b' l r m → rows_of (label_width D) r.tally.elements b'.labels ≡ m.labels
built-rows X = held_rows X.held

pub reach-rows : {D : Deck} {B : Bounds} {b : Buffers} {t : Tally} {b' : Buffers} {l : List ℕ} {r : Step} {m : Model} → Built D B b t b' l r m → (q x : ℕ) (row : List ℕ) → m ≡ reach B q x row (begun D b t)
    → rows_of (label_width D) r.tally.elements b'.labels ≡ interned (rows_of (label_width D) t.elements b.labels) row
unfolding reach
reach-rows X q x row e = built-rows X ∙ ap (λ (k : Model). k.labels) e

-- ---- the edge to a remembered element
pub recall-link : {a c : Build} {r : Bool} {known : List ℕ} → Ready a → Recalls a a known → (role x k n : ℕ) → get_or known k 0 ≡ suc n → Pushed a c r (linked a.plan.bounds a.tally.elements (edge role x n) (state_of a))
    → Holds a c r (reach a.plan.bounds role x (row_label (deck_in a) a.plan.floor.now k) (model_of a))
recall-link {a} {known = known} P R role x k n q L =
    let D = deck_in a in
    let l = row_label D a.plan.floor.now k in
    let z : get_or known k 0 ≡ 0 → ⊥ = λ y. omega (arith, y, q) in
    let at : n ≡ index_of (model_of a).labels l = omega (arith, q, R.place k z) in
    let I = placed-known (label_width D) a.tally.elements a.labels.now l (all_fit P) n at (omega (arith, q, R.below k z, length-rows (label_width D) a.tally.elements a.labels.now)) in
    record { same = L.same; built = rw (L.label, L.labels) (reach-linked P (length-row-label D a.plan.floor.now k) I P.label-wide role x L.left) }

-- an element's number is small
pub place-small : {s : List ℕ} {B : Bounds} {b : Buffers} {t : Tally} {floor label : List ℕ} → Prepared s B b t floor label → (l : List ℕ) {el : ℕ} → el ≡ index_of (rows_of (label_width (deck_of s)) t.elements b.labels) l → el < 65536
place-small {s} {b = b} {t = t} P l e =
    omega (arith, e, index-le (rows_of (label_width (deck_of s)) t.elements b.labels) l, length-rows (label_width (deck_of s)) t.elements b.labels, P.few, P.most)

-- ---- rows of the buffer
pub row-length : (w n e : ℕ) (buf : List ℕ) → n * w ≤ length buf → e < n → length (get_or (rows_of w n buf) e []) ≡ w
row-length w n e buf h b =
    ap length (rows_at w n buf e b) ∙ length-take-le w (drop (e * w) buf) (omega (arith, length-drop (e * w) buf, suc-mul e w, mul-le-mul_right {m = suc e} {n = n} w (omega (arith, b)), h))

-- the labels of all elements by their slots: one more
pub chained-label : (w n e : ℕ) (buf : List ℕ) {heads links : List ℕ} → Chained (rows_of w e buf) heads links → e < n → {label : List ℕ} → label ≡ get_or (rows_of w n buf) e [] → (h : ℕ) → (h ≡ slot_of (length heads) label) × (h < length heads) → e < length links
    → {heads' links' : List ℕ} → heads' ≡ set heads h (e + 1) → links' ≡ set links e (get_or heads h 0) → Chained (rows_of w (e + 1) buf) heads' links'
chained-label w n e buf c b q h s room p r =
    let d = chained_more c (row_at w buf (e * w)) h (rw (q ∙ rows_at w n buf e b) at s.0) s.1 (omega (arith, room, length-rows w e buf)) in
    rw (rows_more w e buf, p, r) (rw (length-rows w e buf) at d)
