-- Reasons that stand in the log, noted once more.
--     stand-note, stand-walk    what stands before the total stays there while more are noted
--     stand-own                 what was noted stands where the total was
--     standing-own, standing-walk    a stretch of the log
--     noted-length              one more reason leaves the log as long
--     Copied                    the loop that notes one once more
use Prim.Native.Nat.{ℕ, ◌+◌, ◌*◌, ◌/◌, ◌<◌, ◌≤◌}
use mathlib.Core.Bool.{Bool, true, false, cond, ◌&&◌}
use mathlib.Core.Path.{◌≡◌, refl, sym, ap, subst, ◌∙◌}
use mathlib.Core.Logic.{⊎_elim}
use native.Mathlib.Nat.{add-zero}
use Rattle.deck.proofs.CaseLaws.{lt-or-le}
use mathlib.Core.List.{List, [], ◌∷◌}
use native.Mathlib.Omega.{arith}
use borrow.Author.Tests.{lt-ltb, ltb-true, eqb-true, eqb-false}
use lib.Dec.{eqb, ltb}
use Rattle.std.proofs.lemmas.List.{get_or-replicate, get_or_past}
use lib.ListN.{length, get_or, set, replicate, length-replicate, drop, length-drop, length-set, drop_of_length-le}
use lib.Seq.{get_or-set_same, get_or-set_other}
use Rattle.deck.specs.Deck.{Deck}
use Rattle.eval.proofs.Clash.{both_true}
use Rattle.eval.proofs.Walks.{list-step}
use Rattle.atoms.specs.declared.reasons.Reason.{Reason}
use Rattle.atoms.specs.declared.reasons.Stretch.{Stretch}
use Rattle.atoms.specs.Walk.{walk}
use Rattle.atoms.specs.Reasons.{words_of, reason_at, written, logged, has_room, noted, counted, Log, note, run_delta, Stand}
use Rattle.atoms.specs.Occurrences.{capped, entry_at, logs, deltas_of, delta_count, noted_deltas, Standing, Places}
use Rattle.atoms.proofs.OccurrenceLaws.{counted_is, walk-total, full-walk}

-- ---- room
pub record Room (words : List ℕ) (n : ℕ) : Type 0 where
  pub few : n < 4294967295
  pub fits : n < length words / 3

pub room-of : (words : List ℕ) (n : ℕ) → has_room words n ≡ true → Room words n
room-of words n h =
    let b = both_true (ltb n 4294967295) (ltb n (length words / 3)) h in
    record { few = ltb-true n 4294967295 b.0; fits = ltb-true n (length words / 3) b.1 }

room-is : (words : List ℕ) (n : ℕ) → Room words n → has_room words n ≡ true
room-is words n R = rw (lt-ltb n 4294967295 R.few, lt-ltb n (length words / 3) R.fits) refl

-- ---- one reason written
length-written : (words : List ℕ) (n : ℕ) (w : List ℕ) → length (written words n w) ≡ length words
length-written words n w = omega (arith, length-set (set (set words (n * 3) (get_or w 0 0)) (n * 3 + 1) (get_or w 1 0)) (n * 3 + 2) (get_or w 2 0), length-set (set words (n * 3) (get_or w 0 0)) (n * 3 + 1) (get_or w 1 0), length-set words (n * 3) (get_or w 0 0))

-- a word of another place
word-elsewhere : (words : List ℕ) (n : ℕ) (w : List ℕ) (i : ℕ) → (i ≡ n * 3 → ⊥) → (i ≡ n * 3 + 1 → ⊥) → (i ≡ n * 3 + 2 → ⊥) → get_or (written words n w) i 0 ≡ get_or words i 0
word-elsewhere words n w i a b c =
    get_or-set_other (set (set words (n * 3) (get_or w 0 0)) (n * 3 + 1) (get_or w 1 0)) (n * 3 + 2) i (get_or w 2 0) 0 c
    ∙ get_or-set_other (set words (n * 3) (get_or w 0 0)) (n * 3 + 1) i (get_or w 1 0) 0 b ∙ get_or-set_other words (n * 3) i (get_or w 0 0) 0 a

at-elsewhere : (words : List ℕ) (n : ℕ) (w : List ℕ) (k : ℕ) → (k ≡ n → ⊥) → reason_at (written words n w) k ≡ reason_at words k
at-elsewhere words n w k d =
    let x = word-elsewhere words n w (k * 3) (λ e. d (omega (arith, e))) (λ e. omega (arith, e)) (λ e. omega (arith, e)) in
    let y = word-elsewhere words n w (k * 3 + 1) (λ e. omega (arith, e)) (λ e. d (omega (arith, e))) (λ e. omega (arith, e)) in
    let z = word-elsewhere words n w (k * 3 + 2) (λ e. omega (arith, e)) (λ e. omega (arith, e)) (λ e. d (omega (arith, e))) in
    rw (x, y, z) refl

at-written : (words : List ℕ) (n : ℕ) (a b c : ℕ) → n < length words / 3 → reason_at (written words n (a ∷ b ∷ c ∷ [])) n ≡ a ∷ b ∷ c ∷ []
at-written words n a b c h =
    let one = set words (n * 3) a in
    let two = set one (n * 3 + 1) b in
    let l1 : length one ≡ length words = length-set words (n * 3) a in
    let l2 : length two ≡ length words = length-set one (n * 3 + 1) b ∙ l1 in
    let x : get_or (set two (n * 3 + 2) c) (n * 3) 0 ≡ a = get_or-set_other two (n * 3 + 2) (n * 3) c 0 (λ e. omega (arith, e)) ∙ get_or-set_other one (n * 3 + 1) (n * 3) b 0 (λ e. omega (arith, e)) ∙ get_or-set_same words (n * 3) a 0 (omega (arith, h)) in
    let y : get_or (set two (n * 3 + 2) c) (n * 3 + 1) 0 ≡ b = get_or-set_other two (n * 3 + 2) (n * 3 + 1) c 0 (λ e. omega (arith, e)) ∙ get_or-set_same one (n * 3 + 1) b 0 (omega (arith, h, l1)) in
    let z : get_or (set two (n * 3 + 2) c) (n * 3 + 2) 0 ≡ c = get_or-set_same two (n * 3 + 2) c 0 (omega (arith, h, l2)) in
    rw (x, y, z) refl

logged-there : (words : List ℕ) (n : ℕ) (x : Reason) → n < length words / 3 → reason_at (logged words n x) n ≡ words_of x
logged-there words n (Reason.LabelNotClosed class role) h = at-written words n 1 class.0 role.0 h
logged-there words n (Reason.RunDelta class) h = at-written words n 2 class.0 0 h
logged-there words n (Reason.BoundTripped bound limit) h = at-written words n 3 _ limit h
logged-there words n (Reason.AxiomsDropped dropped) h = at-written words n 4 dropped 0 h

-- ---- more reasons
pub noted-length : (words : List ℕ) (total : ℕ) (x : Reason) → length (noted words total x) ≡ length words
unfolding noted
noted-length words total x = go (has_room words total)
  where
    go : (b : Bool) → length (cond b (logged words total x) words) ≡ length words
    go true = length-written words total (words_of x)
    go false = refl

noted-elsewhere : (words : List ℕ) (total : ℕ) (x : Reason) (k : ℕ) → (k ≡ total → ⊥) → reason_at (noted words total x) k ≡ reason_at words k
unfolding noted
noted-elsewhere words total x k d = go (has_room words total)
  where
    go : (b : Bool) → reason_at (cond b (logged words total x) words) k ≡ reason_at words k
    go true = at-elsewhere words total (words_of x) k d
    go false = refl

same-room : (words now : List ℕ) → length now ≡ length words → (n : ℕ) → has_room now n ≡ has_room words n
same-room words now e n = ap (λ (l : ℕ). ltb n 4294967295 && ltb n (l / 3)) e

pub stand-note : (words : List ℕ) (total : ℕ) (x : Reason) (xs : List Reason) (n : ℕ) → Stand words n xs → capped (n + length xs) ≤ total → Stand (noted words total x) n xs
unfolding Stand
stand-note words total x [] n S b = tt
stand-note words total x (y ∷ ys) n S b = (
  λ h.
      let r = room-of words n (sym (same-room words (noted words total x) (noted-length words total x) n) ∙ h) in
      noted-elsewhere words total x n (λ e. omega (arith, e, b, r.few)) ∙ S.0 (room-is words n r),
  stand-note words total x ys (n + 1) S.1 (omega (arith, b)),
)

pub stand-walk : (ys : List Reason) (g : Log) (xs : List Reason) (n : ℕ) → Stand g.words n xs → capped (n + length xs) ≤ g.total → g.total ≤ 4294967295 → Stand (walk note ys g).words n xs
unfolding walk
stand-walk [] g xs n S b m = S
stand-walk (y ∷ ys) g xs n S b m =
    let c = counted_is g.total m in
    stand-walk ys (note y g) xs n (stand-note g.words g.total y xs n S b) (omega (arith, b, c)) (omega (arith, c))

-- where the total stands at its ceiling, nothing need stand anywhere
stand-ceiling : (words : List ℕ) (xs : List Reason) (n : ℕ) → 4294967295 ≤ n → Stand words n xs
unfolding Stand
stand-ceiling words [] n h = tt
stand-ceiling words (x ∷ xs) n h = (λ r. absurd (omega (arith, h, (room-of words n r).few)), stand-ceiling words xs (n + 1) (omega (arith, h)))

noted-there : (words : List ℕ) (total : ℕ) (x : Reason) → has_room words total ≡ true → reason_at (noted words total x) total ≡ words_of x
unfolding noted
noted-there words total x h =
    let p : cond (has_room words total) (logged words total x) words ≡ logged words total x = ap (λ (b : Bool). cond b (logged words total x) words) h in
    ap (λ (l : List ℕ). reason_at l total) p ∙ logged-there words total x (room-of words total h).fits

pub stand-own : (xs : List Reason) (g : Log) → g.total ≤ 4294967295 → Stand (walk note xs g).words g.total xs
unfolding walk Stand
stand-own [] g m = tt
stand-own (x ∷ xs) g m =
    let g₁ : Log = note x g in
    let c : g₁.total ≡ capped (g.total + 1) = counted_is g.total m in
    let one : Stand g₁.words g.total (x ∷ []) = (λ h. noted-there g.words g.total x (sym (same-room g.words (noted g.words g.total x) (noted-length g.words g.total x) g.total) ∙ h), tt) in
    let first : Stand (walk note xs g₁).words g.total (x ∷ []) = stand-walk xs g₁ (x ∷ []) g.total one (omega (arith, c)) (omega (arith, c)) in (
      first.0,
      ⊎_elim (λ (h : g.total < 4294967295). let e : g₁.total ≡ g.total + 1 = omega (arith, c, h) in subst (λ (n : ℕ). Stand (walk note xs g₁).words n xs) e (stand-own xs g₁ (omega (arith, c))))
          (λ (h : 4294967295 ≤ g.total). stand-ceiling (walk note xs g₁).words xs (g.total + 1) (omega (arith, h))) (lt-or-le g.total 4294967295),
    )

-- ---- a stretch of the log
-- what was noted is one, by any count that the total takes for theirs
pub standing-own : (xs : List Reason) (g : Log) → g.total ≤ 4294967295 → {s : Stretch} → s.first ≡ g.total → capped (g.total + s.count) ≡ capped (g.total + length xs) → Standing (walk note xs g).words s (walk note xs g).total xs
standing-own xs g m {s} f c =
    let t = walk-total xs g m in
    record {
      stand = subst (λ (n : ℕ). Stand (walk note xs g).words n xs) (sym f) (stand-own xs g m);
      since = omega (arith, f, t, m);
      before = omega (arith, f, t);
      counts = omega (arith, c, t, m);
      most = omega (arith, t);
    }

-- and stays one while more are noted
pub standing-walk : (ys : List Reason) (g : Log) {s : Stretch} {xs : List Reason} → Standing g.words s g.total xs → Standing (walk note ys g).words s (walk note ys g).total xs
standing-walk ys g {s} {xs} S =
    let t = walk-total ys g S.most in
    record {
      stand = stand-walk ys g xs s.first S.stand S.before S.most;
      since = omega (arith, S.since, t, S.most);
      before = omega (arith, S.before, t, S.most);
      counts = omega (arith, S.counts, t);
      most = omega (arith, t);
    }

-- ---- the loop that notes xs once more: j of them are noted
module _ {was : List ℕ} {t : Stretch} {total : ℕ} {xs : List Reason} (S : Standing was t total xs) where
  abbrev first : ℕ
  first = t.first

  abbrev n : ℕ
  n = t.count

  pub record Copied (j : ℕ) (log : List ℕ) : Type 0 where
    pub size : length log ≡ length was
    pub within : total + j ≤ 4294967295
    pub few : j ≤ length xs
    pub stand : Stand log (first + j) (drop j xs)
    pub goes : walk note (drop j xs) (logs log (total + j)) ≡ walk note xs (logs was total)

  pub copied-start : Copied 0 was
  copied-start = record { size = refl; within = omega (arith, S.most); few = omega arith; stand = rw (add-zero first) S.stand; goes = rw (add-zero total) refl }

  module _ {j : ℕ} {log : List ℕ} (C : Copied j log) where
    -- without room they are counted
    pub copied-full : has_room log (total + j) ≡ false → {r : ℕ} → r ≡ capped (total + n) → logs log r ≡ walk note xs (logs was total)
    copied-full h p =
        ap (logs log) (omega (arith, p, S.counts, C.few, length-drop j xs)) ∙ sym (full-walk log (drop j xs) (total + j) C.within h) ∙ C.goes

    -- at the end of the count there are no more, or there is no room
    copied-by : (b : Bool) → n ≤ j → {r : ℕ} → r ≡ capped (total + n) → has_room log (total + j) ≡ b → logs log r ≡ walk note xs (logs was total)
    unfolding walk
    copied-by false l p h = copied-full h p
    copied-by true l p h =
        let none : drop j xs ≡ [] = drop_of_length-le xs (omega (arith, l, S.counts, C.few, (room-of log (total + j) h).few)) in
        ap (logs log) (omega (arith, l, p, S.counts, C.few, C.within, (room-of log (total + j) h).few)) ∙ ap (λ (ys : List Reason). walk note ys (logs log (total + j))) (sym none) ∙ C.goes

    pub copied-end : n ≤ j → {r : ℕ} → r ≡ capped (total + n) → logs log r ≡ walk note xs (logs was total)
    copied-end l p = copied-by (has_room log (total + j)) l p refl

    module _ (l : j < n) (h : has_room log (total + j) ≡ true) where
      abbrev room : Room log (total + j)
      room = room-of log (total + j) h

      more-left : j < length xs
      more-left = omega (arith, l, room.few, S.counts)

      abbrev x : Reason
      x = get_or xs j (run_delta 0)

      left-is : drop j xs ≡ x ∷ drop (j + 1) xs
      left-is = list-step (run_delta 0) xs j more-left

      standing : Stand log (first + j) (x ∷ drop (j + 1) xs)
      standing = subst (Stand log (first + j)) left-is C.stand

      source : reason_at log (first + j) ≡ words_of x
      unfolding Stand
      source = standing.0 (room-is log (first + j) (record { few = omega (arith, S.since, room.few); fits = omega (arith, S.since, room.fits) }))

      now-is : {now : List ℕ} → now ≡ written log (total + j) (reason_at log (first + j)) → note x (logs log (total + j)) ≡ logs now (total + (j + 1))
      unfolding noted
      now-is {now} e =
          let p : noted log (total + j) x ≡ written log (total + j) (words_of x) = ap (λ (b : Bool). cond b (logged log (total + j) x) log) h in
          let q : noted log (total + j) x ≡ now = p ∙ ap (written log (total + j)) (sym source) ∙ sym e in
          let t : counted (total + j) ≡ total + (j + 1) = counted_is (total + j) C.within ∙ omega (arith, room.few) in
          rw (q, t) refl

      rest-stands : {now : List ℕ} → noted log (total + j) x ≡ now → Stand now (first + (j + 1)) (drop (j + 1) xs)
      unfolding Stand
      rest-stands {now} q =
          let n : first + j + 1 ≡ first + (j + 1) = omega arith in
          let s : Stand log (first + (j + 1)) (drop (j + 1) xs) = rw n at standing.1 in
          let b : capped (first + (j + 1) + length (drop (j + 1) xs)) ≤ total + j = omega (arith, S.before, room.few, length-drop (j + 1) xs, more-left) in
          subst (λ (w : List ℕ). Stand w (first + (j + 1)) (drop (j + 1) xs)) q (stand-note log (total + j) x (drop (j + 1) xs) (first + (j + 1)) s b)

      pub copied-step : {now : List ℕ} → now ≡ written log (total + j) (reason_at log (first + j)) → Copied (j + 1) now
      unfolding walk
      copied-step {now} e =
          let g = now-is e in
          record {
            size = ap length e ∙ length-written log (total + j) (reason_at log (first + j)) ∙ C.size;
            within = omega (arith, room.few);
            few = omega (arith, more-left);
            stand = rest-stands (ap (λ (k : Log). k.words) g);
            goes = ap (walk note (drop (j + 1) xs)) (sym g) ∙ ap (λ (ys : List Reason). walk note ys (logs log (total + j))) (sym left-is) ∙ C.goes;
          }

-- ---- a table of places
-- a list of one value has it everywhere, past its end too
pub replicate-at : {A : Type 0} (n i : ℕ) (a : A) → get_or (replicate n a) i a ≡ a
replicate-at {A} n i a = ⊎_elim (λ (h : i < n). get_or-replicate n i a a h) (λ (h : n ≤ i). get_or_past (replicate n a) i a (omega (arith, h, length-replicate {A = A} n a))) (lt-or-le i n)

module _ (D : Deck) (r : ℕ) where
  pub places-none : (words : List ℕ) (total w : ℕ) → Places D r (replicate w 0) words total
  places-none words total w k p e = absurd (omega (arith, e, replicate-at {A = ℕ} w k 0))

  pub placed : (places words : List ℕ) (total : ℕ) → Places D r places words total → (c p : ℕ) → entry_at places c ≡ p + 1 → {n : ℕ} → n ≡ delta_count D r c → Standing words (record { first = p; count = n }) total (deltas_of D r c)
  placed places words total P c p e q = rw q (P c p e)

  -- a concept's RunDeltas, from where they stand
  pub noted-again : (c : ℕ) (words : List ℕ) (total : ℕ) {words' : List ℕ} {total' : ℕ} → logs words' total' ≡ walk note (deltas_of D r c) (logs words total) → logs words' total' ≡ noted_deltas D r c (logs words total)
  unfolding noted_deltas
  noted-again c words total q = q

  module _ (places words : List ℕ) (total c : ℕ) {words' : List ℕ} {total' : ℕ} (q : logs words' total' ≡ noted_deltas D r c (logs words total)) where
    -- after those of concept c
    pub places-noted : Places D r places words total → Places D r places words' total'
    unfolding noted_deltas
    places-noted P k p e =
        subst (λ (g : Log). Standing g.words (record { first = p; count = delta_count D r k }) g.total (deltas_of D r k)) (sym q) (standing-walk (deltas_of D r c) (logs words total) (P k p e))

    -- and with their place
    pub places-put : total ≤ 4294967295 → c < length places → Places D r places words' total' → Places D r (set places c (total + 1)) words' total'
    unfolding noted_deltas
    places-put m h P k p e = go (eqb k c) refl
      where
        go : (b : Bool) → eqb k c ≡ b → Standing words' (record { first = p; count = delta_count D r k }) total' (deltas_of D r k)
        go false d = P k p (sym (get_or-set_other places c k (total + 1) 0 (eqb-false k c d)) ∙ e)
        go true d =
            let s : k ≡ c = eqb-true k c d in
            let f : p ≡ total = omega (arith, e, ap (entry_at (set places c (total + 1))) s, get_or-set_same places c (total + 1) 0 h) in
            let S = standing-own (deltas_of D r k) (logs words total) m {s = record { first = p; count = delta_count D r k }} f (omega arith) in
            subst (λ (g : Log). Standing g.words (record { first = p; count = delta_count D r k }) g.total (deltas_of D r k)) (sym (q ∙ ap (λ (c : ℕ). walk note (deltas_of D r c) (logs words total)) (sym s))) S
