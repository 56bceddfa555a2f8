-- What a run needs, test by test. Assumes nothing.
use Rattle.std.specs.Prelude.{Ok, Err}
use Prim.Native.Nat.{ℕ, ◌+◌, ◌*◌, ◌<◌, ◌≤◌, max}
use mathlib.Core.Logic.{⊎_elim}
use native.Mathlib.Nat.{max-eq_left, max-eq_right}
use mathlib.Core.Bool.{Bool, true, false, ◌&&◌}
use mathlib.Core.Path.{◌≡◌, refl}
use mathlib.Core.List.{List}
use native.Mathlib.Omega.{arith}
use lib.Dec.{leb}
use borrow.Author.Tests.{leb-true, lt-ltb, le-ltb}
use Rattle.deck.specs.declared.refusal.Refusal.{Refusal}
use Rattle.deck.specs.Records.{deck_answer}
use Rattle.deck.specs.Content.{IsAccepted, deck_of}
use Rattle.deck.specs.Deck.{Deck, axiom_count, class_count}
use Rattle.deck.proofs.CaseLaws.{lt-or-le}
use Rattle.eval.specs.Lent.{label_width}
use Rattle.eval.proofs.Clash.{clash}
use Rattle.build.specs.declared.bounds.Bounds.{Bounds}
use Rattle.build.specs.Model.{top}
use Rattle.model.specs.declared.phases.Phase.{Phase}
use Rattle.model.specs.declared.phases.Phase.TheVariants.{Seed, Expand, Axioms, Close}
use Rattle.model.specs.Phases.{number}
use Rattle.model.specs.Run.{bounds_fit, room_fits, run_refusal}

-- both of two tests
both : (a b : Bool) → (a && b) ≡ true → (a ≡ true) × (b ≡ true)
both true b h = (refl, h)
both false b h = absurd (let z : ◌≡◌ {A = ℕ} 0 1 = cc in omega arith)

-- what bounds that fit are
pub record BoundsIn (B : Bounds) (last : ℕ) : Type 0 where
  pub elements : B.max_elements ≤ 65535
  pub rounds : B.max_rounds ≤ 65535
  pub edges : B.max_edges ≤ 1048575
  pub first : 1 ≤ last
  pub last-four : last ≤ 4

pub bounds-in : (B : Bounds) (last : ℕ) → bounds_fit B last ≡ true → BoundsIn B last
unfolding bounds_fit
bounds-in B last h =
    let d = leb 1 last && leb last 4 in
    let e = leb B.max_edges 1048575 in
    let f = leb B.max_rounds 65535 in
    let p = both (leb B.max_elements 65535) (f && (e && d)) h in
    let q = both f (e && d) p.1 in
    let r = both e d q.1 in
    let t = both (leb 1 last) (leb last 4) r.1 in
    record { elements = leb-true _ _ p.0; rounds = leb-true _ _ q.0; edges = leb-true _ _ r.0; first = leb-true _ _ t.0; last-four = leb-true _ _ t.1 }

-- the larger of N and the bound
pub top-max : (D : Deck) (B : Bounds) → max (class_count D) B.max_elements ≡ top D B
top-max D B =
    let n = class_count D in
    let k = B.max_elements in
    ⊎_elim (λ (h : n < k). rw (lt-ltb n k h) (max-eq_right (omega (arith, h)))) (λ (h : k ≤ n). rw (le-ltb n k h) (max-eq_left h)) (lt-or-le n k)

-- what buffers with room are
pub record RoomIn (D : Deck) (B : Bounds) (labels edges verdicts : ℕ) : Type 0 where
  pub rows : (top D B + 1) * label_width D ≤ labels
  pub links : B.max_edges + 1 ≤ edges
  pub words : 4 * axiom_count D ≤ verdicts

pub room_in : (D : Deck) (B : Bounds) (labels edges verdicts : ℕ) → room_fits D B labels edges verdicts ≡ true → RoomIn D B labels edges verdicts
unfolding room_fits
room_in D B labels edges verdicts h =
    let e = leb (B.max_edges + 1) edges in
    let f = leb (4 * axiom_count D) verdicts in
    let p = both (leb ((top D B + 1) * label_width D) labels) (e && f) h in
    let q = both e f p.1 in
    record { rows = leb-true _ _ p.0; links = leb-true _ _ q.0; words = leb-true _ _ q.1 }

-- ---- the bounds, and the number of the last phase
fit-all : (a b c d : Bool) → (a && (b && c)) ≡ true → d ≡ true → (a && (b && (c && d))) ≡ true
fit-all true true true d h k = k
fit-all true true false d h k = h
fit-all true false c d h k = h
fit-all false b c d h k = h

fit-none : (a b c d : Bool) → (a && (b && c)) ≡ false → (a && (b && (c && d))) ≡ false
fit-none true true true d h = clash (cc)
fit-none true true false d h = refl
fit-none true false c d h = refl
fit-none false b c d h = refl

fit-last : (a b c d : Bool) → d ≡ false → (a && (b && (c && d))) ≡ false
fit-last true true true d h = h
fit-last true true false d h = refl
fit-last true false c d h = refl
fit-last false b c d h = refl

number-fits : (p : Phase) → (leb 1 (number p) && leb (number p) 4) ≡ true
number-fits Seed = refl
number-fits Expand = refl
number-fits Axioms = refl
number-fits Close = refl

module _ (B : Bounds) where
  abbrev small : Bool
  small = leb B.max_elements 65535 && (leb B.max_rounds 65535 && leb B.max_edges 1048575)

  pub bounds-phase : small ≡ true → (p : Phase) → bounds_fit B (number p) ≡ true
  unfolding bounds_fit
  bounds-phase h p = fit-all (leb B.max_elements 65535) (leb B.max_rounds 65535) (leb B.max_edges 1048575) (leb 1 (number p) && leb (number p) 4) h (number-fits p)

  pub bounds-large : small ≡ false → (n : ℕ) → bounds_fit B n ≡ false
  unfolding bounds_fit
  bounds-large h n = fit-none (leb B.max_elements 65535) (leb B.max_rounds 65535) (leb B.max_edges 1048575) (leb 1 n && leb n 4) h

  pub bounds-number : (n : ℕ) → (leb 1 n && leb n 4) ≡ false → bounds_fit B n ≡ false
  unfolding bounds_fit
  bounds-number n h = fit-last (leb B.max_elements 65535) (leb B.max_rounds 65535) (leb B.max_edges 1048575) (leb 1 n && leb n 4) h

-- ---- what a run is refused for
module _ (s : List ℕ) (B : Bounds) (last labels edges verdicts : ℕ) where
  pub refused-deck : {r : Refusal} → deck_answer s ≡ Err r → run_refusal s B last labels edges verdicts ≡ Err r
  unfolding run_refusal
  refused-deck h = simp h

  pub refused-bounds : IsAccepted s → bounds_fit B last ≡ false → run_refusal s B last labels edges verdicts ≡ Err Refusal.BadBounds
  unfolding run_refusal
  refused-bounds A h = simp (A, h)

  pub refused-room : IsAccepted s → bounds_fit B last ≡ true → room_fits (deck_of s) B labels edges verdicts ≡ false → run_refusal s B last labels edges verdicts ≡ Err Refusal.ShortBuffer
  unfolding run_refusal
  refused-room A h k = simp (A, h, k)

  pub refused-not : IsAccepted s → bounds_fit B last ≡ true → room_fits (deck_of s) B labels edges verdicts ≡ true → run_refusal s B last labels edges verdicts ≡ Ok tt
  unfolding run_refusal
  refused-not A h k = simp (A, h, k)
