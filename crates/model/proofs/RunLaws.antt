-- Demand 3 as a theorem over the definition of a run: `trusted`.
use Rattle.std.specs.Prelude.{Ok, Err}
use Prim.Native.Nat.{ℕ, zero, suc, ◌+◌, ◌-◌, ◌*◌, ◌/◌, ◌<◌, ◌≤◌}
use mathlib.Core.Bool.{Bool, true, false, not, cond, ◌||◌}
use mathlib.Core.Path.{◌≡◌, refl, sym, ap, ◌∙◌, subst}
use mathlib.Core.List.{List, [], ◌∷◌, ◌++◌, map, flat_map}
use native.Mathlib.Nat.{mul-le-mul_right}
use native.Mathlib.Omega.{arith}
use lib.ListN.{length, get_or, drop, length-map, get_or-append}
use lib.Dec.{ltb}
use borrow.Author.Tests.{le-leb, lt-ltb}
use Rattle.deck.specs.declared.refusal.Refusal.{Refusal}
use Rattle.deck.specs.Refusal.{DeckAnswer}
use Rattle.deck.specs.Answer.{unless, or_else}
use Rattle.deck.specs.Records.{deck_answer}
use Rattle.deck.specs.Deck.{Deck, Axiom, axiom_at, axiom_count, class_at, class_count, has}
use Rattle.deck.specs.Content.{IsAccepted, deck_of}
use Rattle.deck.specs.Sound.{Sound}
use Rattle.deck.proofs.SoundLaws.{sound, limited}
use Rattle.deck.proofs.BelowLaws.{all_of}
use Rattle.eval.specs.declared.verdict.Verdict.{Verdict}
use Rattle.eval.specs.declared.verdict.Verdict.TheVariants.{Holds, Fails, UnhandledAxiom, UnhandledConcept, GuardedRoleHasEdges}
use Rattle.eval.specs.declared.edges.Edge.{Edge}
use Rattle.eval.specs.Edges.{edge_of, row_of}
use Rattle.eval.specs.Lists.{any}
use Rattle.eval.specs.Structure.{Structure}
use Rattle.eval.specs.declared.shape.Shape.{Shape}
use Rattle.eval.specs.Lent.{label_width, member_in, structure_of, EdgeFits, Fits}
use Rattle.eval.specs.Foreign.{counts_fit, edges_fit, label_fits, labels_fit, structure_fits}
use Rattle.eval.specs.Verdict.{words_of, verdict}
use Rattle.eval.proofs.Clash.{clash}
use Rattle.eval.proofs.ListLaws.{member-at}
use Rattle.eval.proofs.JustifiedLaws.{justified}
use Rattle.build.specs.declared.bounds.Bounds.{Bounds}
use Rattle.build.specs.declared.tally.Tally.{Tally}
use Rattle.model.specs.declared.outcome.Outcome.{Outcome}
use Rattle.model.specs.declared.outcome.Outcome.TheVariants.{Confirmed, Open}
use Rattle.model.specs.Run.{RunAnswer}
use Rattle.atoms.specs.Label.{label_has}
use Rattle.atoms.specs.Rows.{put, flat, row_at, Wide, none, more}
use Rattle.build.specs.Push.{edge}
use Rattle.model.specs.Closing.{EdgesFit}
use Rattle.build.specs.Model.{Model, lent, top}
use Rattle.model.specs.Phases.{construct, tally_of, Constructed}
use Rattle.model.specs.Outcome.{is_fails, is_unresolved, outcome_by, outcome_of}
use Rattle.model.specs.Run.{run_refusal, bounds_fit, room_fits, Ran, ran, shape_in, verdicts_in, words_in, judged, accepted, unless_refused, run}
use Rattle.model.specs.Trust.{Stands, Trusted, Lendable}
use Rattle.atoms.proofs.RowLaws.{rows-put, rows_at, length-put, length-flat}
use Rattle.build.proofs.SeedLaws.{row-member}
use Rattle.model.proofs.JudgingLaws.{length-words}
use Rattle.model.proofs.NeedLaws.{BoundsIn, bounds-in, RoomIn, room_in}
use Rattle.model.proofs.PhaseKeeps.{construct-labels, construct-within, construct-fits, construct-row}
use Rattle.build.proofs.InternLaws.{member-label}
use Rattle.model.proofs.TidyLaws.{Labels, same-classes}
use Rattle.model.proofs.CloseLaws.{Bound}

-- ---- what an accepted run has passed
pub record Passed (s : List ℕ) (B : Bounds) (last labels edges verdicts : ℕ) : Type 0 where
  pub deck : IsAccepted s
  pub bounds : BoundsIn B last
  pub room : RoomIn (deck_of s) B labels edges verdicts

pub passed : (s : List ℕ) (B : Bounds) (last labels edges verdicts : ℕ) → run_refusal s B last labels edges verdicts ≡ Ok tt → Passed s B last labels edges verdicts
unfolding run_refusal
passed s B last labels edges verdicts = by (deck_answer s) refl (bounds_fit B last) refl (room_fits (deck_of s) B labels edges verdicts) refl
  where
    by : (a : DeckAnswer) → deck_answer s ≡ a → (b : Bool) → bounds_fit B last ≡ b → (r : Bool) → room_fits (deck_of s) B labels edges verdicts ≡ r
        → or_else a (unless b Refusal.BadBounds (unless r Refusal.ShortBuffer (Ok tt))) ≡ Ok tt → Passed s B last labels edges verdicts
    by (Ok tt) p true q true r h = record { deck = p; bounds = bounds-in B last q; room = room_in (deck_of s) B labels edges verdicts r }
    by (Ok tt) p true q false r h = clash (cc)
    by (Ok tt) p false q x r h = clash (cc)
    by (Err z) p b q x r h = clash (cc)

-- ---- the words of the verdicts
module _ (D : Deck) (S : Structure) where
  words-wide : (l : List Axiom) → Wide 4 (map words_of (map (verdict D S) l))
  words-wide [] = none
  words-wide (a ∷ l) = more (length-words (verdict D S a)) (words-wide l)

  words-flat : (vs : List Verdict) → words_in vs ≡ flat (map words_of vs)
  unfolding flat_map flat
  words-flat [] = refl
  words-flat (v ∷ vs) = ap (λ (l : List ℕ). words_of v ++ l) (words-flat vs)

  at_map : (l : List Axiom) (i : ℕ) → i < length l → get_or (map words_of (map (verdict D S) l)) i [] ≡ words_of (verdict D S (get_or l i (Axiom.DeclareClass 0)))
  at_map [] i h = absurd (omega (arith, h))
  at_map (a ∷ l) zero h = refl
  at_map (a ∷ l) (suc i) h = at_map l i (omega (arith, h))

  words-at : (buf : List ℕ) (i : ℕ) → i < axiom_count D → row_at 4 (put buf (words_in (verdicts_in D S))) (i * 4) ≡ words_of (verdict D S (axiom_at D i))
  words-at buf i h =
      let ls = map words_of (verdicts_in D S) in
      let n : length ls ≡ axiom_count D = length-map (verdicts_in D S) words_of ∙ length-map D.axioms (verdict D S) in
      ap (λ (w : List ℕ). row_at 4 (put buf w) (i * 4)) (words-flat (verdicts_in D S))
      ∙ sym (rows_at 4 (length ls) (put buf (flat ls)) i (omega (arith, h, n)))
      ∙ ap (λ (r : List (List ℕ)). get_or r i []) (rows-put (words-wide D.axioms) buf) ∙ at_map D.axioms i h

-- ---- confirmed: every axiom holds
or_no : (a b : Bool) → (a || b) ≡ false → (a ≡ false) × (b ≡ false)
or_no true b h = clash (cc)
or_no false b h = (refl, h)

neither : (v : Verdict) → is_fails v ≡ false → is_unresolved v ≡ false → v ≡ Holds
neither Holds p q = refl
neither (Fails w) p q = clash (cc)
neither (UnhandledAxiom tag part) p q = clash (cc)
neither (UnhandledConcept tag) p q = clash (cc)
neither (GuardedRoleHasEdges r) p q = clash (cc)

all_hold : (f : Axiom → Verdict) (l : List Axiom) → any (map is_fails (map f l)) ≡ false → any (map is_unresolved (map f l)) ≡ false → (i : ℕ) → i < length l → f (get_or l i (Axiom.DeclareClass 0)) ≡ Holds
unfolding any
all_hold f [] p q i h = absurd (omega (arith, h))
all_hold f (a ∷ l) p q zero h = neither (f a) (or_no _ _ p).0 (or_no _ _ q).0
all_hold f (a ∷ l) p q (suc i) h = all_hold f l (or_no (is_fails (f a)) _ p).1 (or_no (is_unresolved (f a)) _ q).1 i (omega (arith, h))

confirmed-by : (fails open-too : Bool) → outcome_by fails open-too ≡ Confirmed → (fails ≡ false) × (open-too ≡ false)
confirmed-by true o h = clash (cc)
confirmed-by false true h = clash (cc)
confirmed-by false false h = (refl, refl)

-- what an answer holds; a refusal holds neither
abbrev outcome_in : RunAnswer → Outcome
outcome_in (Err r) = Open
outcome_in (Ok (o, t)) = o

abbrev tally_in : RunAnswer → Tally
tally_in (Err r) = record { elements = 0; edges = 0; reasons = 0 }
tally_in (Ok (o, t)) = t

-- ---- demand 3
module _ (s : List ℕ) (B : Bounds) (last : ℕ) (labels : List ℕ) (edges : List (List ℕ)) (log verdicts : List ℕ) where
  abbrev D : Deck
  D = deck_of s

  abbrev m : Model
  m = construct D B last log

  abbrev L : List ℕ
  L = put labels (flat m.labels)

  abbrev S : Structure
  S = structure_of D L (put edges (map row_of m.state.edges)) (shape_in (tally_of m))

  stood : Sound D → (c : ℕ) → c < D.real → (class_at D c).unsatisfiable ≡ false → Stands D S c
  stood W c r u =
      let h = construct-row D W B last log c r u in
      let n : c < class_count D = omega (arith, W.real) in
      let exact : (d : ℕ) → d < class_count D → S.member h.element d ≡ has (class_at D c).row d = λ d b. row-member D (construct-labels D W B last log).wide h labels d b in
      record { element = h.element; below = h.below; own = exact c n ∙ (W.classes c n).own u; exact = exact }

  abbrev words : List ℕ
  words = put verdicts (words_in (verdicts_in D S))

  trusted-all : Sound D → Trusted D S words (outcome_of m.state.reasons (verdicts_in D S))
  unfolding outcome_of
  trusted-all W = record {
    vouched = λ i h. record { verdict = verdict D S (axiom_at D i); words_are = words-at D S verdicts i h; justified = justified D W S (axiom_at D i) };
    confirmed = λ e i h χ.
        let c = confirmed-by _ _ e in
        (justified D W S (axiom_at D i)).holds (all_hold (verdict D S) D.axioms c.0 (or_no (ltb 0 m.state.reasons) _ c.1).1 i h) χ;
    stands = stood W;
  }

  -- after every accepted run, whatever deck, bounds and last phase
  pub trusted : (outcome : Outcome) (t : Tally) → (run s B last labels edges log verdicts).answer ≡ Ok (outcome, t)
      → Trusted D (structure_of D (run s B last labels edges log verdicts).labels (run s B last labels edges log verdicts).edges (shape_in t)) (run s B last labels edges log verdicts).verdicts outcome
  unfolding run accepted judged
  trusted outcome t = by (run_refusal s B last (length labels) (length edges) (length verdicts)) refl
    where
      left : DeckAnswer → Ran
      left a = unless_refused a (accepted D B last labels edges log verdicts) labels edges log verdicts

      by : (a : DeckAnswer) → run_refusal s B last (length labels) (length edges) (length verdicts) ≡ a → (left a).answer ≡ Ok (outcome, t) → Trusted D (structure_of D (left a).labels (left a).edges (shape_in t)) (left a).verdicts outcome
      by (Err r) p h = clash (cc)
      by (Ok tt) p h =
          let e : outcome_of m.state.reasons (verdicts_in D S) ≡ outcome = ap outcome_in h in
          let f : tally_of m ≡ t = ap tally_in h in
          rw (← e, ← f) (trusted-all (sound s (passed s B last (length labels) (length edges) (length verdicts) p).deck))

-- the larger of N and the bound is below 65,536
pub top_small : (s : List ℕ) (B : Bounds) → IsAccepted s → B.max_elements ≤ 65535 → top (deck_of s) B < 65536
top_small s B A h = by (ltb (class_count (deck_of s)) B.max_elements)
  where
    by : (c : Bool) → cond c B.max_elements (class_count (deck_of s)) < 65536
    by true = omega (arith, h)
    by false = omega (arith, (limited s A).classes)

-- an edge that stands in its row fits
no_edge : Edge
no_edge = edge 0 0 0

ends-fit : (D : Deck) (n : ℕ) (buf : List (List ℕ)) (es : List Edge) → EdgesFit D n es → (i : ℕ) → i < length es → EdgeFits D n (edge_of (get_or (put buf (map row_of es)) i []))
unfolding EdgesFit put no_edge
ends-fit D n buf es F i h =
    let l : i < length (map row_of es) = omega (arith, h, length-map es row_of) in
    let q : get_or (put buf (map row_of es)) i [] ≡ row_of (get_or es i no_edge) = get_or-append (map row_of es) (drop (length (map row_of es)) buf) [] i l ∙ at_rows es i h in
    subst (λ (r : List ℕ). EdgeFits D n (edge_of r)) (sym q) (F (get_or es i no_edge) (member-at no_edge es i h))
  where
    at_rows : (es : List Edge) (i : ℕ) → i < length es → get_or (map row_of es) i [] ≡ row_of (get_or es i no_edge)
    at_rows [] i h = absurd (omega (arith, h))
    at_rows (e ∷ es) zero h = refl
    at_rows (e ∷ es) (suc i) h = at_rows es i (omega (arith, h))

-- ---- what the code leaves
module _ (s : List ℕ) (B : Bounds) (last : ℕ) (labels : List ℕ) (edges : List (List ℕ)) (log verdicts : List ℕ) where
  pub run-refused : (r : Refusal) → run_refusal s B last (length labels) (length edges) (length verdicts) ≡ Err r → ran (Err r) labels edges log verdicts ≡ run s B last labels edges log verdicts
  unfolding run
  run-refused r h = rw h

  module _ {labels' : List ℕ} {edges' : List (List ℕ)} {log' : List ℕ} {t : Tally} (C : Constructed (deck_of s) B last (lent labels edges log) (lent labels' edges' log') t) where
    pub run-done : run_refusal s B last (length labels) (length edges) (length verdicts) ≡ Ok tt → {r : RunAnswer} {verdicts' : List ℕ}
        → r ≡ Ok ((outcome_of t.reasons (verdicts_in (deck_of s) (structure_of (deck_of s) labels' edges' (shape_in t)))), t)
        → verdicts' ≡ put verdicts (words_in (verdicts_in (deck_of s) (structure_of (deck_of s) labels' edges' (shape_in t)))) → ran r labels' edges' log' verdicts' ≡ run s B last labels edges log verdicts
    unfolding run accepted judged
    run-done h p q = rw (h, p, q, C.labels, C.edges, C.log, C.tally)

    -- what judging needs
    pub run_fits : Passed s B last (length labels) (length edges) (length verdicts) → Fits s labels' edges' (shape_in t)
    run_fits P =
        let D = deck_of s in
        let W = sound s P.deck in
        let m = construct D B last log in
        let w = (construct-labels D W B last log).wide in
        let n : t.elements ≡ length m.labels = ap (λ (x : Tally). x.elements) C.tally in
        let k : t.edges ≡ length m.state.edges = ap (λ (x : Tally). x.edges) C.tally in
        let room : t.elements * label_width D ≤ length labels = omega (arith, P.room.rows, mul-le-mul_right {m = t.elements} {n = top D B + 1} (label_width D) C.few) in
        let rows : length m.labels * label_width D ≤ length labels = rw n at room in
        record {
          accepted = P.deck;
          few = omega (arith, C.few, top_small s B P.deck P.bounds.elements);
          room = omega (arith, room, ap length C.labels ∙ length-put labels (flat m.labels) (omega (arith, rows, length-flat w)));
          count = C.room;
          ends = λ i h. rw (C.edges, n) (ends-fit D (length m.labels) edges m.state.edges (construct-fits D W B last log) i (omega (arith, h, k)));
        }

-- the same of what equals a run
pub trusted-as : (s : List ℕ) (B : Bounds) (last : ℕ) (labels : List ℕ) (edges : List (List ℕ)) (log verdicts : List ℕ) {r : RunAnswer} {labels' : List ℕ} {edges' : List (List ℕ)} {log' verdicts' : List ℕ}
    → ran r labels' edges' log' verdicts' ≡ run s B last labels edges log verdicts → (outcome : Outcome) (t : Tally) → r ≡ Ok (outcome, t)
    → Trusted (deck_of s) (structure_of (deck_of s) labels' edges' (shape_in t)) verdicts' outcome
trusted-as s B last labels edges log verdicts {r} {labels'} {edges'} {log'} {verdicts'} e outcome t h =
    subst (λ (x : Ran). Trusted (deck_of s) (structure_of (deck_of s) x.labels x.edges (shape_in t)) x.verdicts outcome) (sym e)
    (trusted s B last labels edges log verdicts outcome t (sym (ap (λ (x : Ran). x.answer) e) ∙ h))

-- ---- what a run leaves may be lent again
-- a structure that fits, with labels that are tidy and apart at the start of its buffer
module _ (s : List ℕ) (buf : List ℕ) (ls : List (List ℕ)) (rows : List (List ℕ)) (shape : Shape) (K : Labels (deck_of s) ls) (n : shape.elements ≡ length ls) (F : Fits s (put buf (flat ls)) rows shape) where
  abbrev D₂ : Deck
  D₂ = deck_of s

  abbrev L₂ : List ℕ
  L₂ = put buf (flat ls)

  -- a class that has a word in the label
  class_of : (e k : ℕ) → e < shape.elements → k / 64 < label_width D₂ → member_in L₂ (label_width D₂) e k ≡ label_has (get_or ls e []) k
  class_of e k h w = member-label K.wide buf e k (omega (arith, h, n)) w

  counts-fit : counts_fit D₂ L₂ rows shape ≡ true
  unfolding counts_fit
  counts-fit = rw (le-leb shape.elements 65536 F.few, le-leb (shape.elements * label_width D₂) (length L₂) F.room, le-leb shape.edges (length rows) F.count)

  edges_fit_lem : edges_fit D₂ rows shape ≡ true
  unfolding edges_fit
  edges_fit_lem = all_of _ shape.edges (λ i h. let e = F.ends i h in rw (lt-ltb _ _ e.role, lt-ltb _ _ e.from, lt-ltb _ _ e.to))

  labels-fit : labels_fit D₂ L₂ shape ≡ true
  unfolding labels_fit label_fits
  labels-fit =
      all_of _ shape.elements (λ e h.
      all_of _ (64 * label_width D₂ - class_count D₂) (λ j b.
      ap not (class_of e (class_count D₂ + j) h (omega (arith, b)) ∙ (K.tidy e (omega (arith, h, n))).clean (class_count D₂ + j) (omega arith))))

  pub lendable-at : Lendable D₂ L₂ rows shape
  unfolding structure_fits
  lendable-at = record {
    fits = rw (counts-fit, edges_fit_lem, labels-fit);
    apart = λ e f h g q.
        let a : e < length ls = omega (arith, h, n) in
        let b : f < length ls = omega (arith, g, n) in
        K.apart e f a b (same-classes D₂ (K.tidy e a) (K.tidy f b) (λ k l. sym (class_of e k h (omega (arith, l))) ∙ q k l ∙ class_of f k g (omega (arith, l))));
  }

module _ (s : List ℕ) (B : Bounds) (last : ℕ) (labels : List ℕ) (edges : List (List ℕ)) (log verdicts : List ℕ) where
  -- what is built stands in the buffers, past a bound only what tripped it
  constructed-is : Passed s B last (length labels) (length edges) (length verdicts)
      → Constructed (deck_of s) B last (lent labels edges log) (lent (put labels (flat (construct (deck_of s) B last log).labels)) (put edges (map row_of (construct (deck_of s) B last log).state.edges)) (construct (deck_of s) B last log).state.log) (tally_of (construct (deck_of s) B last log))
  unfolding Bound
  constructed-is P =
      let m = construct (deck_of s) B last log in
      let X = construct-within (deck_of s) (sound s P.deck) B last log in
      let k : length (map row_of m.state.edges) ≤ length edges = omega (arith, length-map m.state.edges row_of, X.edges.1, P.room.links) in
      record { labels = refl; edges = refl; log = refl; tally = refl; few = X.elements; room = omega (arith, length-put edges (map row_of m.state.edges) k, length-map m.state.edges row_of, k) }

  -- after every accepted run, whatever deck, bounds and last phase
  pub lendable : (outcome : Outcome) (t : Tally) → (run s B last labels edges log verdicts).answer ≡ Ok (outcome, t)
      → Lendable (deck_of s) (run s B last labels edges log verdicts).labels (run s B last labels edges log verdicts).edges (shape_in t)
  unfolding run accepted judged
  lendable outcome t = by (run_refusal s B last (length labels) (length edges) (length verdicts)) refl
    where
      left : DeckAnswer → Ran
      left a = unless_refused a (accepted (deck_of s) B last labels edges log verdicts) labels edges log verdicts

      by : (a : DeckAnswer) → run_refusal s B last (length labels) (length edges) (length verdicts) ≡ a → (left a).answer ≡ Ok (outcome, t) → Lendable (deck_of s) (left a).labels (left a).edges (shape_in t)
      by (Err r) p h = clash (cc)
      by (Ok tt) p h =
          let P = passed s B last (length labels) (length edges) (length verdicts) p in
          let m = construct (deck_of s) B last log in
          let f : tally_of m ≡ t = ap tally_in h in
          rw (← f) (lendable-at s labels m.labels (put edges (map row_of m.state.edges)) (shape_in (tally_of m)) (construct-labels (deck_of s) (sound s P.deck) B last log) refl
          (run_fits s B last labels edges log verdicts (constructed-is P) P))

-- a run that is done has passed every test
pub done-passed : (s : List ℕ) (B : Bounds) (last : ℕ) (labels : List ℕ) (edges : List (List ℕ)) (log verdicts : List ℕ) (outcome : Outcome) (t : Tally)
    → (run s B last labels edges log verdicts).answer ≡ Ok (outcome, t) → Passed s B last (length labels) (length edges) (length verdicts)
unfolding run
done-passed s B last labels edges log verdicts outcome t = by (run_refusal s B last (length labels) (length edges) (length verdicts)) refl
  where
    by : (a : DeckAnswer) → run_refusal s B last (length labels) (length edges) (length verdicts) ≡ a
        → (unless_refused a (accepted (deck_of s) B last labels edges log verdicts) labels edges log verdicts).answer ≡ Ok (outcome, t) → Passed s B last (length labels) (length edges) (length verdicts)
    by (Ok tt) p h = passed s B last (length labels) (length edges) (length verdicts) p
    by (Err r) p h = clash (cc)
