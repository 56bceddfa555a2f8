-- All that is built keeps the seeds: every edge fits, and every satisfiable real class has an element with its row.
use Prim.Native.Nat.{ℕ, ◌<◌, ◌≤◌}
use mathlib.Core.Bool.{false, cond}
use mathlib.Core.Path.{◌≡◌}
use mathlib.Core.List.Memᴰ.{not-nil as nothing-in}
use mathlib.Core.List.{List}
use native.Mathlib.Omega.{arith}
use lib.ListN.{length}
use lib.Dec.{leb, ltb}
use Rattle.deck.specs.Deck.{Deck, class_at, class_count}
use Rattle.deck.specs.Sound.{Sound}
use Rattle.build.specs.declared.bounds.Bounds.{Bounds}
use Rattle.atoms.specs.Floor.{floor_label}
use Rattle.build.specs.Seed.{seeds, HasRow}
use Rattle.atoms.specs.Reasons.{axioms_dropped}
use Rattle.model.specs.Closing.{EdgesFit}
use Rattle.build.specs.Model.{Model, note_in, top}
use Rattle.model.specs.Expand.{expand}
use Rattle.model.specs.Rounds.{expand_from_axioms}
use Rattle.model.specs.Phases.{phase, seeded, close_in, later_phases, phases, with_dropped, construct}
use Rattle.build.proofs.InternLaws.{extends-same, by_cond, by-case}
use Rattle.build.proofs.SeedLaws.{real-seed, row_kept, seeds-few}
use Rattle.model.proofs.TidyLaws.{Labels, tidy-floor, seeds-labels}
use Rattle.build.proofs.BuildLaws.{top-classes}
use Rattle.model.proofs.CloseLaws.{Bound}
use Rattle.model.proofs.Closed.{close-fits, close-bound}
use Rattle.model.proofs.KeepLaws.{Within, Kept, kept_same, kept_trans, note-kept}
use Rattle.model.proofs.ExpandKeeps.{expand-kept}
use Rattle.model.proofs.RoundKeeps.{axioms-kept}

pub phase-kept : {D : Deck} {B : Bounds} (k last : ℕ) (f : Model → Model) → ((m : Model) → m.state.tripped ≡ false → Kept D B m (f m)) → (m : Model) → Kept D B m (phase k last f m)
unfolding phase
phase-kept {D} {B} k last f h m =
    by_cond (Kept D B m) (leb k last) (cond m.state.tripped m (f m)) m (by-case (Kept D B m) m.state.tripped m (f m) (λ w. kept_same m) (h m)) (kept_same m)

pub dropped-kept : (D : Deck) (B : Bounds) (m : Model) → Kept D B m (with_dropped D m)
unfolding with_dropped
dropped-kept D B m = by_cond (Kept D B m) (ltb 0 D.dropped) (note_in (axioms_dropped D.dropped) m) m (note-kept (axioms_dropped D.dropped) m) (kept_same m)

module _ (D : Deck) (W : Sound D) (B : Bounds) where
  pub close-kept : (m : Model) → m.state.tripped ≡ false → Kept D B m (close_in D B m)
  unfolding close_in
  close-kept m q = record {
    extends = extends-same m.labels;
    labels = λ L. L;
    fits = close-fits D (length m.labels) B.max_edges W m.state;
    within = λ X. record { few = λ w. X.few q; elements = X.elements; edges = close-bound D (length m.labels) B.max_edges m.state X.edges };
  }

  module _ (last : ℕ) where
    pub later-kept : (m : Model) → Kept D B m (later_phases D B last m)
    unfolding later_phases
    later-kept m =
        let two : Model = phase 2 last (expand D (floor_label D) B) m in
        let three : Model = phase 3 last (expand_from_axioms D (floor_label D) B) two in
        kept_trans (phase-kept 2 last (expand D (floor_label D) B) (λ n q. expand-kept D W (floor_label D) (tidy-floor D W) B n) m)
        (kept_trans (phase-kept 3 last (expand_from_axioms D (floor_label D) B) (λ n q. axioms-kept D W (floor_label D) (tidy-floor D W) B n) two) (phase-kept 4 last (close_in D B) close-kept three))

    module _ (log : List ℕ) where
      pub phases-kept : Kept D B (seeded D log) (phases D B last log)
      unfolding phases
      phases-kept = later-kept (seeded D log)

      pub construct-kept : Kept D B (seeded D log) (construct D B last log)
      unfolding construct
      construct-kept = kept_trans phases-kept (dropped-kept D B (phases D B last log))

      -- the seeds have no edges
      pub construct-fits : EdgesFit D (length (construct D B last log).labels) (construct D B last log).state.edges
      unfolding seeded EdgesFit
      construct-fits = construct-kept.fits (λ e i. absurd (nothing-in i))

      pub construct-labels : Labels D (construct D B last log).labels
      unfolding seeded
      construct-labels = construct-kept.labels (seeds-labels D W (floor_label D) (tidy-floor D W) (class_count D))

      pub construct-within : Within D B (construct D B last log)
      unfolding seeded Bound
      construct-within =
          let few : length (seeds D (floor_label D) (class_count D)) ≤ top D B = omega (arith, seeds-few D (floor_label D) (class_count D), top-classes D B) in
          construct-kept.within (record { few = λ w. few; elements = omega (arith, few); edges = (λ w. omega arith, omega arith) })

      -- the element of a satisfiable real class is among the seeds
      pub construct-row : (c : ℕ) → c < D.real → (class_at D c).unsatisfiable ≡ false → HasRow D (construct D B last log).labels c
      unfolding seeded
      construct-row c r s = row_kept D construct-kept.extends (real-seed D (floor_label D) W c r s)
