-- The four phases: document 01, section 3, "The sequence 1 seed, 2 expand, 3 axioms, 4 closing is ours".
use Rattle.std.specs.Prelude.{ℕ, ◌+◌, ◌≤◌, ◌≡◌, false, cond, ◌&&◌, List, [], map, length, leb, ltb, Result, Ok, Err}
use Rattle.deck.specs.declared.refusal.Refusal.{Refusal}
use Rattle.deck.specs.declared.refusal.Refusal.TheVariants.{BadBounds}
use Rattle.deck.specs.Deck.{Deck, class_count}
use Rattle.eval.specs.Edges.{row_of}
use Rattle.build.specs.declared.bounds.Bounds.{Bounds}
use Rattle.build.specs.declared.tally.Tally.{Tally}
use Rattle.atoms.specs.Rows.{put, flat}
use Rattle.atoms.specs.Floor.{floor_label}
use Rattle.build.specs.Seed.{seeds}
use Rattle.atoms.specs.Reasons.{axioms_dropped, noted, counted}
use Rattle.model.specs.declared.phases.Phase.{Phase}
use Rattle.model.specs.declared.phases.Phase.TheVariants.{Seed, Expand, Axioms, Close}
use Rattle.model.specs.Closing.{close}
use Rattle.build.specs.Model.{Model, with_state, note_in, Buffers, top}
use Rattle.model.specs.Expand.{expand}
use Rattle.model.specs.Rounds.{expand_from_axioms}

-- the numbers of the phases
abbrev pub number : Phase → ℕ
number Seed = 1
number Expand = 2
number Axioms = 3
number Close = 4

-- what is read from a number: the phase that has it, or refusal 8, "last phase not 1 to 4"
abbrev pub ReadAs : ℕ → Result Phase Refusal → Type 0
ReadAs n (Ok p) = number p ≡ n
ReadAs n (Err r) = (r ≡ BadBounds) × ((leb 1 n && leb n 4) ≡ false)

-- a phase by its number: "`last phase` stops after it; a tripped bound skips what follows"
unfoldable pub phase : ℕ → ℕ → (Model → Model) → Model → Model
phase k last f m = cond (leb k last) (cond m.state.tripped m (f m)) m

module _ (D : Deck) where
  -- 1 seed
  unfoldable pub seeded : List ℕ → Model
  seeded log = record { labels = seeds D (floor_label D) (class_count D); state = record { edges = []; log = log; reasons = 0; tripped = false } }

  module _ (B : Bounds) where
    -- 4 closing, over the elements that there are
    unfoldable pub close_in : Model → Model
    close_in m = with_state m (close D (length m.labels) B.max_edges m.state)

    -- 2 expand, 3 axioms, 4 closing
    unfoldable pub later_phases : ℕ → Model → Model
    later_phases last m = phase 4 last close_in (phase 3 last (expand_from_axioms D (floor_label D) B) (phase 2 last (expand D (floor_label D) B) m))

    unfoldable pub phases : ℕ → List ℕ → Model
    phases last log = later_phases last (seeded log)

  -- "4 AxiomsDroppedAtConversion (D, 0), given last if D is above 0"
  unfoldable pub with_dropped : Model → Model
  with_dropped m = cond (ltb 0 D.dropped) (note_in (axioms_dropped D.dropped) m) m

  -- all that is built
  unfoldable pub construct : Bounds → ℕ → List ℕ → Model
  construct B last log = with_dropped (phases B last log)

-- how much of the buffers is in use, and how many reasons were given
abbrev pub tally_of : Model → Tally
tally_of m = record { elements = length m.labels; edges = length m.state.edges; reasons = m.state.reasons }

-- ---- what the functions leave
-- the log and the tally after reason 4
pub record Dropped (D : Deck) (log : List ℕ) (t : Tally) (log' : List ℕ) (t' : Tally) : Type 0 where
  pub log_is : log' ≡ cond (ltb 0 D.dropped) (noted log t.reasons (axioms_dropped D.dropped)) log
  pub tally : t' ≡ record { elements = t.elements; edges = t.edges; reasons = cond (ltb 0 D.dropped) (counted t.reasons) t.reasons }

-- the buffers hold what is built at their start and are as they were past it
pub record Constructed (D : Deck) (B : Bounds) (last : ℕ) (b b' : Buffers) (t : Tally) : Type 0 where
  pub labels : b'.labels ≡ put b.labels (flat (construct D B last b.log).labels)
  pub edges : b'.edges ≡ put b.edges (map row_of (construct D B last b.log).state.edges)
  pub log : b'.log ≡ (construct D B last b.log).state.log
  pub tally : t ≡ tally_of (construct D B last b.log)
  pub few : t.elements ≤ top D B + 1
  pub room : t.edges ≤ length b'.edges
