-- A structure in the making as one value: what its steps need, and what they leave.
use Rattle.std.specs.Prelude.{ℕ, ◌+◌, ◌*◌, ◌≤◌, ◌<◌, ◌≡◌, Bool, List, length}
use Rattle.deck.specs.Deck.{Deck, class_count}
use Rattle.deck.specs.Content.{deck_of}
use Rattle.eval.specs.Lent.{label_width}
use Rattle.atoms.specs.Floor.{floored}
use Rattle.build.specs.declared.building.Build.{Build}
use Rattle.build.specs.Push.{Step}
use Rattle.build.specs.Intern.{Placed}
use Rattle.build.specs.Seed.{Seeded}
use Rattle.build.specs.Push.{State, start, Room, Left}
use Rattle.build.specs.Model.{Model, Buffers, lent, begun, among, Prepared, Built}

abbrev pub deck_in : Build → Deck
deck_in b = deck_of b.plan.deck.bytes.now

abbrev pub buffers : Build → Buffers
buffers b = lent b.labels.now b.edges.now b.log.now

-- the label in the making, with the floor where it has no real class
abbrev pub label_in : Build → List ℕ
label_in b = floored (deck_in b) b.plan.floor.now b.label.now

-- the model that b holds, by the deck of another step of the same structure
abbrev pub model_by : Build → Build → Model
model_by b b' = begun (deck_in b) (buffers b') b'.tally

abbrev pub model_of : Build → Model
model_of b = model_by b b

abbrev pub state_of : Build → State
state_of b = start b.edges.now b.log.now b.tally

-- ---- what steps need
abbrev pub HasRoom : Build → Type 0
HasRoom b = Room b.plan.bounds.max_edges b.edges.now b.tally.edges

-- place for one more element
pub record HasPlace (b : Build) : Type 0 where
  pub label-wide : length b.label.now ≡ label_width (deck_in b)
  pub rows : (b.tally.elements + 1) * label_width (deck_in b) ≤ length b.labels.now
  pub few : b.tally.elements < 65536

-- no element yet, and place for one of each class
pub record Unseeded (b : Build) : Type 0 where
  pub empty : b.tally.elements ≡ 0
  pub label-wide : length b.label.now ≡ label_width (deck_in b)
  pub rows : (class_count (deck_in b) + 1) * label_width (deck_in b) ≤ length b.labels.now

abbrev pub Ready : Build → Type 0
Ready b = Prepared b.plan.deck.bytes.now b.plan.bounds (buffers b) b.tally b.plan.floor.now b.label.now

-- ---- what steps leave
-- a step of the code: the counts after it, and whether it tripped a bound
abbrev pub step_to : Build → Bool → Step
step_to b tripped = record { tally = b.tally; tripped = tripped }

-- what is only read is as it was, and the slices are the same ones
pub record Same (b b' : Build) : Type 0 where
  pub plan : b'.plan ≡ b.plan
  pub label : b'.label.ghost_name ≡ b.label.ghost_name
  pub labels : b'.labels.ghost_name ≡ b.labels.ghost_name
  pub edges : b'.edges.ghost_name ≡ b.edges.ghost_name
  pub log : b'.log.ghost_name ≡ b.log.ghost_name

-- after l is interned, as element e
pub record Interns (b b' : Build) (l : List ℕ) (e : ℕ) : Type 0 where
  pub same : Same b b'
  pub placed : Placed b.labels.now b'.labels.now (model_of b).labels l e b'.tally.elements
  pub label : b'.label.now ≡ l
  pub tally : b'.tally ≡ among b'.tally.elements b.tally
  pub edges : b'.edges ≡ b.edges
  pub log : b'.log ≡ b.log

-- after seeding
pub record Seeds (b b' : Build) : Type 0 where
  pub same : Same b b'
  pub seeded : Seeded (deck_in b) b.plan.floor.now b.label.now b'.label.now b.labels.now b'.labels.now b'.tally.elements
  pub tally : b'.tally ≡ among b'.tally.elements b.tally
  pub edges : b'.edges ≡ b.edges
  pub log : b'.log ≡ b.log

-- after a step that adds edges and reasons alone they are those of s
pub record Pushed (b b' : Build) (tripped : Bool) (s : State) : Type 0 where
  pub same : Same b b'
  pub label : b'.label ≡ b.label
  pub labels : b'.labels ≡ b.labels
  pub left : Left b.plan.bounds.max_edges b.edges.now b.log.now b.tally b'.edges.now b'.log.now (step_to b' tripped) s

-- after a step the slices hold the model m
pub record Holds (b b' : Build) (tripped : Bool) (m : Model) : Type 0 where
  pub same : Same b b'
  pub built : Built (deck_in b) b.plan.bounds (buffers b) b.tally (buffers b') b'.label.now (step_to b' tripped) m
