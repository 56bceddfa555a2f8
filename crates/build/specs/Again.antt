-- Walks that were made before. A walk of a concept from an element that leaves elements and edges as they were gives the same reasons each time, until the structure has grown: a table remembers where they stand in the log.
use Rattle.std.specs.Prelude.{ℕ, ◌+◌, ◌-◌, ◌*◌, ◌<◌, false, List, ◌⊎◌, ◌≡◌, length, get_or}
use Rattle.deck.specs.Deck.{Deck}
use Rattle.build.specs.declared.again.Walked.{Walked}
use Rattle.build.specs.declared.bounds.Bounds.{Bounds}
use Rattle.build.specs.declared.tally.Tally.{Tally}
use Rattle.atoms.specs.declared.reasons.Reason.{Reason}
use Rattle.atoms.specs.Walk.{walk}
use Rattle.atoms.specs.declared.reasons.Stretch.{Stretch}
use Rattle.atoms.specs.Reasons.{Log, note}
use Rattle.atoms.specs.Occurrences.{Standing}
use Rattle.build.specs.Model.{Model, with_state}
use Rattle.build.specs.Exists.{work}

-- ---- how large a structure is: steps of building only add
abbrev pub size_of : Tally → ℕ
size_of t = t.elements + t.edges

abbrev pub structure_size : Model → ℕ
structure_size m = length m.labels + length m.state.edges

abbrev pub model_size : Model → ℕ
model_size m = structure_size m + m.state.reasons

-- nothing tripped
abbrev pub LiveModel : Model → Type 0
LiveModel m = m.state.tripped ≡ false

-- ---- what a step gives
abbrev pub log_of : Model → Log
log_of m = record { words = m.state.log; total = m.state.reasons }

-- the same structure with another log
abbrev pub with_log : Model → Log → Model
with_log m g = with_state m (record { edges = m.state.edges; log = g.words; reasons = g.total; tripped = m.state.tripped })

-- the step f on m gives these reasons, whatever the log, and does nothing else
pub record Given (f : Model → Model) (m : Model) : Type 0 where
  pub reasons : List Reason
  pub is : (g : Log) → f (with_log m g) ≡ with_log m (walk note reasons g)

-- the tally with another total of reasons
abbrev pub of_total : ℕ → Tally → Tally
of_total n t = record { elements = t.elements; edges = t.edges; reasons = n }

-- the walk of concept o from element e gives reasons alone, those of a stretch of m's log
pub record Remembers (D : Deck) (floor : List ℕ) (B : Bounds) (m : Model) (o e : ℕ) (s : Stretch) : Type 0 where
  pub given : Given (work D floor B o e) m
  pub standing : Standing m.state.log s m.state.reasons given.reasons

-- ---- the table
-- the word of concept o at element e in a structure of size n; never 0
abbrev pub word_of : ℕ → ℕ → ℕ → ℕ
word_of n o e = (n + 1) * 1073741824 + (e * 16384 + o)

-- what has a word
pub record Worded (o e : ℕ) : Type 0 where
  pub concept : o < 16384
  pub element : e < 65536

abbrev pub no_stretch : Stretch
no_stretch = record { first = 0; count = 0 }

abbrev pub none : Walked
none = record { word = 0; given = no_stretch }

abbrev pub walked_at : List Walked → ℕ → Walked
walked_at table i = get_or table i none

-- its walk stands in the table, at any place, with the reasons that it gave
pub record Known (table : List Walked) (t : Tally) (o e : ℕ) (s : Stretch) : Type 0 where
  pub worded : Worded o e
  pub place : ℕ
  pub word : (walked_at table place).word ≡ word_of (size_of t) o e
  pub given : (walked_at table place).given ≡ s

-- every walk whose word stands in the table gives in m what the table says, and no word is of a larger structure
pub record Right (D : Deck) (floor : List ℕ) (B : Bounds) (table : List Walked) (m : Model) : Type 0 where
  pub again : (i o e : ℕ) → o < 16384 → e < 65536 → LiveModel m → (walked_at table i).word ≡ word_of (structure_size m) o e → Remembers D floor B m o e (walked_at table i).given
  pub old : (i : ℕ) → (walked_at table i).word < (structure_size m + 2) * 1073741824

-- ---- a walk of concept o from element e took the tally from t to u: each entry of the table is as it was, or, where elements and edges stand, that of the walk
pub record Marked (table : List Walked) (i : ℕ) (t u : Tally) (o e : ℕ) : Type 0 where
  pub elements : t.elements ≡ u.elements
  pub edges : t.edges ≡ u.edges
  pub worded : Worded o e
  pub word : (walked_at table i).word ≡ word_of (size_of u) o e
  pub first : (walked_at table i).given.first ≡ t.reasons
  pub count : (walked_at table i).given.count ≡ u.reasons - t.reasons

pub record Kept (was now : List Walked) (t u : Tally) (o e : ℕ) : Type 0 where
  pub each : (i : ℕ) → (walked_at now i ≡ walked_at was i) ⊎ Marked now i t u o e
