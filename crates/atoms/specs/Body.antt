-- The label of the target of a Some, by its body (`body_label`): document 01, section 3.
use Rattle.std.specs.Prelude.{ℕ, Bool, true, false, cond, ◌≡◌, get_or, replicate, Option, Some, None}
use Rattle.std.specs.Option.{option_or}
use mathlib.Core.List.{List, [], ◌∷◌, ◌++◌, map, flat_map}
use Rattle.deck.specs.declared.numbers.ClassId.{ClassId}
use Rattle.deck.specs.Deck.{Deck, class_at, role_at}
use Rattle.eval.specs.Lent.{label_width}
use Rattle.eval.specs.Lists.{any}
use Rattle.atoms.specs.declared.body.Atoms.{Atoms}
use Rattle.atoms.specs.declared.reasons.Reason.{Reason}
use Rattle.atoms.specs.declared.target_label.Target.{Target}
use Rattle.atoms.specs.declared.target_label.Target.TheVariants.{Row, Delta, NotClosed}
use Rattle.atoms.specs.Walk.{walk}
use Rattle.atoms.specs.Label.{insert_all}
use Rattle.atoms.specs.Floor.{required_atoms}
use Rattle.atoms.specs.Reasons.{noted, counted, run_delta, label_not_closed}
use Rattle.atoms.specs.Target.{target_of}

-- ---- the label of a body's target, in the making: its words, the log, and what the atoms so far gave
pub record Body : Type 0 where
  pub label : List ℕ
  pub log : List ℕ
  pub atoms : Atoms

abbrev pub body : List ℕ → List ℕ → Atoms → Body
body label log atoms = record { label = label; log = log; atoms = atoms }

-- what the code leaves of a body: the label in the making, the log, and the total of reasons
pub record Joined (l g : List ℕ) (n : ℕ) (s : Body) : Type 0 where
  pub label : l ≡ s.label
  pub log : g ≡ s.log
  pub reasons : n ≡ s.atoms.reasons

-- one more atom: the first of all is kept
abbrev pub met : ℕ → Atoms → Atoms
met a j = record { first = option_or j.first (Some (record { 0 = a })); unclosed = j.unclosed; reasons = j.reasons }

abbrev pub open-too : Atoms → Atoms
open-too j = record { first = j.first; unclosed = true; reasons = j.reasons }

abbrev pub one_more : Atoms → Atoms
one_more j = record { first = j.first; unclosed = j.unclosed; reasons = counted j.reasons }

abbrev pub no_atoms : ℕ → Atoms
no_atoms reasons = record { first = None; unclosed = false; reasons = reasons }

-- one more reason after those of the atoms
abbrev pub noted_in : Reason → Body → Body
noted_in x s = record { label = s.label; log = noted s.log s.atoms.reasons x; atoms = one_more s.atoms }

module _ (D : Deck) where
  abbrev pub row_of_class : ℕ → List ℕ
  row_of_class k = (class_at D k).row

  -- "chosen as above, except that an atom without a q gives its own row"
  abbrev pub join_by : ℕ → Target → Body → Body
  join_by a (Row k) s = record { label = insert_all s.label (row_of_class k.0); log = s.log; atoms = met a s.atoms }
  join_by a (Delta k) s = record { label = insert_all s.label (row_of_class k.0); log = noted s.log s.atoms.reasons (run_delta a); atoms = one_more (met a s.atoms) }
  join_by a NotClosed s = record { label = insert_all s.label (row_of_class a); log = s.log; atoms = open-too (met a s.atoms) }

  unfoldable pub join_atom : ℕ → ℕ → Body → Body
  join_atom r a s = join_by a (target_of D a r) s

  -- "joins the labels of its body's required atoms"
  unfoldable pub join_atoms : ℕ → ℕ → Body → Body
  join_atoms r c s = walk (join_atom r) (required_atoms D c) s

  -- "a body without atoms takes the rows of r's range classes"
  abbrev pub with_ranges : ℕ → Body → Body
  with_ranges r s = record { label = insert_all s.label (flat_map row_of_class (role_at D r).range); log = s.log; atoms = s.atoms }

  -- "and one LabelNotClosed(first atom, r) then follows all of them"
  abbrev pub close_by : ℕ → Option ClassId → Body → Body
  close_by r None s = with_ranges r s
  close_by r (Some a) s = cond s.atoms.unclosed (noted_in (label_not_closed a.0 r) s) s

  abbrev pub close_body : ℕ → Body → Body
  close_body r s = close_by r s.atoms.first s

  unfoldable pub body_of : ℕ → ℕ → List ℕ → ℕ → Body
  body_of r b log reasons = close_body r (join_atoms r b (record { label = replicate (label_width D) 0; log = log; atoms = no_atoms reasons }))

-- ---- the same in the paper's words: `body-label` and `body-reasons` of proofs/BodyLaws.antt say that they are
-- "chosen as above, except that an atom without a q gives its own row"
abbrev pub row_by : Deck → ℕ → Target → List ℕ
row_by D a (Row k) = row_of_class D k.0
row_by D a (Delta k) = row_of_class D k.0
row_by D a NotClosed = row_of_class D a

-- "and reason RunDelta(y)"
abbrev pub delta_by : ℕ → Target → List Reason
delta_by a (Row k) = []
delta_by a (Delta k) = run_delta a ∷ []
delta_by a NotClosed = []

-- "an atom without a q"
abbrev pub open_by : Target → Bool
open_by (Row k) = false
open_by (Delta k) = false
open_by NotClosed = true

module _ (D : Deck) (r : ℕ) where
  abbrev pub atom_row : ℕ → List ℕ
  atom_row a = row_by D a (target_of D a r)

  abbrev pub atom_delta : ℕ → List Reason
  atom_delta a = delta_by a (target_of D a r)

  abbrev pub atom_open : ℕ → Bool
  atom_open a = open_by (target_of D a r)

  -- "joins the labels of its body's required atoms …; a body without atoms takes the rows of r's range classes"
  abbrev pub classes_of : List ℕ → List ℕ
  classes_of [] = flat_map (row_of_class D) (role_at D r).range
  classes_of (a ∷ ks) = flat_map atom_row (a ∷ ks)

  -- the RunDeltas in order, "and one LabelNotClosed(first atom, r) then follows all of them"
  abbrev pub reasons_of : List ℕ → List Reason
  reasons_of ks = flat_map atom_delta ks ++ cond (any (map atom_open ks)) (label_not_closed (get_or ks 0 0) r ∷ []) []
