-- Building out a consequent (`materialise_exists`): document 01, section 3.
use Rattle.std.specs.Prelude.{ℕ, Bool, true, false, cond, List}
use Rattle.deck.specs.Deck.{Deck, Concept, Role, concept_at}
use Rattle.eval.specs.Numbered.{numbered}
use Rattle.build.specs.declared.bounds.Bounds.{Bounds}
use Rattle.atoms.specs.Walk.{walk}
use Rattle.build.specs.Intern.{index_of}
use Rattle.atoms.specs.Floor.{floored}
use Rattle.atoms.specs.Body.{Body, body_of}
use Rattle.build.specs.Model.{Model, reach, with_state}

-- the model after the reasons of a body
abbrev pub with_reasons : Model → Body → Model
with_reasons m s = with_state m (record { edges = m.state.edges; log = s.log; reasons = s.atoms.reasons; tripped = m.state.tripped })

-- ---- a consequent from an element
module _ (D : Deck) (floor : List ℕ) (B : Bounds) where
  -- the body of a Some at the model's reasons, and the label of its target
  abbrev pub body_in : ℕ → ℕ → Model → Body
  body_in r b m = body_of D r b m.state.log m.state.reasons

  abbrev pub body_label : ℕ → ℕ → Model → List ℕ
  body_label r b m = floored D floor (body_in r b m).label

  -- "The label is interned, the edge added"
  unfoldable pub reach_body : ℕ → ℕ → ℕ → Model → Model
  reach_body r b e m = reach B r e (body_label r b m) (with_reasons m (body_in r b m))

  -- "An And in the consequent goes operand by operand. A Some with a named role … and the body worked from the target. Other constructs add nothing"; f works smaller concepts
  unfoldable pub work_of : (ℕ → ℕ → Model → Model) → Concept → ℕ → Model → Model
  work_of f (Concept.And l) e m = walk (λ o. f o e) l m
  work_of f (Concept.Some (Role.Named r) b) e m = f b (index_of m.labels (body_label r b m)) (reach_body r b e m)
  work_of f (Concept.Some (Role.Inverse r) b) e m = m
  work_of f Concept.Top e m = m
  work_of f Concept.Bot e m = m
  work_of f (Concept.Atomic k) e m = m
  work_of f (Concept.Nominal i) e m = m
  work_of f (Concept.SelfRestriction r) e m = m
  work_of f (Concept.Not b) e m = m
  work_of f (Concept.Or l) e m = m
  work_of f (Concept.All r b) e m = m
  work_of f (Concept.Min n r b) e m = m
  work_of f (Concept.Max n r b) e m = m

  -- after a trip nothing
  unfoldable pub work_step : ℕ → (ℕ → ℕ → Model → Model) → ℕ → Model → Model
  work_step c f e m = cond m.state.tripped m (work_of f (concept_at D c) e m)

  abbrev pub idle : ℕ → Model → Model
  idle e m = m

  -- concept c from element e
  unfoldable pub work : ℕ → ℕ → Model → Model
  work c = numbered idle work_step c

-- a consequent that goes further: "Other constructs add nothing"
abbrev pub builds : Concept → Bool
builds (Concept.And l) = true
builds (Concept.Some (Role.Named r) b) = true
builds (Concept.Some (Role.Inverse r) b) = false
builds Concept.Top = false
builds Concept.Bot = false
builds (Concept.Atomic k) = false
builds (Concept.Nominal i) = false
builds (Concept.SelfRestriction r) = false
builds (Concept.Not b) = false
builds (Concept.Or l) = false
builds (Concept.All r b) = false
builds (Concept.Min n r b) = false
builds (Concept.Max n r b) = false

unfoldable pub builds_at : Deck → ℕ → Bool
builds_at D c = builds (concept_at D c)
