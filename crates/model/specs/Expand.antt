-- Expanding by the facts (`expand`): document 01, section 3.
use Rattle.std.specs.Prelude.{ℕ, zero, suc, cond, List, [], length, get_or, replicate, eqb, Option, Some, None}
use Rattle.deck.specs.declared.numbers.Element.{Element}
use Rattle.deck.specs.Deck.{Deck, Fact, class_count, fact_count, fact_at}
use Rattle.eval.specs.Lists.{range}
use Rattle.build.specs.declared.bounds.Bounds.{Bounds}
use Rattle.atoms.specs.declared.target_label.Target.{Target}
use Rattle.atoms.specs.declared.target_label.Target.TheVariants.{Row, Delta, NotClosed}
use Rattle.atoms.specs.Walk.{walk}
use Rattle.atoms.specs.Label.{label_has, insert_bit}
use Rattle.build.specs.Seed.{row_label}
use Rattle.atoms.specs.Reasons.{run_delta, label_not_closed}
use Rattle.atoms.specs.Target.{target_of}
use Rattle.build.specs.Model.{Model, note_in, reach}

-- one more than the highest element below n that is not taken, or 0; who is taken is kept as the bits of a label
unfoldable pub highest : List ℕ → ℕ → ℕ
highest taken zero = zero
highest taken (suc n) = cond (label_has taken n) (highest taken n) (suc n)

-- one more than an element, or 0 for none
abbrev pub above : Option Element → ℕ
above None = zero
above (Some e) = suc e.0

module _ (D : Deck) (floor : List ℕ) (B : Bounds) where
  -- the edge of r from e to the target of y: "labelled with y's row …; else with q's row …; else, q being unsatisfiable, with y's row and reason RunDelta(y); without a q there is LabelNotClosed(y, r) and no edge"
  abbrev pub link_target : ℕ → ℕ → ℕ → Target → Model → Model
  link_target e y r (Row k) m = reach B r e (row_label D floor k.0) m
  link_target e y r (Delta k) m = reach B r e (row_label D floor k.0) (note_in (run_delta y) m)
  link_target e y r NotClosed m = note_in (label_not_closed y r) m

  -- a fact at element e; after a trip nothing
  unfoldable pub work_fact : ℕ → Fact → Model → Model
  work_fact e f m = cond m.state.tripped m (link_target e f.to f.role (target_of D f.to f.role) m)

  -- a fact, where it is of class k
  unfoldable pub fact_step : ℕ → ℕ → Fact → Model → Model
  fact_step e k f m = cond (eqb f.from k) (work_fact e f m) m

  -- "the facts of each keep deck order": fact by fact, each by its place
  unfoldable pub work_facts : ℕ → ℕ → Model → Model
  work_facts e k m = walk (λ i. fact_step e k (fact_at D i)) (range 0 (fact_count D)) m

  -- class k, where the label of e has it
  unfoldable pub class_step : ℕ → ℕ → Model → Model
  class_step e k m = cond (label_has (get_or m.labels e []) k) (work_facts e k m) m

  -- "An element's classes rise"
  unfoldable pub work_classes : ℕ → Model → Model
  work_classes e m = walk (class_step e) (range 0 (class_count D)) m

  -- a turn takes an element, and `others` follow; with none left there is no turn
  unfoldable pub next_turn : (List ℕ → Model → Model) → List ℕ → Model → ℕ → Model
  next_turn others taken m zero = m
  next_turn others taken m (suc e) = others (insert_bit taken e) (work_classes e m)

  -- "always takes the highest element not yet taken, new ones included", at most so many times
  unfoldable pub turns : ℕ → List ℕ → Model → Model
  turns zero taken m = m
  turns (suc n) taken m = cond m.state.tripped m (next_turn (turns n) taken m (highest taken (length m.labels)))

  -- there are at most 65,536 elements, and each is taken once: more turns change nothing, `expand-turns` of proofs/TurnLaws.antt
  abbrev pub expand_in : ℕ → Model → Model
  expand_in n m = turns n (replicate 1024 0) m

  unfoldable pub expand : Model → Model
  expand m = expand_in 65536 m
