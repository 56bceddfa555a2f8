-- Steps of expanding, one after the other: a reason that is noted first, and what is remembered on the way.
--     holds-then                 two steps, the second by the plan
--     holds-note                 a reason
--     recalls-on                 what is remembered
use Prim.Native.Nat.{ℕ}
use mathlib.Core.Bool.{Bool, false}
use mathlib.Core.Path.{◌≡◌, ap, ◌∙◌, subst}
use mathlib.Core.List.{List}
use Rattle.deck.specs.Content.{deck_of}
use Rattle.eval.specs.Lent.{label_width}
use Rattle.atoms.specs.Reasons.{noted, counted}
use Rattle.atoms.specs.Rows.{rows_of}
use Rattle.atoms.specs.declared.reasons.Reason.{Reason}
use Rattle.build.specs.declared.building.Build.{Build}
use Rattle.build.specs.declared.plan.Plan.{Plan}
use Rattle.build.specs.Building.{Ready, Same, Holds, buffers, model_of}
use Rattle.build.specs.Model.{Model, begun, note_in}
use Rattle.build.proofs.BuildLaws.{built-note}
use Rattle.build.proofs.BuildingLaws.{holds-is, holds-trans, holds-start}
use Rattle.model.specs.FactIndex.{Recalled}
use Rattle.model.specs.Recall.{Recalls}

pub holds-then : {a b c : Build} {r : Bool} {m : Model} (f : Plan → Model → Model) → Holds a b false m → Holds b c r (f b.plan (model_of b)) → Holds a c r (f a.plan m)
holds-then {a} {b} f H K = holds-trans H (holds-is K (ap (λ (p : Plan). f p (begun (deck_of p.deck.bytes.now) (buffers b) b.tally)) H.same.plan ∙ ap (f a.plan) (holds-start H)))

pub holds-note : {a c : Build} → Ready a → (x : Reason) → Same a c → c.log.now ≡ noted a.log.now a.tally.reasons x
    → c.tally ≡ record { elements = a.tally.elements; edges = a.tally.edges; reasons = counted a.tally.reasons } → (c.label ≡ a.label) × (c.labels ≡ a.labels) × (c.edges ≡ a.edges)
    → Holds a c false (note_in x (model_of a))
holds-note P x S p q r = record { same = S; built = rw (r.0, r.1, r.2) (built-note P x p q) }

-- what is remembered, by the plan of an earlier step
pub recalls-on : {a b : Build} → Same a b → (c : Build) {known : List ℕ} → Recalls b c known → Recalls a c known
recalls-on {a} {b} S c {known} R =
    subst (λ (p : Plan). Recalled (deck_of p.deck.bytes.now) p.floor.now (rows_of (label_width (deck_of p.deck.bytes.now)) c.tally.elements c.labels.now) known) S.plan R
