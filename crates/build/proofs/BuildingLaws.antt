-- Steps of a structure in the making, one after the other.
--     same-refl, same-trans         what is only read, and the slices
--     pushed-same, pushed-trans     steps that add edges alone
--     holds-same, holds-noted, holds-trans, holds-is, holds-pushed, holds-start, ready-at, ready-after    steps that build
--     Walking                       every loop that walks a list
use mathlib.Core.Bool.{Bool, true, false}
use mathlib.Core.Path.{◌≡◌, refl, ◌∙◌}
use mathlib.Core.List.{List, [], ◌∷◌}
use Rattle.build.specs.declared.plan.Plan.{Plan}
use Rattle.build.specs.declared.building.Build.{Build}
use Rattle.atoms.specs.Walk.{walk}
use Rattle.build.specs.Push.{State}
use Prim.Native.Nat.{ℕ}
use lib.ListN.{length}
use denote.Ref.{MutBor}
use native.Mathlib.Omega.{arith}
use Rattle.build.specs.Model.{Model, with_state, lent, begun, Built}
use Rattle.build.specs.Again.{of_total}
use Rattle.build.specs.Building.{deck_in, buffers, step_to, model_of, model_by, state_of, HasRoom, Ready, Same, Pushed, Holds}
use Rattle.build.proofs.PushLaws.{left-same, left-trans}
use Rattle.build.proofs.BuildLaws.{left-among, prepared-after, built-same, built-log, built-trans, built-is, built-start, OnModel, model-start, model-next, model-stop, model-done}

pub same-refl : {b : Build} → Same b b
same-refl = record { plan = refl; label = refl; labels = refl; edges = refl; log = refl }

pub same-trans : {a b c : Build} → Same a b → Same b c → Same a c
same-trans S T = record {
  plan = T.plan ∙ S.plan;
  label = T.label ∙ S.label;
  labels = T.labels ∙ S.labels;
  edges = T.edges ∙ S.edges;
  log = T.log ∙ S.log;
}

-- ---- steps that add edges alone
pub pushed-same : {b : Build} → HasRoom b → Pushed b b false (state_of b)
pushed-same R = record { same = same-refl; label = refl; labels = refl; left = left-same _ _ _ _ R }

pub pushed-trans : {a b c : Build} {r : Bool} {s u : State} → Pushed a b false s → Pushed b c r u → Pushed a c r u
pushed-trans P Q = record { same = same-trans P.same Q.same; label = Q.label ∙ P.label; labels = Q.labels ∙ P.labels; left = left-trans P.left (rw P.same.plan at Q.left) }

-- ---- steps that build
pub holds-same : {b : Build} → Ready b → Holds b b false (model_of b)
holds-same P = record { same = same-refl; built = built-same P }

-- reasons alone
pub holds-noted : {a : Build} {g : MutBor (List ℕ)} (n : ℕ) → Ready a → g.ghost_name ≡ a.log.ghost_name → length g.now ≡ length a.log.now
    → Holds a (record { plan = a.plan; label = a.label; labels = a.labels; edges = a.edges; log = g; tally = of_total n a.tally }) false (begun (deck_in a) (lent a.labels.now a.edges.now g.now) (of_total n a.tally))
holds-noted {a} {g} n P same size = record { same = record { plan = refl; label = refl; labels = refl; edges = refl; log = same }; built = built-log P g.now size n P.label-wide }

pub holds-is : {a b : Build} {r : Bool} {m k : Model} → Holds a b r m → m ≡ k → Holds a b r k
holds-is H e = rw e at H

pub holds-trans : {a b c : Build} {r : Bool} {m k : Model} → Holds a b false m → Holds b c r k → Holds a c r k
holds-trans H K = record { same = same-trans H.same K.same; built = built-trans H.built (rw H.same.plan at K.built) }

-- steps that add edges alone build too
pub holds-pushed : {a b : Build} {r : Bool} {s : State} → Ready a → Pushed a b r s → Holds a b r (with_state (model_of a) s)
holds-pushed {a} {b} P Q =
    let k : b.tally.elements ≡ a.tally.elements = Q.left.elements in
    record {
      same = Q.same;
      built = rw (Q.label, Q.labels)
          (record {
            held = rw k (built-same P).held;
            left = left-among Q.left b.tally.elements;
            more = omega (arith, k);
            most = omega (arith, k, P.few);
            few = λ w. omega (arith, k, P.few);
            wide = P.label-wide;
          });
    }

-- what it leaves is what the next one begins with
pub holds-start : {a b : Build} {m : Model} → Holds a b false m → model_by a b ≡ m
holds-start H = built-start H.built refl

-- what follows a step that tripped no bound
pub ready-at : {b b' : Build} {m : Model} → Ready b → Same b b' → Built (deck_in b) b.plan.bounds (buffers b) b.tally (buffers b') b'.label.now (step_to b' false) m → Ready b'
ready-at P S X = rw S.plan (prepared-after P X refl)

pub ready-after : {b b' : Build} {m : Model} → Ready b → Holds b b' false m → Ready b'
ready-after P H = ready-at P H.same H.built

-- ---- a walk of steps that build, each by the plan: `rest` of `all` is left
pub record Walking {A : Type 0} (a : Build) (f : Plan → A → Model → Model) (all rest : List A) (b : Build) : Type 0 where
  pub same : Same a b
  pub on : OnModel (deck_in a) a.plan.bounds (f a.plan) all rest (buffers a) a.tally (buffers b) b.label.now b.tally

pub walking-start : {A : Type 0} {a : Build} (f : Plan → A → Model → Model) (all : List A) → Ready a → Walking a f all all a
walking-start {a = a} f all P = record { same = same-refl; on = model-start (f a.plan) all P }

module _ {A : Type 0} {a : Build} {f : Plan → A → Model → Model} {all rest : List A} {b : Build} (W : Walking a f all rest b) where
  pub walking-ready : Ready a → Ready b
  walking-ready P = ready-at P W.same W.on.built

  pub walking-done : rest ≡ [] → Holds a b false (walk (f a.plan) all (model_of a))
  walking-done e = record { same = W.same; built = model-done W.on e }

  module _ {x : A} {more : List A} (q : rest ≡ x ∷ more) where
    -- a step that changes nothing is left out
    pub walking-skip : Ready a → model_by a b ≡ f a.plan x (model_by a b) → Walking a f all more b
    walking-skip P e = record { same = W.same; on = model-next W.on q (built-is (built-same (prepared-after P W.on.built refl)) e) refl }

    module _ {c : Build} {r : Bool} (H : Holds b c r (f b.plan x (model_of b))) where
      pub walking-next : r ≡ false → Walking a f all more c
      walking-next e = record { same = same-trans W.same H.same; on = model-next W.on q (rw W.same.plan at H.built) e }

      pub walking-stop : ((y : A) (u : Model) → u.state.tripped ≡ true → f a.plan y u ≡ u) → r ≡ true → Holds a c r (walk (f a.plan) all (model_of a))
      walking-stop stuck e = record { same = same-trans W.same H.same; built = model-stop W.on q (rw W.same.plan at H.built) stuck e }
