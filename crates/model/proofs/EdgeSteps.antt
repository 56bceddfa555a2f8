-- Steps that add edges alone to a structure in the making, one after the other.
--     pushed-is, pushed-quiet, pushed-room, closes-after     what a step that trips no bound leaves
--     pushed-by, closes-on                                   a step said of an earlier structure
--     on-start, on-done, on-stop, on-next                    every loop that walks a list of them
use Prim.Native.Nat.{ℕ}
use mathlib.Core.Bool.{Bool, true, false}
use mathlib.Core.Path.{◌≡◌, refl, ap, ◌∙◌}
use mathlib.Core.List.{List, [], ◌∷◌}
use native.Mathlib.Omega.{arith}
use Rattle.build.specs.declared.building.Build.{Build}
use Rattle.build.specs.declared.plan.Plan.{Plan}
use Rattle.build.specs.Push.{State}
use Rattle.build.specs.Building.{HasRoom, Pushed, deck_in, state_of}
use Rattle.build.proofs.PushLaws.{left-quiet, left-room, left-start, left-tripped, left-edges}
use Rattle.build.proofs.BuildingLaws.{pushed-same, pushed-trans}
use Rattle.atoms.specs.Walk.{walk}
use Rattle.atoms.proofs.WalkLaws.{On, done, stop, onward}
use Rattle.model.specs.Closing.{EdgesFit, Closes}

pub pushed-is : {a b : Build} {r : Bool} {s u : State} → Pushed a b r s → s ≡ u → Pushed a b r u
pushed-is P e = rw e at P

module _ {a b : Build} {s : State} (P : Pushed a b false s) where
  pub pushed-quiet : Pushed a b false (state_of b)
  pushed-quiet = record { same = P.same; label = P.label; labels = P.labels; left = left-quiet P.left refl }

  pub pushed-room : HasRoom a → HasRoom b
  pushed-room R = rw P.same.plan (left-room P.left R refl)

  pub closes-after : Closes a → EdgesFit (deck_in a) a.tally.elements s.edges → Closes b
  closes-after R f = rw P.same.plan
      (record {
        accepted = R.accepted;
        few = omega (arith, R.few, P.left.elements);
        space = left-room P.left R.space refl;
        fits = rw (P.left.elements, left-edges P.left) f;
      })

  pub pushed-by : (F : Plan → ℕ → State) {c : Build} {r : Bool} → Pushed b c r (F b.plan b.tally.elements) → Pushed b c r (F a.plan a.tally.elements)
  pushed-by F Q = pushed-is Q (ap (λ (p : Plan). F p b.tally.elements) P.same.plan ∙ ap (F a.plan) P.left.elements)

-- what steps from a on have left is ready for closing to go on, and so is what one more leaves whose edges fit
module _ {a b : Build} (R : Closes a) (C : Closes b) (P : Pushed a b false (state_of b)) where
  pub closes-fits : EdgesFit (deck_in a) a.tally.elements (state_of b).edges
  closes-fits = rw (P.same.plan, P.left.elements) at C.fits

  pub closes-on : {c : Build} {s : State} → Pushed b c false s → (EdgesFit (deck_in a) a.tally.elements (state_of b).edges → EdgesFit (deck_in a) a.tally.elements s.edges) → Closes c
  closes-on Q f = closes-after (pushed-trans P Q) R (f closes-fits)

-- a walk over `all`, of which `rest` is left
abbrev pub OnBuild : {A : Type 0} → Build → (A → State → State) → List A → List A → Build → Type 0
OnBuild a f all rest b = On (Pushed a b false) f all rest (state_of a) (state_of b)

module _ {A : Type 0} {a : Build} {f : A → State → State} {all : List A} where
  pub on-start : {rest : List A} → all ≡ rest → HasRoom a → OnBuild a f all rest a
  on-start e R = record { built = pushed-same R; goes = ap (λ (l : List A). walk f l (state_of a)) e }

  module _ {rest : List A} {b : Build} (G : OnBuild a f all rest b) where
    pub on-done : rest ≡ [] → Pushed a b false (walk f all (state_of a))
    on-done = done G

    module _ {x : A} {more : List A} (q : rest ≡ x ∷ more) where
      pub on-stop : {c : Build} → Pushed b c true (f x (state_of b)) → ((y : A) (u : State) → u.tripped ≡ true → f y u ≡ u) → Pushed a c true (walk f all (state_of a))
      on-stop {c} P stuck = stop G q (Pushed a c true) (pushed-trans G.built P) (λ y. stuck y _ (left-tripped P.left))

      pub on-next : {c : Build} → Pushed b c false (f x (state_of b)) → OnBuild a f all more c
      on-next {c} P = onward G q (Pushed a c false) (pushed-quiet (pushed-trans G.built P)) (left-start P.left refl)
