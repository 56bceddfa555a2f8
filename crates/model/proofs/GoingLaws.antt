-- A walk over the pairs of a role, as they stood when it began, that asks for one after the other.
use Prim.Native.Nat.{ℕ, ◌+◌, ◌-◌, ◌<◌, ◌≤◌}
use mathlib.Core.Bool.{true, false}
use mathlib.Core.Path.{◌≡◌, refl, ap, ◌∙◌}
use mathlib.Core.List.{List}
use native.Mathlib.Omega.{arith}
use Rattle.std.specs.Prelude.{Option, Some, None}
use Rattle.deck.specs.Deck.{Deck}
use Rattle.eval.specs.declared.edges.Edge.{Edge}
use Rattle.eval.specs.Lists.{keep, range}
use Rattle.eval.specs.Edges.{edges_of}
use Rattle.build.specs.declared.building.Build.{Build}
use Rattle.build.specs.Building.{HasRoom, Pushed, deck_in, state_of}
use Rattle.build.specs.Push.{State}
use Rattle.atoms.specs.Walk.{walk}
use Rattle.model.specs.Pairs.{link_key, first}
use Rattle.model.proofs.EdgeSteps.{OnBuild, on-start, on-done, on-stop, on-next}
use Rattle.model.proofs.NextLaws.{next-none, next-from, next-hit, next-below, next-some}

-- the numbers of the pairs of r among some edges, from `after` on and below `end`
abbrev pub keys : Deck → ℕ → List Edge → ℕ → ℕ → List ℕ
keys D r es after end = keep (link_key D es r) (range after (end - after))

-- the walk over the pairs of r in a has come to `after`
pub record Going (a : Build) (f : ℕ → State → State) (r end : ℕ) (b : Build) (after : ℕ) : Type 0 where
  pub le : after ≤ end
  pub on : OnBuild a f (keys (deck_in a) r (state_of a).edges 0 end) (keys (deck_in a) r (state_of a).edges after end) b

module _ {a : Build} (f : ℕ → State → State) (r end : ℕ) where
  pub going_start : HasRoom a → Going a f r end a 0
  going_start R = record { le = omega arith; on = on-start refl R }

  module _ {b : Build} {after : ℕ} (G : Going a f r end b after) {o : Option ℕ} (e : o ≡ first (keys (deck_in a) r (edges_of b.edges.now a.tally.edges) after end)) where
    found : o ≡ first (keys (deck_in a) r (state_of a).edges after end)
    found = e ∙ ap (λ es. first (keys (deck_in a) r es after end)) G.on.built.left.old

    pub going_done : o ≡ None → Pushed a b false (walk f (keys (deck_in a) r (state_of a).edges 0 end) (state_of a))
    going_done q = on-done G.on (next-none (link_key (deck_in a) (state_of a).edges r) after end G.le found q)

    module _ {j : ℕ} (q : o ≡ Some j) where
      pub going-past : after ≤ j
      going-past = next-from (link_key (deck_in a) (state_of a).edges r) after end G.le found j q

      pub going-hit : link_key (deck_in a) (state_of a).edges r j ≡ true
      going-hit = next-hit (link_key (deck_in a) (state_of a).edges r) after end G.le found j q

      pub going-below : j < end
      going-below = next-below (link_key (deck_in a) (state_of a).edges r) after end G.le found j q

      pub going-stop : {c : Build} → Pushed b c true (f j (state_of b)) → ((i : ℕ) (u : State) → u.tripped ≡ true → f i u ≡ u)
          → Pushed a c true (walk f (keys (deck_in a) r (state_of a).edges 0 end) (state_of a))
      going-stop P stuck = on-stop G.on (next-some (link_key (deck_in a) (state_of a).edges r) after end G.le found j q) P stuck

      pub going_next : {c : Build} → Pushed b c false (f j (state_of b)) → Going a f r end c (j + 1)
      going_next P = record { le = omega (arith, going-below); on = on-next G.on (next-some (link_key (deck_in a) (state_of a).edges r) after end G.le found j q) P }
