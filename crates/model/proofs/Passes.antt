-- The number of turns is never what ends closing: `close-turns`.
use Prim.Native.Nat.{ℕ, zero, suc, ◌-◌, ◌<◌, ◌≤◌}
use mathlib.Core.Bool.{Bool, true, false, cond, ◌||◌, or-true}
use mathlib.Core.Path.{◌≡◌, refl, sym, ap, ◌∙◌}
use native.Mathlib.Omega.{arith}
use lib.ListN.{length}
use lib.Dec.{eqb}
use borrow.Author.Tests.{eqb-false, eq-eqb, ne_eqb}
use Rattle.deck.specs.Content.{deck_of}
use Rattle.deck.specs.Deck.{Deck}
use Rattle.eval.proofs.Clash.{clash}
use Rattle.build.specs.declared.building.Build.{Build}
use Rattle.build.specs.Building.{HasRoom, Pushed, deck_in, state_of, step_to}
use Rattle.build.specs.Push.{State, reached}
use Rattle.model.specs.Closing.{close_pass, closing, close}
use Rattle.build.proofs.BuildingLaws.{pushed-same, pushed-trans}
use Rattle.build.proofs.PushLaws.{left-start, left-count}
use Rattle.model.proofs.EdgeSteps.{pushed-is, pushed-by, pushed-quiet}
use Rattle.model.proofs.CloseLaws.{pass-grows, grows-length, pass-bound}

module _ (D : Deck) (n limit : ℕ) where
  unfoldable pub ends : State → Bool
  ends s = (close_pass D n limit s).tripped || eqb (length (close_pass D n limit s).edges) (length s.edges)

  -- a pass that does not end it adds an edge within the bound
  pub goes_on : (s : State) → length s.edges ≤ limit → ends s ≡ false
      → ((close_pass D n limit s).tripped ≡ false) × (length s.edges < length (close_pass D n limit s).edges) × (length (close_pass D n limit s).edges ≤ limit)
  unfolding ends
  goes_on s l e = go (close_pass D n limit s).tripped refl e
    where
      go : (b : Bool) → (close_pass D n limit s).tripped ≡ b → (b || eqb (length (close_pass D n limit s).edges) (length s.edges)) ≡ false
          → ((close_pass D n limit s).tripped ≡ false) × (length s.edges < length (close_pass D n limit s).edges) × (length (close_pass D n limit s).edges ≤ limit)
      go true w q = clash (cc)
      go false w q =
          let h : length (close_pass D n limit s).edges ≡ length s.edges → ⊥ = eqb-false _ _ q in
          (w, omega (arith, h, grows-length (pass-grows D n limit s)), pass-bound D n limit s l w)

  turn : (f : ℕ) (s : State) → closing D n limit (suc f) s ≡ cond (ends s) (close_pass D n limit s) (closing D n limit f (close_pass D n limit s))
  unfolding closing ends
  turn f s = refl

  after : (f g : ℕ) (s : State) → length s.edges ≤ limit → limit - length s.edges ≤ f → limit - length s.edges ≤ g
      → ((h k : ℕ) → f ≡ suc h → g ≡ suc k → (t : State) → length t.edges ≤ limit → limit - length t.edges ≤ h → limit - length t.edges ≤ k → closing D n limit f t ≡ closing D n limit g t)
      → closing D n limit (suc f) s ≡ closing D n limit (suc g) s
  after f g s l hf hg ih = turn f s ∙ go (ends s) refl ∙ sym (turn g s)
    where
      go : (b : Bool) → ends s ≡ b → cond b (close_pass D n limit s) (closing D n limit f (close_pass D n limit s)) ≡ cond b (close_pass D n limit s) (closing D n limit g (close_pass D n limit s))
      go true e = refl
      go false e =
          let w = goes_on s l e in
          ih (f - 1) (g - 1) (omega (arith, w.1, w.2)) (omega (arith, w.1, w.2)) (close_pass D n limit s) w.2 (omega (arith, w.1, w.2)) (omega (arith, w.1, w.2))

  -- any two numbers of turns that are enough give the same
  pub closing-enough : (f g : ℕ) (s : State) → length s.edges ≤ limit → limit - length s.edges ≤ f → limit - length s.edges ≤ g → closing D n limit (suc f) s ≡ closing D n limit (suc g) s
  closing-enough zero g s l hf hg = after zero g s l hf hg (λ h k ef eg t. absurd (omega arith))
  closing-enough (suc f) g s l hf hg = after (suc f) g s l hf hg (λ h k ef eg t lt hh hk. rw eg (closing-enough f k t lt (omega arith) hk))

  -- the bound of `close` is enough: more turns change nothing
  pub close-turns : (f : ℕ) (s : State) → length s.edges ≤ limit → limit - length s.edges ≤ f → closing D n limit (suc f) s ≡ close D n limit s
  unfolding close
  close-turns f s l h = closing-enough f (limit - length s.edges) s l h (omega arith)

  -- so closing is one pass, and closing again unless that ended it
  pub close-step : (s : State) → length s.edges ≤ limit → close D n limit s ≡ cond (ends s) (close_pass D n limit s) (close D n limit (close_pass D n limit s))
  unfolding close
  close-step s l = turn (limit - length s.edges) s ∙ go (ends s) refl
    where
      go : (b : Bool) → ends s ≡ b → cond b (close_pass D n limit s) (closing D n limit (limit - length s.edges) (close_pass D n limit s)) ≡ cond b (close_pass D n limit s) (closing D n limit (suc (limit - length (close_pass D n limit s).edges)) (close_pass D n limit s))
      go true e = refl
      go false e =
          let w = goes_on s l e in
          let m : limit - length s.edges ≡ suc (limit - length s.edges - 1) = omega (arith, w.1, w.2) in
          rw m (closing-enough (limit - length s.edges - 1) (limit - length (close_pass D n limit s).edges) (close_pass D n limit s) w.2 (omega (arith, w.1, w.2)) (omega arith))

  module _ (s t : State) (p : t ≡ close_pass D n limit s) (l : length s.edges ≤ limit) where
    pub close-trip : t.tripped ≡ true → t ≡ close D n limit s
    unfolding ends
    close-trip w = p ∙ sym (close-step s l ∙ rw (rw p at w))

    pub close-still : length t.edges ≡ length s.edges → t ≡ close D n limit s
    unfolding ends
    close-still w = p ∙ sym (close-step s l ∙ rw (eq-eqb _ _ (rw p at w), or-true))

    pub close_more : t.tripped ≡ false → (length t.edges ≡ length s.edges → ⊥) → close D n limit s ≡ close D n limit t
    unfolding ends
    close_more w h = close-step s l ∙ ap (λ b. cond b (close_pass D n limit s) (close D n limit (close_pass D n limit s))) not_yet ∙ ap (close D n limit) (sym p)
      where
        not_yet : ends s ≡ false
        not_yet = rw (rw p at w) (ne_eqb (length (close_pass D n limit s).edges) (length s.edges) (λ q. h (ap (λ (u : State). length u.edges) p ∙ q)))

-- passes one after the other: closing from here is closing from the start
pub record Turning (a b : Build) : Type 0 where
  pub pushed : Pushed a b false (state_of b)
  pub goes : close (deck_in a) a.tally.elements a.plan.bounds.max_edges (state_of a) ≡ close (deck_in a) a.tally.elements a.plan.bounds.max_edges (state_of b)

pub turning-start : {a : Build} → HasRoom a → Turning a a
turning-start R = record { pushed = pushed-same R; goes = refl }

module _ {a b : Build} (G : Turning a b) where
  within : length (state_of b).edges ≤ a.plan.bounds.max_edges
  within = omega (arith, left-count G.pushed.left, G.pushed.left.within refl)

  module _ {c : Build} {r : Bool} (Q : Pushed b c r (close_pass (deck_in b) b.tally.elements b.plan.bounds.max_edges (state_of b))) where
    P : Pushed b c r (close_pass (deck_in a) a.tally.elements a.plan.bounds.max_edges (state_of b))
    P = pushed-by G.pushed (λ p n. close_pass (deck_of p.deck.bytes.now) n p.bounds.max_edges (state_of b)) Q

    ended : reached c.edges.now c.log.now (step_to c r) ≡ close (deck_in a) a.tally.elements a.plan.bounds.max_edges (state_of b) → Pushed a c r (close (deck_in a) a.tally.elements a.plan.bounds.max_edges (state_of a))
    ended e = pushed-trans G.pushed (pushed-is P (sym P.left.is ∙ e ∙ sym G.goes))

    pub turning-trip : r ≡ true → Pushed a c r (close (deck_in a) a.tally.elements a.plan.bounds.max_edges (state_of a))
    turning-trip w = ended (close-trip (deck_in a) a.tally.elements a.plan.bounds.max_edges (state_of b) (reached c.edges.now c.log.now (step_to c r)) P.left.is within w)

    pub turning-still : c.tally.edges ≡ b.tally.edges → Pushed a c r (close (deck_in a) a.tally.elements a.plan.bounds.max_edges (state_of a))
    turning-still w =
        ended (close-still (deck_in a) a.tally.elements a.plan.bounds.max_edges (state_of b) (reached c.edges.now c.log.now (step_to c r)) P.left.is within (left-count P.left ∙ w ∙ sym (left-count G.pushed.left)))

  pub turning-more : {c : Build} → Pushed b c false (close_pass (deck_in b) b.tally.elements b.plan.bounds.max_edges (state_of b)) → (c.tally.edges ≡ b.tally.edges → ⊥) → Turning a c
  turning-more {c} Q h =
      let L = P Q in
      record {
        pushed = pushed-quiet (pushed-trans G.pushed L);
        goes =
            G.goes
            ∙ close_more (deck_in a) a.tally.elements a.plan.bounds.max_edges (state_of b) (state_of c) (left-start L.left refl) within refl
            (λ q. h (sym (left-count L.left) ∙ q ∙ left-count G.pushed.left));
      }
