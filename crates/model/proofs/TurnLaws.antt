-- The number of turns is never what ends expanding: `expand-turns`. Each turn takes an element that was not taken, and there are at most 65,536.
use Prim.Native.Nat.{ℕ, zero, suc, ◌+◌, ◌-◌, ◌<◌, ◌≤◌}
use mathlib.Core.Bool.{Bool, true, false}
use mathlib.Core.Path.{◌≡◌, refl, sym, ap, ◌∙◌}
use mathlib.Core.List.{List}
use native.Mathlib.Omega.{arith}
use lib.ListN.{length, replicate, length-replicate}
use Rattle.deck.specs.Deck.{Deck}
use Rattle.deck.specs.Sound.{Sound}
use Rattle.build.specs.declared.bounds.Bounds.{Bounds}
use Rattle.atoms.specs.Label.{insert_bit}
use Rattle.build.specs.Model.{Model, top}
use Rattle.model.specs.Expand.{highest, work_classes, turns, expand_in, expand}
use Rattle.atoms.proofs.LabelLaws.{length-insert}
use Rattle.model.proofs.TidyLaws.{Tidy}
use Rattle.model.proofs.ExpandLaws.{untaken, untaken-take, untaken-none, highest-is, turns-tripped, turns-none, turns_next}
use Rattle.model.proofs.KeepLaws.{Within}
use Rattle.model.proofs.ExpandKeeps.{classes-kept}

module _ (D : Deck) (W : Sound D) (floor : List ℕ) (F : Tidy D floor) (B : Bounds) (small : top D B < 65536) where
  Enough : ℕ → ℕ → Type 0
  Enough d n = (taken : List ℕ) (m : Model) → length taken ≡ 1024 → untaken taken 65536 ≤ n → Within D B m → turns D floor B (n + d) taken m ≡ turns D floor B n taken m

  -- a turn takes an element, and one fewer is left
  after : (d n : ℕ) → ((k : ℕ) → n ≡ suc k → Enough d k) → Enough d n
  unfolding Enough
  after d n ih taken m s u X = go m.state.tripped refl (highest taken (length m.labels)) refl
    where
      go : (b : Bool) → m.state.tripped ≡ b → (h : ℕ) → highest taken (length m.labels) ≡ h → turns D floor B (n + d) taken m ≡ turns D floor B n taken m
      go true w h q = turns-tripped D floor B taken m (n + d) w ∙ sym (turns-tripped D floor B taken m n w)
      go false w zero q = turns-none D floor B taken m (n + d) q ∙ sym (turns-none D floor B taken m n q)
      go false w (suc e) q =
          let t = highest-is taken (length m.labels) e q in
          let b : e < 65536 = omega (arith, t.0, X.elements, small) in
          let less : untaken taken 65536 ≡ suc (untaken (insert_bit taken e) 65536) = untaken-take taken e 65536 b (omega (arith, b, s)) t.1 in
          let k : n ≡ suc (untaken (insert_bit taken e) 65536 + (n - untaken taken 65536)) = omega (arith, less, u) in
          let r = untaken (insert_bit taken e) 65536 + (n - untaken taken 65536) in
          let more : n + d ≡ suc (r + d) = omega (arith, k) in
          ap (λ f. turns D floor B f taken m) more ∙ turns_next D floor B taken m (r + d) e w q
          ∙ ih r k (insert_bit taken e) (work_classes D floor B e m) (length-insert taken e ∙ s) (omega arith) ((classes-kept D W floor F B e m t.0).within X)
          ∙ sym (ap (λ f. turns D floor B f taken m) k ∙ turns_next D floor B taken m r e w q)

  turns-enough : (d n : ℕ) → Enough d n
  turns-enough d zero = after d zero (λ k e. absurd (omega (arith, e)))
  turns-enough d (suc n) = after d (suc n) (λ k e. let q : n ≡ k = omega (arith, e) in rw q at (turns-enough d n))

  -- 65,536 turns are enough: more change nothing
  pub expand-turns : (d : ℕ) (m : Model) → Within D B m → expand_in D floor B (65536 + d) m ≡ expand D floor B m
  unfolding expand Enough
  expand-turns d m X = turns-enough d 65536 (replicate 1024 0) m (length-replicate {A = ℕ} 1024 0) (omega (arith, untaken-none 1024 65536)) X
