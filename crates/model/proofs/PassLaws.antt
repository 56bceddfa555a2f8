-- The next class that a label and a mask share: a word at a time.
--     pass-start, pass-here, pass_step, pass-end   the loop
--     passed_over                                  a walk over the classes goes on there
use Rattle.deck.specs.Content.{deck_of}
use Rattle.build.specs.Model.{Model}
use Rattle.build.specs.declared.building.Build.{Build}
use Rattle.build.specs.declared.plan.Plan.{Plan}
use Rattle.build.specs.Building.{deck_in, model_by}
use Rattle.build.proofs.BuildingLaws.{Walking}
use Rattle.deck.proofs.BelowLaws.{and_left}
use mathlib.Core.Bool.{true}
use mathlib.Core.List.{[]}
use Rattle.model.proofs.WordLaws.{word-hit}
use Prim.Native.Nat.{ℕ, ◌+◌, ◌-◌, ◌*◌, ◌/◌, ◌%◌, ◌^◌, ◌<◌, ◌≤◌}
use mathlib.Core.Path.{◌≡◌, sym, ◌∙◌}
use mathlib.Core.Bool.{Bool, false, cond, ◌&&◌}
use mathlib.Core.List.{List}
use native.Mathlib.Omega.{arith}
use lib.ListN.{get_or}
use lib.Bits.{bit_and}
use lib.Dec.{eqb}
use Rattle.deck.specs.Deck.{class_count, fact_count}
use Rattle.eval.specs.Lists.{range}
use Rattle.eval.specs.Lent.{bit}
use Rattle.atoms.specs.Label.{label_has}
use Rattle.model.specs.Expand.{class_step}
use Rattle.model.specs.FactIndex.{Marked, Passed}
use Rattle.model.proofs.SkipLaws.{range-skip}
use Rattle.model.proofs.WordLaws.{bit-and, word-step}
use Rattle.model.proofs.FactIndexLaws.{class-passed}

-- ---- the loop: none below i counts
module _ (label mask : List ℕ) where
  abbrev both : ℕ → Bool
  both i = label_has label i && label_has mask i

  abbrev word : ℕ → ℕ
  word j = bit_and (get_or label j 0) (get_or mask j 0)

  both-bit : (i : ℕ) → both i ≡ bit (word (i / 64)) (i % 64)
  unfolding label_has
  both-bit i = sym (bit-and (get_or label (i / 64) 0) (get_or mask (i / 64) 0) (i % 64))

  pub None : ℕ → ℕ → Type 0
  None k i = (h : ℕ) → k ≤ h → h < i → both h ≡ false

  pub pass-start : (k : ℕ) → None k k
  unfolding None
  pass-start k h l u = absurd (omega (arith, l, u))

  pub pass-end : (n k i : ℕ) → None k i → k ≤ n → n ≤ i → Passed both n k n
  unfolding None
  pass-end n k i N a b = record { on = a; most = omega arith; none = λ h l u. N h l (omega (arith, u, b)) }

  pub pass-here : (n k i : ℕ) → None k i → k ≤ i → i ≤ n → Passed both n k i
  unfolding None
  pass-here n k i N a b = record { on = a; most = b; none = N }

  module _ (k i : ℕ) (N : None k i) {rest : ℕ} (q : rest ≡ word (i / 64) / 2 ^ (i % 64)) where
    pub pass-hit : rest % 2 ≡ 1 → label_has label i ≡ true
    unfolding None
    pass-hit o = and_left _ _ (word-hit both word both-bit k i N q o)

    pub pass_step : (rest % 2 ≡ 1 → ⊥) → {next : ℕ} → next ≡ cond (eqb rest 0) ((i / 64 + 1) * 64) (i + 1) → None k next
    unfolding None
    pass_step o p = word-step both word both-bit k i N q o p

-- ---- the walk over the classes goes on there
abbrev pub classes_of : ℕ → Plan → ℕ → Model → Model
classes_of e p k = class_step (deck_of p.deck.bytes.now) p.floor.now p.bounds e k

pub passed_over : {a b : Build} (e : ℕ) {k : ℕ} → Walking a (classes_of e) (range 0 (class_count (deck_in a))) (range k (class_count (deck_in a) - k)) b → {mask : List ℕ} → Marked (deck_in a) (fact_count (deck_in a)) mask
    → {j : ℕ} → Passed (λ i. label_has (get_or (model_by a b).labels e []) i && label_has mask i) (class_count (deck_in a)) k j
    → Walking a (classes_of e) (range 0 (class_count (deck_in a))) (range j (class_count (deck_in a) - j)) b
passed_over {a} {b} e {k} W M {j} P = record {
  same = W.same;
  on = record {
    built = W.on.built;
    goes =
        W.on.goes
        ∙ range-skip (classes_of e a.plan) (class_count (deck_in a)) (model_by a b) k j P.on P.most (λ i l u. class-passed (deck_in a) a.plan.floor.now a.plan.bounds e M i (model_by a b) (P.none i l u));
  };
}
