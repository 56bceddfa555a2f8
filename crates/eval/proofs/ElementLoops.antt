-- A loop over the elements, up to the first that fails: what the three checks of class axioms share. They differ in f, the outcome at an element.
use Prim.Native.Nat.{ℕ, ◌+◌, ◌-◌, ◌<◌, ◌≤◌}
use mathlib.Core.Bool.{true, false}
use mathlib.Core.Path.{◌≡◌, sym, ◌∙◌}
use native.Mathlib.Omega.{arith}
use Rattle.eval.specs.declared.judgement.Judgement.{Judgement}
use Rattle.eval.specs.declared.standing.Standing.{Standing}
use Rattle.eval.specs.declared.verdict.Verdict.{Verdict}
use Rattle.eval.specs.declared.verdict.Verdict.TheVariants.{Fails}
use Rattle.eval.specs.Standing.{fresh, and_next}
use Rattle.eval.specs.Lists.{range}
use Rattle.eval.specs.Verdict.{scan, one, verdict_of}
use Rattle.eval.proofs.Walks.{elements-end, elements-stop, elements-step}

-- the invariant: of z elements those below e are passed, none failed, and s is what they came to
pub record Passed (f : ℕ → Judgement) (z e : ℕ) (s : Standing) : Type 0 where
  pub within : e ≤ z
  pub open-still : s.ended ≡ false
  pub same : scan f one fresh (range 0 z) ≡ scan f one s (range e (z - e))

pub passed_none : (f : ℕ → Judgement) (z : ℕ) {s : Standing} → s ≡ fresh → Passed f z 0 s
passed_none f z q = let y : z - 0 ≡ z = omega arith in record { within = omega arith; open-still = rw q; same = rw (q, y) }

module _ {f : ℕ → Judgement} {z e : ℕ} {s : Standing} (p : Passed f z e s) where
  pub passed-all : {v : Verdict} → z ≤ e → v ≡ verdict_of s → v ≡ scan f one fresh (range 0 z)
  passed-all h q = q ∙ elements-end f one s e z h ∙ sym p.same

  module _ (h : e < z) {j : Judgement} {next : Standing} (o : j ≡ f e) (q : next ≡ and_next s j) where
    pub passed-stop : next.ended ≡ true → Fails (one e) ≡ scan f one fresh (range 0 z)
    passed-stop k = elements-stop f one s e z h o q p.open-still k ∙ sym p.same

    pub passed-more : next.ended ≡ false → Passed f z (e + 1) next
    passed-more k = record { within = omega arith; open-still = k; same = p.same ∙ elements-step f one s e z h o q k }
