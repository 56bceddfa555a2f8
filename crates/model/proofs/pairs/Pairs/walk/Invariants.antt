use mathlib.Core.Bool.{false}
use mathlib.Core.Path.{◌≡◌}
use Prim.Native.Nat.{ℕ, ◌*◌, ◌≤◌, ◌<◌}
use Rattle.model.specs.PairWalks.{hits}
use Rattle.model.proofs.pairs.Pairs.walk.Given as goal

abbrev pub invariant-loop-x : goal.invariant-loop-x
invariant-loop-x l = (u : ℕ) → l.after ≤ u → u < l.x * 65536 → hits l.self u ≡ false
