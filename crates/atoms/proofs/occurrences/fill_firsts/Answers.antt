use Prim.Native.Nat.{ℕ, ◌<◌}
use native.Mathlib.Omega.{arith}
use Rattle.deck.specs.Content.{deck_of}
use Rattle.atoms.specs.Floor.{required_atoms}
use Rattle.atoms.specs.Occurrences.{IsFirst}
use Rattle.atoms.proofs.OccurrenceLaws.{table_more}
use Rattle.atoms.proofs.occurrences.fill_firsts.Goals as goal

pub loop-k-preserved : goal.loop-k-preserved
loop-k-preserved c =
    let w = c.loop-k in
    table_more (λ (k x : ℕ). IsFirst (required_atoms (deck_of c.args.deck.now.bytes.now) k) x) w.table w.k _ (omega (arith, w.auto.table, c.requires.count_in_bounds)) w.invariant c.first_entry.ensures

pub returns : goal.returns
returns c =
    λ (k : ℕ) (b : k < c.args.count). c.loop-k.invariant k (omega arith)
