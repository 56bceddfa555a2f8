use Prim.Native.Nat.{ℕ, ◌<◌}
use mathlib.Core.Path.{◌≡◌}
use native.Mathlib.Omega.{arith}
use Rattle.deck.specs.Content.{deck_of}
use Rattle.atoms.specs.Occurrences.{delta_count}
use Rattle.atoms.proofs.OccurrenceLaws.{table_more}
use Rattle.atoms.proofs.occurrences.fill_deltas.Goals as goal

pub loop-k-preserved : goal.loop-k-preserved
loop-k-preserved c =
    let w = c.loop-k in
    table_more (λ (k x : ℕ). x ≡ delta_count (deck_of c.args.deck.now.bytes.now) c.args.r.0 k) w.table w.k _ (omega (arith, w.auto.table, c.requires.count_in_bounds)) w.invariant c.delta_entry.ensures

pub returns : goal.returns
returns c =
    λ (k : ℕ) (b : k < c.args.count). c.loop-k.invariant k (omega arith)
