use Rattle.std.proofs.Common.{◌-◌, ◌≡◌, ◌≤◌}
use Rattle.bench_deck.specs.Bench.{sum_of}
use Rattle.bench_deck.proofs.sum_words.Given as goal

-- the sum so far is that of the words passed
abbrev pub invariant-loop-i : goal.invariant-loop-i
invariant-loop-i l = l.sum ≡ sum_of l.deck l.i
