use Rattle.std.proofs.Common.{◌≡◌, ℕ, ◌+◌, ◌%◌, ◌^◌, List, sym, refl, ap, ◌∙◌, le_antisymm, add-one, arith}
use Rattle.deck.specs.Word.{word_at}
use Rattle.bench_deck.specs.Bench.{sum_of}
use Rattle.bench_deck.proofs.sum_words.Goals as goal

step : (s : List ℕ) (i sum w : ℕ) → sum ≡ sum_of s i → w ≡ word_at s i → (sum + w) % 2 ^ 32 ≡ sum_of s (i + 1)
unfolding sum_of
step s i sum w so_far read =
    ap (λ (k : ℕ). (k + w) % 2 ^ 32) so_far ∙ ap (λ (k : ℕ). (sum_of s i + k) % 2 ^ 32) read ∙ sym (ap (sum_of s) (add-one i))

pub loop-i-init : goal.loop-i-init
unfolding sum_of
loop-i-init c = refl

pub loop-i-preserved : goal.loop-i-preserved
loop-i-preserved c =
    step _ c.loop-i.i _ _ c.loop-i.invariant c.word-sum.ensures

pub returns : goal.returns
returns c = c.loop-i.invariant ∙ ap (sum_of _) (le_antisymm c.loop-i.auto.i-end c.loop-i-test.false)
