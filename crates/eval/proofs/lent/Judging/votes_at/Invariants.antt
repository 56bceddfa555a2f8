use Prim.Native.Nat.{ℕ, ◌+◌, ◌≤◌}
use mathlib.Core.List.{map}
use mathlib.Core.Path.{◌≡◌}
use lib.ListN.{drop}
use Rattle.deck.specs.Reads.{list_of}
use Rattle.eval.specs.declared.judgement.Judgement.{Judgement}
use Rattle.eval.specs.Judge.{judge}
use Rattle.eval.specs.Verdict.{no_votes, votes}
use Rattle.eval.specs.InLent.{deck_in, structure, Remembered}
use Rattle.eval.proofs.lent.Judging.votes_at.Given as goal

abbrev pub invariant-loop-i : goal.invariant-loop-i
invariant-loop-i l = let f : ℕ → Judgement = λ o. judge (deck_in l.self.lent) (structure l.self.lent) o l.e.0 in
    (l.votes.trues + l.votes.falses + l.votes.unresolved ≤ l.i) × (votes no_votes (map f (list_of l.self.lent.deck.bytes.now l.list)) ≡ votes l.votes (map f (drop l.i (list_of l.self.lent.deck.bytes.now l.list)))) × Remembered l.self.lent l.memo
