use mathlib.Core.Path.{◌≡◌}
use mathlib.Core.List.{map}
use lib.ListN.{drop}
use Rattle.deck.specs.Deck.{role_of}
use Rattle.deck.specs.Reads.{list_of}
use Rattle.eval.specs.Verdict.{across_by, in_turn}
use Rattle.eval.specs.InLent.{deck_in, structure, Remembered}
use Rattle.eval.proofs.lent.Judging.check_against.Given as goal

abbrev pub invariant-loop-i : goal.invariant-loop-i
invariant-loop-i l = (in_turn (map (across_by l.turned (deck_in l.self.lent) (structure l.self.lent) (role_of l.a.0)) (map role_of (list_of l.self.lent.deck.bytes.now l.list))) ≡ in_turn (map (across_by l.turned (deck_in l.self.lent) (structure l.self.lent) (role_of l.a.0)) (drop l.i (map role_of (list_of l.self.lent.deck.bytes.now l.list))))) × Remembered l.self.lent l.memo
