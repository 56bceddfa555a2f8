use Prim.Native.Nat.{ℕ, ◌+◌, ◌*◌}
use mathlib.Core.Path.{◌≡◌}
use lib.ListN.{length, drop}
use Rattle.deck.specs.Reads.{list_of}
use Rattle.eval.specs.declared.judgement.Judgement.{Judgement}
use Rattle.eval.specs.Leaving.{leaving}
use Rattle.eval.specs.Judge.{judge, and_from, some_from}
use Rattle.eval.specs.Standing.{fresh}
use Rattle.eval.specs.InLent.{deck_in, structure, edges_in, Remembered}
use Rattle.eval.proofs.LeafLaws.{hits_from}
use Rattle.eval.proofs.lent.Judging.+eval_and_eval_concept_eval_some.Given as goal

abbrev pub decreases-eval_and : goal.decreases-eval_and
decreases-eval_and l = l.owner.0 * 2

abbrev pub decreases-eval_concept : goal.decreases-eval_concept
decreases-eval_concept l = l.concept.0 * 2 + 1

abbrev pub decreases-eval_some : goal.decreases-eval_some
decreases-eval_some l = l.owner.0 * 2

abbrev pub invariant-eval_and-loop-i : goal.invariant-eval_and-loop-i
invariant-eval_and-loop-i l = let f : ℕ → Judgement = λ o. judge (deck_in l.self.lent) (structure l.self.lent) o l.e.0 in
    Remembered l.self.lent l.memo × (and_from f fresh (list_of l.self.lent.deck.bytes.now l.list) ≡ and_from f l.standing (drop l.i (list_of l.self.lent.deck.bytes.now l.list)))

abbrev pub invariant-eval_some-loop-edge : goal.invariant-eval_some-loop-edge
invariant-eval_some-loop-edge l = let f = judge (deck_in l.self.lent) (structure l.self.lent) l.body.0 in
    let es = leaving l.e.0 (edges_in l.self.lent) in
    Remembered l.self.lent l.memo
    × (some_from f fresh (hits_from (deck_in l.self.lent) l.r.0 l.e.0 es) ≡ some_from f l.standing (hits_from (deck_in l.self.lent) l.r.0 l.e.0 (drop (length l.yielded) es)))
