use Prim.Native.Nat.{◌+◌}
use mathlib.Core.Path.{sym, ap, subst, ◌∙◌}
use native.Mathlib.Omega.{arith}
use lib.ListN.{length}
use Rattle.std.proofs.lemmas.List.{length_push}
use Rattle.std.proofs.lemmas.Iterator.Consumers.{YieldsList-from_first, YieldsList-turn, YieldsList-end}
use Rattle.deck.proofs.BelowLaws.{and_left}
use Rattle.eval.specs.declared.edges.Edge.{Edge}
use Rattle.eval.specs.Edges.{leaves}
use Rattle.eval.specs.Judge.{truth}
use Rattle.eval.specs.Leaving.{left, leaving}
use Rattle.eval.specs.Lowest.{lowest_next}
use Rattle.eval.specs.Structure.{has_edge}
use Rattle.eval.specs.declared.judgement.Judgement.{Judgement}
use Rattle.eval.specs.InLent.{deck_in, structure, edges_in}
use Rattle.eval.proofs.LinkLaws.{has-edge-is}
use Rattle.eval.proofs.LeavingLaws.{seen-leaving}
use Rattle.eval.proofs.SeenLaws.{SeenTo, seen_start, seen_skip, seen_next, seen_end}
use Rattle.eval.proofs.lent.Judging.lowest_onward.Goals as goal

pub loop-e-init : goal.loop-e-init
loop-e-init c = rw c.new-lowest.ensures (seen_start _ _ (leaving c.args.y.0 (edges_in c.args.self.now.lent)))

pub loop-e-preserved-then-leaves_by : goal.loop-e-preserved-then-leaves_by
loop-e-preserved-then-leaves_by c =
    let a = c.args in
    let D = deck_in a.self.now.lent in
    let es = leaving a.y.0 (edges_in a.self.now.lent) in
    let e = c.in-Some.e in
    let f : Edge → Judgement = λ d. truth (has_edge D (structure a.self.now.lent) a.sup.0 a.x.0 d.to.0) in
    let t = YieldsList-turn (YieldsList-from_first (λ (e : Edge). e) left es (cc)) c.loop-e.yielded _ c.loop-e.yielded_by _ c.next.new.self e c.in-Some.is c.next.ensures.steps in
    let j = c.from.ensures ∙ ap truth (c.has_edge-linked.ensures ∙ sym (has-edge-is _ a.self.now.lent.labels.now a.self.now.lent.edges.now a.self.now.lent.shape _ _ _)) ∙ ap f t.1 in
    let S = seen_next (leaves D a.b.0 a.y.0) f es e (length c.loop-e.yielded) t.0 (ap (leaves D a.b.0 a.y.0) (sym t.1) ∙ sym c.leaves_by.ensures ∙ c.if-leaves_by.true) j c.loop-e.invariant in
    rw (length_push c.loop-e.yielded e, c.next-lowest.ensures) (subst (λ (d : Edge). SeenTo (leaves D a.b.0 a.y.0) f es (length c.loop-e.yielded + 1) (lowest_next c.loop-e.lowest c.from.result d)) (sym t.1) S)

pub loop-e-preserved : goal.loop-e-preserved
loop-e-preserved c =
    let a = c.args in
    let D = deck_in a.self.now.lent in
    let es = leaving a.y.0 (edges_in a.self.now.lent) in
    let e = c.in-Some.e in
    let t = YieldsList-turn (YieldsList-from_first (λ (e : Edge). e) left es (cc)) c.loop-e.yielded _ c.loop-e.yielded_by _ c.next.new.self e c.in-Some.is c.next.ensures.steps in
    rw (length_push c.loop-e.yielded e) (seen_skip (leaves D a.b.0 a.y.0) _ es e (length c.loop-e.yielded) t.0 (ap (leaves D a.b.0 a.y.0) (sym t.1) ∙ sym c.leaves_by.ensures ∙ c.if-leaves_by.false) c.loop-e.invariant)

pub returns : goal.returns
returns c =
    let a = c.args in
    let es = leaving a.y.0 (edges_in a.self.now.lent) in
    let t = YieldsList-end (YieldsList-from_first (λ (e : Edge). e) left es (cc)) c.loop-e.yielded _ c.loop-e.yielded_by _ c.next.new.self c.in-None.is c.next.ensures.steps in
    seen-leaving _ _ a.y.0 (edges_in a.self.now.lent) (λ e h. and_left _ _ h) (seen_end _ _ es (length c.loop-e.yielded) (omega (arith, t.1)) c.loop-e.invariant)
