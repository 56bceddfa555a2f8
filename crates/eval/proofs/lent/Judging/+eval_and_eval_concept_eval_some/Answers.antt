use native.Mathlib.Omega.{arith}
use mathlib.Core.Path.{sym, ap, ◌∙◌}
use lib.ListN.{length}
use Rattle.std.proofs.lemmas.List.{length_push}
use Rattle.std.proofs.lemmas.Iterator.Consumers.{YieldsList-from_first, YieldsList-turn, YieldsList-end}
use Rattle.deck.specs.Reads.{list_of}
use Rattle.deck.proofs.TableLaws.{list_length}
use Rattle.eval.specs.declared.edges.Edge.{Edge}
use Rattle.eval.specs.Edges.{leaves}
use Rattle.eval.specs.InLent.{deck_in, structure, edges_in}
use Rattle.eval.specs.Judge.{judge, some_from}
use Rattle.eval.specs.Standing.{fresh}
use Rattle.eval.specs.Leaving.{left, leaving}
use Rattle.eval.proofs.Walks.{and-end, and_step, and-stop}
use Rattle.eval.proofs.Hits.{hits-end}
use Rattle.eval.proofs.EdgeWalks.{no_edge}
use Rattle.eval.proofs.MemoLaws.{recalled-right}
use Rattle.eval.proofs.LeafLaws.{and_is, some_is, hits-leaving, some-skip, some-step, some-stop, remembered-with}
use Rattle.eval.proofs.LeavingLaws.{leaves-in}
use Rattle.eval.proofs.LentLaws.{edge-fits}
use Rattle.eval.proofs.lent.Judging.+eval_and_eval_concept_eval_some.Goals as goal

pub eval_and-returns-in-Some-clause-is : goal.eval_and-returns-in-Some-clause-is
eval_and-returns-in-Some-clause-is t c =
    recalled-right _ _ c.requires.remembered c.args.owner.0 c.args.e.0 c.requires.e_lt_elements c.recall.result c.recall.ensures _ c.in-Some.is

pub eval_and-eval_concept-requires : goal.eval_and-eval_concept-requires
eval_and-eval_concept-requires t c =
    let l = c.args.list in
    let o = c.requires.and_at.fits.below c.loop-i.i (omega (arith, list_length c.args.self.now.lent.deck.bytes.now l.start l.count)) in
    (omega (arith, o, c.item.ensures), (c.loop-i.invariant.0, (omega (arith, o, c.requires.owner_bound, c.item.ensures), c.requires.e_lt_elements)))

pub eval_and-returns-then-standing : goal.eval_and-returns-then-standing
eval_and-returns-then-standing t c =
    let l = c.args.list in
    let w = c.loop-i in
    let s = c.args.self.now.lent.deck.bytes.now in
    let h = list_length s l.start l.count in
    let v = and-stop _ w.standing (list_of s l) w.i (omega (arith, h)) (rw c.item.ensures at c.eval_concept.ensures.is) c.and-standing.ensures c.if-standing.true ∙ sym w.invariant.1 ∙ and_is _ _ _ _ c.args.self.now.lent.fits c.args.owner.0 c.args.e.0 c.requires.and_at in
    record { is = c.remember.ensures.same ∙ v; kept = remembered-with c.eval_concept.ensures.kept c.args.owner.0 c.args.e.0 c.requires.e_lt_elements v c.remember.ensures.kept }

pub eval_and-loop-i-preserved : goal.eval_and-loop-i-preserved
eval_and-loop-i-preserved t c =
    let l = c.args.list in
    let w = c.loop-i in
    let s = c.args.self.now.lent.deck.bytes.now in
    let h = list_length s l.start l.count in
    (c.eval_concept.ensures.kept, w.invariant.1 ∙ and_step _ w.standing (list_of s l) w.i (omega (arith, h)) (rw c.item.ensures at c.eval_concept.ensures.is) c.and-standing.ensures)

pub eval_and-returns : goal.eval_and-returns
eval_and-returns t c =
    let l = c.args.list in
    let w = c.loop-i in
    let s = c.args.self.now.lent.deck.bytes.now in
    let v = c.close_and.ensures ∙ and-end _ w.standing (list_of s l) w.i (omega (arith, c.loop-i.auto, list_length s l.start l.count)) ∙ sym w.invariant.1 ∙ and_is _ _ _ _ c.args.self.now.lent.fits c.args.owner.0 c.args.e.0 c.requires.and_at in
    record { is = c.remember-2.ensures.same ∙ v; kept = remembered-with w.invariant.0 c.args.owner.0 c.args.e.0 c.requires.e_lt_elements v c.remember-2.ensures.kept }

pub eval_some-returns-in-Some-clause-is : goal.eval_some-returns-in-Some-clause-is
eval_some-returns-in-Some-clause-is t c =
    recalled-right _ _ c.requires.remembered c.args.owner.0 c.args.e.0 c.requires.e_lt_elements c.recall.result c.recall.ensures _ c.in-Some.is

pub eval_some-returns-then-standing : goal.eval_some-returns-then-standing
eval_some-returns-then-standing t c =
    let a = c.args in
    let L = a.self.now.lent in
    let es = edges_in L in
    let w = c.loop-edge in
    let e = c.in-Some-edge.edge in
    let q = c.role_id-r.result.0 in
    let f = judge (deck_in L) (structure L) a.body.0 in
    let y = YieldsList-turn (YieldsList-from_first (λ (e : Edge). e) left (leaving a.e.0 es) (cc)) w.yielded _ w.yielded_by _ c.next.new.self e c.in-Some-edge.is c.next.ensures.steps in
    let v = some-stop (deck_in L) q a.e.0 es f w.standing (length w.yielded) e y.0 (sym y.1) c.is_sub_role.ensures c.if-is_sub_role.true c.eval_concept.ensures.is c.some-standing.ensures c.if-standing.true ∙ sym w.invariant.1 ∙ ap (some_from f fresh) (hits-leaving (deck_in L) q a.e.0 es) ∙ some_is _ _ _ _ L.fits a.owner.0 a.e.0 c.requires.some_at c.role_id-r.ensures in
    record { is = c.remember.ensures.same ∙ v; kept = remembered-with c.eval_concept.ensures.kept a.owner.0 a.e.0 c.requires.e_lt_elements v c.remember.ensures.kept }

pub eval_some-eval_concept-requires : goal.eval_some-eval_concept-requires
eval_some-eval_concept-requires t c =
    let a = c.args in
    let L = a.self.now.lent in
    let es = edges_in L in
    let w = c.loop-edge in
    let e = c.in-Some-edge.edge in
    let y = YieldsList-turn (YieldsList-from_first (λ (e : Edge). e) left (leaving a.e.0 es) (cc)) w.yielded _ w.yielded_by _ c.next.new.self e c.in-Some-edge.is c.next.ensures.steps in
    (omega (arith, c.requires.some_at.body), (w.invariant.0, (omega (arith, c.requires.owner_bound, c.requires.some_at.body), (edge-fits L.deck.bytes.now L.labels.now L.edges.now L.shape L.fits e (leaves-in a.e.0 es (length w.yielded) e y.0 (sym y.1))).to)))

pub eval_some-loop-edge-preserved-else-standing : goal.eval_some-loop-edge-preserved-else-standing
eval_some-loop-edge-preserved-else-standing t c =
    let a = c.args in
    let L = a.self.now.lent in
    let es = edges_in L in
    let w = c.loop-edge in
    let e = c.in-Some-edge.edge in
    let q = c.role_id-r.result.0 in
    let f = judge (deck_in L) (structure L) a.body.0 in
    let y = YieldsList-turn (YieldsList-from_first (λ (e : Edge). e) left (leaving a.e.0 es) (cc)) w.yielded _ w.yielded_by _ c.next.new.self e c.in-Some-edge.is c.next.ensures.steps in
    rw (length_push w.yielded e) (c.eval_concept.ensures.kept, w.invariant.1 ∙ some-step (deck_in L) q a.e.0 es f w.standing (length w.yielded) e y.0 (sym y.1) c.is_sub_role.ensures c.if-is_sub_role.true c.eval_concept.ensures.is c.some-standing.ensures)

pub eval_some-loop-edge-preserved : goal.eval_some-loop-edge-preserved
eval_some-loop-edge-preserved t c =
    let a = c.args in
    let L = a.self.now.lent in
    let es = edges_in L in
    let w = c.loop-edge in
    let e = c.in-Some-edge.edge in
    let q = c.role_id-r.result.0 in
    let f = judge (deck_in L) (structure L) a.body.0 in
    let y = YieldsList-turn (YieldsList-from_first (λ (e : Edge). e) left (leaving a.e.0 es) (cc)) w.yielded _ w.yielded_by _ c.next.new.self e c.in-Some-edge.is c.next.ensures.steps in
    rw (length_push w.yielded e) (w.invariant.0, w.invariant.1 ∙ some-skip (deck_in L) q a.e.0 es f w.standing (length w.yielded) e y.0 (sym y.1) c.is_sub_role.ensures c.if-is_sub_role.false)

pub eval_some-returns : goal.eval_some-returns
eval_some-returns t c =
    let a = c.args in
    let L = a.self.now.lent in
    let es = edges_in L in
    let w = c.loop-edge in
    let q = c.role_id-r.result.0 in
    let f = judge (deck_in L) (structure L) a.body.0 in
    let y = YieldsList-end (YieldsList-from_first (λ (e : Edge). e) left (leaving a.e.0 es) (cc)) w.yielded _ w.yielded_by _ c.next.new.self c.in-None.is c.next.ensures.steps in
    let v = c.close_some.ensures ∙ hits-end (leaves (deck_in L) q a.e.0) (λ (d : Edge). d.to.0) f w.standing no_edge (leaving a.e.0 es) (length w.yielded) (omega (arith, y.1)) ∙ sym w.invariant.1 ∙ ap (some_from f fresh) (hits-leaving (deck_in L) q a.e.0 es) ∙ some_is _ _ _ _ L.fits a.owner.0 a.e.0 c.requires.some_at c.role_id-r.ensures in
    record { is = c.remember-2.ensures.same ∙ v; kept = remembered-with w.invariant.0 a.owner.0 a.e.0 c.requires.e_lt_elements v c.remember-2.ensures.kept }
