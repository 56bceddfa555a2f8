use Prim.Native.Nat.{◌+◌, ◌/◌, ◌<◌}
use mathlib.Core.Path.{refl, sym, ◌∙◌}
use native.Mathlib.Omega.{arith}
use lib.ListN.{length}
use Rattle.std.proofs.lemmas.List.{length_push}
use Rattle.std.proofs.lemmas.Iterator.Consumers.{YieldsList-from_first, YieldsList-turn, YieldsList-end}
use Rattle.deck.specs.Content.{deck_of}
use Rattle.eval.specs.declared.edges.Edge.{Edge}
use Rattle.eval.specs.Edges.{edges_of}
use Rattle.eval.specs.Leaving.{left, leaving}
use Rattle.model.proofs.EndsLaws.{marking-start, marking-skip, marking-take, marking-end, leaving-to}
use Rattle.model.proofs.ends.mark_ends.Goals as goal

pub loop-e-init : goal.loop-e-init
loop-e-init c =
    let a = c.args in
    (refl, marking-start (deck_of a.deck.now.bytes.now) a.all.now.elements (edges_of a.all.now.edges.now a.all.now.count) a.r.0 a.x.0 _ ((a.all.now.elements + 63) / 64) (omega arith) c.clear_first.ensures)

pub insert_bit-requires : goal.insert_bit-requires
insert_bit-requires c =
    let a = c.args in
    let es = leaving a.x.0 (edges_of a.all.now.edges.now a.all.now.count) in
    let e = c.in-Some.e in
    let t = YieldsList-turn (YieldsList-from_first (λ (e : Edge). e) left es (cc)) c.loop-e.yielded _ c.loop-e.yielded_by _ c.next.new.self e c.in-Some.is c.next.ensures.steps in
    let f : e.to.0 < a.all.now.elements = leaving-to (deck_of a.deck.now.bytes.now) a.all.now.elements (edges_of a.all.now.edges.now a.all.now.count) a.r.0 a.x.0 c.requires.edges_fit (length c.loop-e.yielded) c.loop-e.bits e t.0 (sym t.1) in
    omega (arith, f, c.loop-e.invariant.0, c.clear_first.auto.words, c.requires.elements_in_bounds)

pub loop-e-preserved-then-row_has : goal.loop-e-preserved-then-row_has
loop-e-preserved-then-row_has c =
    let a = c.args in
    let D = deck_of a.deck.now.bytes.now in
    let E = edges_of a.all.now.edges.now a.all.now.count in
    let es = leaving a.x.0 E in
    let e = c.in-Some.e in
    let t = YieldsList-turn (YieldsList-from_first (λ (e : Edge). e) left es (cc)) c.loop-e.yielded _ c.loop-e.yielded_by _ c.next.new.self e c.in-Some.is c.next.ensures.steps in
    let f : e.to.0 < a.all.now.elements = leaving-to D a.all.now.elements E a.r.0 a.x.0 c.requires.edges_fit (length c.loop-e.yielded) c.loop-e.bits e t.0 (sym t.1) in
    (c.insert_bit.auto.words ∙ c.loop-e.invariant.0, rw (length_push c.loop-e.yielded e, c.insert_bit.ensures) (marking-take D a.all.now.elements E a.r.0 a.x.0 c.requires.edges_fit (length c.loop-e.yielded) c.loop-e.bits e t.0 (sym t.1) (rw c.sub_roles-row.ensures.is at (sym c.row_has.ensures ∙ c.if-row_has.true)) (omega (arith, f, c.loop-e.invariant.0, c.clear_first.auto.words, c.requires.elements_in_bounds)) c.loop-e.invariant.1))

pub loop-e-preserved : goal.loop-e-preserved
loop-e-preserved c =
    let a = c.args in
    let D = deck_of a.deck.now.bytes.now in
    let E = edges_of a.all.now.edges.now a.all.now.count in
    let es = leaving a.x.0 E in
    let e = c.in-Some.e in
    let t = YieldsList-turn (YieldsList-from_first (λ (e : Edge). e) left es (cc)) c.loop-e.yielded _ c.loop-e.yielded_by _ c.next.new.self e c.in-Some.is c.next.ensures.steps in
    rw (length_push c.loop-e.yielded e)
    (c.loop-e.invariant.0, marking-skip D a.all.now.elements E a.r.0 a.x.0 c.requires.edges_fit (length c.loop-e.yielded) c.loop-e.bits e t.0 (sym t.1) (rw c.sub_roles-row.ensures.is at (sym c.row_has.ensures ∙ c.if-row_has.false)) c.loop-e.invariant.1)

pub returns : goal.returns
returns c =
    let a = c.args in
    let es = leaving a.x.0 (edges_of a.all.now.edges.now a.all.now.count) in
    let t = YieldsList-end (YieldsList-from_first (λ (e : Edge). e) left es (cc)) c.loop-e.yielded _ c.loop-e.yielded_by _ c.next.new.self c.in-None.is c.next.ensures.steps in
    marking-end (deck_of a.deck.now.bytes.now) a.all.now.elements (edges_of a.all.now.edges.now a.all.now.count) a.r.0 a.x.0 (length c.loop-e.yielded) c.loop-e.bits (omega (arith, t.1)) c.loop-e.invariant.1
