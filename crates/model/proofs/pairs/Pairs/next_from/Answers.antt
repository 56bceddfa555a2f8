use Rattle.model.proofs.NextLaws.{nearest-of}
use Rattle.model.proofs.SweepLaws.{sweep-start, sweep-step, sweep-skip}
use Rattle.eval.proofs.IndexLaws.{walk-starts, ahead-on}
use Rattle.deck.specs.Content.{deck_of}
use native.Mathlib.Omega.{arith}
use Rattle.model.proofs.pairs.Pairs.next_from.Goals as goal

pub loop-w-init : goal.loop-w-init
loop-w-init c =
    let s = c.args.self.now in
    let a = s.all in
    rw (c.walk_of-w.ensures.0, c.walk_of-w.ensures.1)
    (record {
      within = omega arith;
      ahead = walk-starts a.edges.now a.elements a.count a.index.now a.indexed c.args.x.0 c.requires.x_lt_elements;
      sweep = sweep-start (deck_of s.deck.bytes.now) a.edges.now s.seen s.role.0 (omega (arith, s.within, a.within)) s.ends_fit c.args.x.0 c.args.after _ c.requires.after_bound (omega arith);
    })

pub jump-w-requires-clause-ahead : goal.jump-w-requires-clause-ahead
jump-w-requires-clause-ahead c = c.loop-w.invariant.ahead

pub loop-w-smaller-then-ne : goal.loop-w-smaller-then-ne
loop-w-smaller-then-ne c =
    omega (arith, c.jump-w.ensures.on, c.jump-w.ensures.within, c.loop-w-test.true)

pub loop-w-preserved-then-ne : goal.loop-w-preserved-then-ne
loop-w-preserved-then-ne c =
    let s = c.args.self.now in
    let a = s.all in
    let w = c.loop-w in
    record {
      within = c.jump-w.ensures.within;
      ahead = c.jump-w.ensures.ahead;
      sweep = sweep-skip (deck_of s.deck.bytes.now) a.edges.now s.seen s.role.0 (omega (arith, s.within, a.within)) s.ends_fit c.args.x.0 c.args.after _ c.requires.after_bound (omega arith) w.w.at c.jump-w.result.at w.best c.loop-w-test.true (omega (arith, c.jump-w.ensures.on)) c.jump-w.ensures.gap w.invariant.sweep;
    }

pub loop-w-preserved : goal.loop-w-preserved
loop-w-preserved c =
    let s = c.args.self.now in
    let a = s.all in
    let w = c.loop-w in
    record {
      within = omega (arith, c.loop-w-test.true, s.within);
      ahead = ahead-on a.edges.now a.elements a.count a.index.now c.args.x.0 (omega arith) w.invariant.ahead;
      sweep = rw (c.nearer-best.ensures, c.edge_at-e.ensures) (sweep-step (deck_of s.deck.bytes.now) a.edges.now s.seen s.role.0 (omega (arith, s.within, a.within)) s.ends_fit c.args.x.0 c.args.after _ c.requires.after_bound (omega arith) w.w.at w.best c.loop-w-test.true w.invariant.sweep);
    }

pub returns : goal.returns
returns c =
    rw c.then_some.ensures (nearest-of _ _ _ _ (c.loop-w.invariant.sweep.all (omega (arith, c.loop-w-test.false))))
