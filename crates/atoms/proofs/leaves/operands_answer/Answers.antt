use mathlib.Core.Path.{sym, ◌∙◌}
use native.Mathlib.Omega.{arith}
use Rattle.deck.specs.Reads.{list_of}
use Rattle.deck.proofs.TableLaws.{list_length}
use Rattle.atoms.proofs.ListWalks.{every-end, every-step, every-stop}
use Rattle.atoms.proofs.LeafLaws.{every-leaf-one}
use Rattle.atoms.proofs.leaves.operands_answer.Goals as goal

pub returns-then-is_and : goal.returns-then-is_and
returns-then-is_and c =
    c.rest_answer.ensures ∙ sym c.loop-i.invariant

pub returns-then-not-leaf_answer : goal.returns-then-not-leaf_answer
returns-then-not-leaf_answer c =
    let w = c.loop-i in
    let a = every-leaf-one _ _ c.operand-o.result.0 (c.is_and.ensures.alone c.if-is_and.false) in
    every-stop 0 (list_of c.args.deck.now.bytes.now c.args.list) w.i _ (omega (arith, list_length c.args.deck.now.bytes.now c.args.list.start c.args.list.count)) (rw c.operand-o.ensures.is at (sym a ∙ sym c.leaf_answer.ensures ∙ c.if-not-leaf_answer.true)) ∙ sym w.invariant

pub loop-i-preserved : goal.loop-i-preserved
loop-i-preserved c =
    let w = c.loop-i in
    let a = every-leaf-one _ _ c.operand-o.result.0 (c.is_and.ensures.alone c.if-is_and.false) in
    w.invariant ∙ every-step 0 (list_of c.args.deck.now.bytes.now c.args.list) w.i _ (omega (arith, list_length c.args.deck.now.bytes.now c.args.list.start c.args.list.count)) (rw c.operand-o.ensures.is at (sym a ∙ sym c.leaf_answer.ensures ∙ c.if-not-leaf_answer.false))

pub returns : goal.returns
returns c =
    every-end 0 (list_of c.args.deck.now.bytes.now c.args.list) c.loop-i.i _ (omega (arith, list_length c.args.deck.now.bytes.now c.args.list.start c.args.list.count)) ∙ sym c.loop-i.invariant
