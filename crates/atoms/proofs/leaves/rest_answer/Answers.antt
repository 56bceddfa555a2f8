use mathlib.Core.Path.{sym, ◌∙◌}
use lib.ListN.{drop}
use Rattle.deck.specs.Reads.{list_of}
use Rattle.atoms.proofs.LeafLaws.{asks-start, asks-next, asks-stop, asks-end}
use Rattle.atoms.proofs.leaves.rest_answer.Goals as goal

pub loop-leaf-preserved : goal.loop-leaf-preserved
loop-leaf-preserved c =
    let w = c.loop-leaf.invariant in
    let G = c.in-Some.ensures.steps in
    let N = rw w.deck at G.step in record { deck = G.deck ∙ w.deck; goes = rw G.stands (w.goes ∙ asks-next _ _ N (sym c.leaf_answer.ensures ∙ c.if-not-leaf_answer.false)) }

pub returns-then-not-leaf_answer : goal.returns-then-not-leaf_answer
returns-then-not-leaf_answer c =
    let l = drop c.args.first (list_of c.args.deck.now.bytes.now c.args.list) in
    let w = c.loop-leaf.invariant in
    let N = rw w.deck at c.in-Some.ensures.steps.step in
    let S = rw (sym c.into_iter-leaf-iterator.ensures.into_iter_gives) at c.of_operands-leaf-items.ensures.same in
    sym (asks-start _ _ l _ _ S ∙ w.goes ∙ asks-stop _ _ N (sym c.leaf_answer.ensures ∙ c.if-not-leaf_answer.true))

pub returns : goal.returns
returns c =
    let l = drop c.args.first (list_of c.args.deck.now.bytes.now c.args.list) in
    let w = c.loop-leaf.invariant in
    let N = rw w.deck at c.in-None.ensures.steps.step in
    let S = rw (sym c.into_iter-leaf-iterator.ensures.into_iter_gives) at c.of_operands-leaf-items.ensures.same in
    sym (asks-start _ _ l _ _ S ∙ w.goes ∙ asks-end _ _ N)
