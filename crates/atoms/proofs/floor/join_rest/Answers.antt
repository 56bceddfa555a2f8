use mathlib.Core.Path.{sym, ap, ◌∙◌}
use lib.ListN.{drop}
use Rattle.deck.specs.Reads.{list_of}
use Rattle.deck.proofs.SoundLaws.{sound}
use Rattle.atoms.specs.Label.{insert_all}
use Rattle.atoms.proofs.JoinLaws.{takes-start, takes-next, takes-end, rows-leaves}
use Rattle.atoms.proofs.floor.join_rest.Goals as goal

pub loop-leaf-preserved : goal.loop-leaf-preserved
loop-leaf-preserved c =
    let w = c.loop-leaf.invariant in
    let G = c.in-Some.ensures.steps in
    let N = rw w.deck at G.step in record { deck = G.deck ∙ w.deck; goes = rw G.stands (w.goes ∙ takes-next _ _ c.loop-leaf.label N c.join_leaf.ensures) }

pub returns : goal.returns
returns c =
    let l = drop c.args.first (list_of c.args.deck.now.bytes.now c.args.list) in
    let w = c.loop-leaf.invariant in
    let N = rw w.deck at c.in-None.ensures.steps.step in
    let S = rw (sym c.into_iter-leaf-iterator.ensures.into_iter_gives) at c.of_operands-leaf-items.ensures.same in
    sym (ap (insert_all c.args.label.now) (rows-leaves _ (sound _ c.args.deck.now.accepted) l) ∙ takes-start _ _ c.args.label.now l _ _ S ∙ w.goes ∙ takes-end _ _ c.loop-leaf.label N)
