use mathlib.Core.Path.{sym, ◌∙◌}
use Rattle.deck.proofs.SoundLaws.{sound}
use Rattle.atoms.proofs.LargeLaws.{coming-start, coming-next, coming-end}
use Rattle.atoms.proofs.large.join_leaves.Goals as goal

pub loop-leaf-preserved : goal.loop-leaf-preserved
loop-leaf-preserved c =
    let w = c.loop-leaf.invariant in
    let G = c.in-Some.ensures.steps in
    let N = rw w.deck at G.step in record { deck = G.deck ∙ w.deck; goes = rw G.stands (w.goes ∙ coming-next _ _ _ N c.join_leaf-seen.ensures) }

pub returns : goal.returns
returns c =
    let w = c.loop-leaf.invariant in
    let N = rw w.deck at c.in-None.ensures.steps.step in
    let S = rw (sym c.into_iter-leaf-iterator.ensures.into_iter_gives) at c.of_concept-leaf-items.ensures.same in
    coming-end _ _ _ N ∙ sym w.goes ∙ sym (coming-start _ _ (sound _ c.args.deck.now.accepted) c.args.concept.0 _ _ S _)
