use mathlib.Core.Path.{sym, ◌∙◌}
use native.Mathlib.Omega.{arith}
use Rattle.deck.specs.Content.{deck_of}
use Rattle.deck.specs.Deck.{Axiom}
use Rattle.atoms.specs.Label.{label_of}
use Rattle.atoms.specs.Floor.{floor_label}
use Rattle.atoms.proofs.ListWalks.{taken-end, taken_step}
use Rattle.atoms.proofs.floor.compute_top_floor.Goals as goal

pub loop-i-preserved : goal.loop-i-preserved
loop-i-preserved c =
    let w = c.loop-i in
    w.invariant ∙ taken_step (Axiom.DeclareClass 0) (deck_of c.args.deck.now.bytes.now).axioms w.i _ w.floor (omega (arith, c.axiom_count-i-end.ensures.is)) c.join_axiom.ensures

pub returns : goal.returns
unfolding floor_label label_of
returns c =
    taken-end (Axiom.DeclareClass 0) (deck_of c.args.deck.now.bytes.now).axioms c.loop-i.i _ _ (omega (arith, c.axiom_count-i-end.ensures.is)) ∙ sym c.loop-i.invariant ∙ rw (c.clear.ensures, c.requires.floor_len)
